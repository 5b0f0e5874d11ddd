use Rattle.std.proofs.Common.{ap, ap₂, ◌≡◌, ◌∙◌}
use Rattle.std.proofs.lemmas.Result.{IfOk-weaker}
use Rattle.clap.specs.Words.{App, app_of, with_subcommand}
use Rattle.fork_command.specs.Table.{add_tenant_app, remove_tenant_app, serving_app, set_limit_app, table_app}
use Rattle.fork_command.proofs.table.table.Goals as goal

pub returns : goal.returns
unfolding table_app
returns c =
    let first_is : app_of c.in_ok-subcommand.field-0 ≡ with_subcommand serving_app add_tenant_app.top =
    c.in_ok-subcommand.ensures.shape c.in_ok-add_tenant.ensures.local ∙ ap₂ with_subcommand c.in_ok-serving.ensures.table (ap (λ (a : App). a.top) c.in_ok-add_tenant.ensures.table) in
    let second_is : app_of c.in_ok-subcommand-2.field-0 ≡ with_subcommand (with_subcommand serving_app add_tenant_app.top) set_limit_app.top =
    c.in_ok-subcommand-2.ensures.shape c.in_ok-set_limit.ensures.local ∙ ap₂ with_subcommand first_is (ap (λ (a : App). a.top) c.in_ok-set_limit.ensures.table) in
    let third_is : app_of c.in_ok-subcommand-3.field-0 ≡ with_subcommand (with_subcommand (with_subcommand serving_app add_tenant_app.top) set_limit_app.top) remove_tenant_app.top =
    c.in_ok-subcommand-3.ensures.shape c.in_ok-remove_tenant.ensures.local ∙ ap₂ with_subcommand second_is (ap (λ (a : App). a.top) c.in_ok-remove_tenant.ensures.table) in
    record {
      table = IfOk-weaker c.subcommand-4.result _ _ (λ r h. h.shape c.in_ok-repack.ensures.local ∙ ap₂ with_subcommand third_is (ap (λ (a : App). a.top) c.in_ok-repack.ensures.table)) c.subcommand-4.ensures;
    }
