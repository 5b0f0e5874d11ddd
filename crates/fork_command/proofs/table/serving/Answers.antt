use Rattle.std.proofs.Common.{ap, ap₂, ◌≡◌, ◌∙◌}
use Rattle.std.proofs.lemmas.Result.{IfOk-weaker}
use Rattle.clap.specs.Words.{App, app_of, with_subcommand}
use Rattle.fork_command.specs.Table.{check_app, hash_object_app, run_app, serve_app, top_app}
use Rattle.fork_command.proofs.table.serving.Goals as goal

pub returns : goal.returns
returns c =
    let top_is = c.top.ensures.table in
    let first_is : app_of c.in_ok-subcommand.field-0 ≡ with_subcommand top_app hash_object_app.top =
    c.in_ok-subcommand.ensures.shape c.in_ok-hash_object.ensures.local ∙ ap₂ with_subcommand top_is (ap (λ (a : App). a.top) c.in_ok-hash_object.ensures.table) in
    let second_is : app_of c.in_ok-subcommand-2.field-0 ≡ with_subcommand (with_subcommand top_app hash_object_app.top) run_app.top =
    c.in_ok-subcommand-2.ensures.shape c.in_ok-run.ensures.local ∙ ap₂ with_subcommand first_is (ap (λ (a : App). a.top) c.in_ok-run.ensures.table) in
    let third_is : app_of c.in_ok-subcommand-3.field-0 ≡ with_subcommand (with_subcommand (with_subcommand top_app hash_object_app.top) run_app.top) serve_app.top =
    c.in_ok-subcommand-3.ensures.shape c.in_ok-serve.ensures.local ∙ ap₂ with_subcommand second_is (ap (λ (a : App). a.top) c.in_ok-serve.ensures.table) in
    let fourth_is : app_of c.in_ok-subcommand-4.field-0 ≡ with_subcommand (with_subcommand (with_subcommand (with_subcommand top_app hash_object_app.top) run_app.top) serve_app.top) check_app.top =
    c.in_ok-subcommand-4.ensures.shape c.in_ok-check.ensures.local ∙ ap₂ with_subcommand third_is (ap (λ (a : App). a.top) c.in_ok-check.ensures.table) in
    record {
      table = IfOk-weaker c.subcommand-5.result _ _ (λ r h. h.shape c.in_ok-upgrade.ensures.local ∙ ap₂ with_subcommand fourth_is (ap (λ (a : App). a.top) c.in_ok-upgrade.ensures.table)) c.subcommand-5.ensures;
    }
