use Rattle.std.proofs.Common.{None, ap, false, not, subst, true, ◌∙◌}
use Rattle.std.specs.Option.{option_map}
use Rattle.fork_model.specs.Answer.{part_drop_answer}
use Rattle.fork_host.specs.Rows.{Gives}
use Rattle.fork_host.specs.Shown.{Account, shown}
use Rattle.fork_host.proofs.PartLemmas.{with_upload, drop_refused, drop_row, some_told}
use Rattle.fork_host.specs.contracts.tenant.Tenant as tenant
use Rattle.fork_host.proofs.tenant.Tenant.part_drop.Goals as goal

pub returns-then-is_none-clause-row : goal.returns-then-is_none-clause-row
returns-then-is_none-clause-row g c =
    let own = c.args.own.now in
    subst (λ (a : Account). Gives (part_drop_answer (shown a own.vault.now own.tenant.now)) (shown a own.vault.now own.tenant.now) _ (shown a own.vault.now own.tenant.now)) c.self.view_is
    (drop_refused (tenant.the_view c.self.inside) own.tenant.now own.vault.now
    (some_told (λ upload. upload.brief) c.self.inside.upload false (c.is_none.ensures ∙ ap not c.if-is_none.true)))

pub returns-clause-row : goal.returns-clause-row
returns-clause-row g c =
    let own = c.args.own.now in
    let new = c.discard.new.own in
    let now = shown (with_upload (tenant.the_view c.self.inside) None) new.vault.now own.tenant.now in
    subst (λ (a : Account). Gives (part_drop_answer (shown a own.vault.now own.tenant.now)) (shown a own.vault.now own.tenant.now) c.done.result now) c.self.view_is
    (drop_row (tenant.the_view c.self.inside) own.tenant.now (option_map (λ upload. upload.brief) c.self.inside.upload) own.vault.now new.vault.now c.done.result
    (some_told (λ upload. upload.brief) c.self.inside.upload true (c.is_none.ensures ∙ ap not c.if-is_none.false)) c.done.ensures c.discard.ensures.still)
