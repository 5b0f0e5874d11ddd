use Rattle.std.proofs.Common.{subst, sym, ◌∙◌}
use Rattle.fork_request.specs.Asked.{ask_of}
use Rattle.fork_model.specs.Context.{nothing_offered}
use Rattle.fork_model.proofs.DisclosureLemmas.{unlooked}
use Rattle.fork_ledger.specs.Tenants.{private_of}
use Rattle.fork_host.specs.Rows.{YieldsOver}
use Rattle.fork_host.specs.Shown.{shown}
use Rattle.fork_host.proofs.TakenFromLemmas.{looked_at}
use Rattle.fork_host.proofs.WholeLemmas.{others_made}
use Rattle.fork_host.proofs.accounts.answer_met.Goals as goal

pub returns-then-looks_at_offers-clause-others : goal.returns-then-looks_at_offers-clause-others
returns-then-looks_at_offers-clause-others g c =
    others_made c.args.name.now c.args.tenant.now c.look.new.tenant (private_of c.args.vault.now.tenants c.args.name.now) (private_of c.look.new.vault.tenants c.args.name.now) c.look.ensures.made

pub returns-clause-row : goal.returns-clause-row
returns-clause-row g c = λ context own met.
    let view = shown c.args.tenant.now c.args.vault.now c.args.name.now in
    subst (λ row. YieldsOver c.args.vault.now.honest row view c.answer_from.result (shown c.answer_from.new.tenant c.answer_from.new.vault c.args.name.now))
    (sym (unlooked context (nothing_offered c.args.name.now) view (ask_of c.args.request) own (sym c.looks_at_offers.ensures ∙ c.if-looks_at_offers.false))) c.answer_from.ensures.row

pub returns-clause-takes : goal.returns-clause-takes
returns-clause-takes g c = λ context giver word copy met is.
    absurd (looked_at (ask_of c.args.request) giver word copy (sym c.looks_at_offers.ensures ∙ c.if-looks_at_offers.false) is)

pub returns-clause-forked : goal.returns-clause-forked
returns-clause-forked g c = λ context giver word copy met is done.
    absurd (looked_at (ask_of c.args.request) giver word copy (sym c.looks_at_offers.ensures ∙ c.if-looks_at_offers.false) is)
