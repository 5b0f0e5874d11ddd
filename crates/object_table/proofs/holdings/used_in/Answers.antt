use Rattle.std.proofs.Common.{ap, sym, ◌∙◌}
use Rattle.object_table.specs.Totals.{capped, used_by}
use Rattle.object_table.specs.Views.{words_under}
use Rattle.object_table.proofs.ChangeLemmas.{capped_small, ledger_is}
use Rattle.object_table.proofs.PublishLemmas.{nothing_used}
use Rattle.object_table.proofs.SettlingLemmas.{used_small}
use Rattle.object_table.proofs.holdings.used_in.Goals as goal

pub returns-in_default : goal.returns-in_default
returns-in_default c =
    sym (ap (λ w. capped (used_by w)) (sym (ledger_is c.args.table.now.entries c.args.ledgers.now c.args.tenant.now)) ∙ ap (λ o. capped (used_by (words_under c.args.table.now.entries o))) (sym c.in_default.ensures) ∙ ap capped nothing_used)

pub returns : goal.returns
returns c =
    let rows = c.args.table.now.entries in
    let own = c.in-Some.ledger.now in
    let is = c.requires.held.own c.args.tenant.now own (sym c.in-Some.ensures) in
    c.used.ensures ∙ capped_small own.used (used_small rows own c.invariant.ensures.rows is) ∙ ap capped is.visible
    ∙ ap (λ o. capped (used_by (words_under rows o))) c.in-Some.ensures ∙ ap (λ w. capped (used_by w)) (ledger_is rows c.args.ledgers.now c.args.tenant.now)
