use Rattle.std.proofs.Common.{ap, sym, ◌∙◌}
use Rattle.std.specs.FinMap as map
use Rattle.object_table.specs.Views.{words_under}
use Rattle.object_table.specs.Words.{is_visible, words_that}
use Rattle.object_table.proofs.ChangeLemmas.{ledger_is}
use Rattle.object_table.proofs.ListingLemmas.{none_counted}
use Rattle.object_table.proofs.holdings.seen_count_in.Goals as goal

pub returns-in_default : goal.returns-in_default
returns-in_default c =
    let rows = c.args.table.now.entries in
    sym (ap (λ w. map.len (words_that is_visible w)) (sym (ledger_is rows c.args.ledgers.now c.args.tenant.now)) ∙ ap (λ o. map.len (words_that is_visible (words_under rows o))) (sym c.in_default.ensures) ∙ none_counted is_visible)

pub returns : goal.returns
returns c =
    let rows = c.args.table.now.entries in
    c.count_seen.ensures ∙ ap (λ o. map.len (words_that is_visible (words_under rows o))) c.in-Some.ensures
    ∙ ap (λ w. map.len (words_that is_visible w)) (ledger_is rows c.args.ledgers.now c.args.tenant.now)

pub count_seen-requires : goal.count_seen-requires
count_seen-requires c = record { own = c.requires.held.own c.args.tenant.now c.in-Some.ledger.now (sym c.in-Some.ensures) }
