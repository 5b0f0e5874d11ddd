use Rattle.std.proofs.Common.{◌≡◌, ap, sym, subst, ◌∙◌}
use Rattle.std.specs.Prelude.{IfOk}
use Rattle.std.specs.FinMap.{keys}
use Rattle.object_table.specs.Views.{words_under}
use Rattle.object_table.specs.Words.{is_visible, words_that}
use Rattle.object_table.proofs.ChangeLemmas.{ledger_is}
use Rattle.object_table.proofs.ListingLemmas.{no_names}
use Rattle.object_table.proofs.holdings.names_in.Goals as goal

pub returns-in_default : goal.returns-in_default
returns-in_default c =
    let rows = c.args.table.now.entries in
    c.new.ensures.items ∙ sym (ap (λ w. keys (words_that is_visible w)) (sym (ledger_is rows c.args.ledgers.now c.args.tenant.now)) ∙ ap (λ o. keys (words_that is_visible (words_under rows o))) (sym c.in_default.ensures) ∙ no_names is_visible)

pub returns : goal.returns
returns c =
    let rows = c.args.table.now.entries in
    subst (λ w. IfOk c.seen_names.result (λ names. names.items ≡ keys (words_that is_visible w)))
    (ap (words_under rows) c.in-Some.ensures ∙ ledger_is rows c.args.ledgers.now c.args.tenant.now) c.seen_names.ensures

pub seen_names-requires : goal.seen_names-requires
seen_names-requires c = record { own = c.requires.held.own c.args.tenant.now c.in-Some.ledger.now (sym c.in-Some.ensures) }
