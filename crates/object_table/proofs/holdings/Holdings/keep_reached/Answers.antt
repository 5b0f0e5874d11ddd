use Rattle.std.proofs.Common.{◌≡◌, ◌⊎◌, Some, true, false, sym, ap, subst, ◌∙◌}
use Rattle.std.specs.FinMap.{get}
use Rattle.std.specs.Option.{option_map_or}
use Rattle.number_links.specs.Facts.{nothing}
use Rattle.object_table.specs.declared.word.Word.{Word}
use Rattle.object_table.specs.Holders.{HoldingsState}
use Rattle.object_table.specs.Ledgers.{ledger_at}
use Rattle.object_table.specs.Links.{NamedLinks, leads_nowhere}
use Rattle.object_table.specs.Views.{words_under}
use Rattle.object_table.specs.Words.{Words, is_visible, words_that}
use Rattle.object_table.proofs.ChangeLemmas.{ledger_is}
use Rattle.object_table.proofs.holdings.Holdings.keep_reached.Goals as goal

pub keep_names-requires-clause-own : goal.keep_names-requires-clause-own
keep_names-requires-clause-own c = c.self.invariant.0.own c.args.tenant.now c.in-Some.own.now (sym c.in-Some.ensures)

pub returns-clause-links : goal.returns-clause-links
returns-clause-links c q to is =
    let rows = c.self.inside.table.entries in
    let words = ap (words_under rows) c.in-Some.ensures ∙ ledger_is rows c.self.inside.ledgers c.args.tenant.now ∙ ap (λ (s : HoldingsState). ledger_at s.ledgers c.args.tenant.now) c.self.view_is in
    let links = ap (λ (s : HoldingsState). s.links) c.self.view_is in
    subst (λ (p : Words × NamedLinks). (get p.1 q ≡ Some to) ⊎ ((to ≡ nothing) × (option_map_or (λ (word : Word). leads_nowhere word.kind) (get (words_that is_visible p.0) q) false ≡ true))) (λ i. (words i, links i)) (c.keep_names.ensures.links q to is)
