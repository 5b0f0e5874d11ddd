use Rattle.std.proofs.Common.{◌≡◌, ◌⊎◌, List, ℕ, Some, true, false, sym, ap, subst, ◌∙◌}
use Rattle.std.specs.FinMap.{contains_key, get}
use Rattle.std.specs.Option.{option_map_or}
use Rattle.number_links.specs.Facts.{nothing}
use Rattle.number_links.proofs.OptionLemmas.{some_is}
use Rattle.object_table.specs.declared.word.Word.{Word}
use Rattle.object_table.specs.Holders.{HoldingsState}
use Rattle.object_table.specs.Ledgers.{at_ledger, ledger_at}
use Rattle.object_table.specs.Links.{NamedLinks, is_among, leads_nowhere, next_named}
use Rattle.object_table.specs.Views.{words_under}
use Rattle.object_table.specs.Walked.{IsLedTo}
use Rattle.object_table.specs.Words.{Words, is_visible, kept_words, words_that}
use Rattle.object_table.proofs.ChangeLemmas.{ledger_is}
use Rattle.object_table.proofs.LinkLemmas.{same_links, still_links}
use Rattle.object_table.proofs.holdings.Holdings.retain_reached.Goals as goal

pub numbers_reached-requires-clause-own : goal.numbers_reached-requires-clause-own
numbers_reached-requires-clause-own c = c.self.invariant.0.own c.args.tenant.now c.in-Some.own.now (sym c.in-Some.ensures)

pub returns-in_err-reached-clause-links : goal.returns-in_err-reached-clause-links
returns-in_err-reached-clause-links c q to is =
    let rows = c.self.inside.table.entries in
    let words = ap (words_under rows) c.in-Some.ensures ∙ ledger_is rows c.self.inside.ledgers c.args.tenant.now ∙ ap (λ (s : HoldingsState). ledger_at s.ledgers c.args.tenant.now) c.self.view_is in
    let links = ap (λ (s : HoldingsState). s.links) c.self.view_is in
    subst (λ (p : Words × NamedLinks). (get p.1 q ≡ Some to) ⊎ ((to ≡ nothing) × (option_map_or (λ (word : Word). leads_nowhere word.kind) (get (words_that is_visible p.0) q) false ≡ true))) (λ i. (words i, links i)) (c.numbers_reached.ensures.links q to is)

pub returns-in_default-reached-clause-links : goal.returns-in_default-reached-clause-links
returns-in_default-reached-clause-links c q to is =
    let rows = c.self.inside.table.entries in
    let words = ap (words_under rows) c.in-Some.ensures ∙ ledger_is rows c.self.inside.ledgers c.args.tenant.now ∙ ap (λ (s : HoldingsState). ledger_at s.ledgers c.args.tenant.now) c.self.view_is in
    let links = ap (λ (s : HoldingsState). s.links) c.self.view_is in
    subst (λ (p : Words × NamedLinks). (get p.1 q ≡ Some to) ⊎ ((to ≡ nothing) × (option_map_or (λ (word : Word). leads_nowhere word.kind) (get (words_that is_visible p.0) q) false ≡ true))) (λ i. (words i, links i)) (c.numbers_reached.ensures.links q to is)

pub invariant_of-self-2 : goal.invariant_of-self-2
invariant_of-self-2 c = (
  c.keep_numbers.ensures.held,
  still_links c.self.inside.table.entries c.keep_numbers.new.table.entries c.numbers_reached.new.links c.invariant.ensures.rows c.invariant-2.ensures.rows c.numbers_reached.ensures.linked c.keep_numbers.ensures.numbers,
)

pub returns-clause-links : goal.returns-clause-links
returns-clause-links c q to is =
    let rows = c.self.inside.table.entries in
    let same = same_links rows c.keep_numbers.new.table.entries c.numbers_reached.new.links c.invariant.ensures.rows c.invariant-2.ensures.rows c.numbers_reached.ensures.linked c.keep_numbers.ensures.numbers in
    let words = ap (words_under rows) c.in-Some.ensures ∙ ledger_is rows c.self.inside.ledgers c.args.tenant.now ∙ ap (λ (s : HoldingsState). ledger_at s.ledgers c.args.tenant.now) c.self.view_is in
    let links = ap (λ (s : HoldingsState). s.links) c.self.view_is in
    subst (λ (p : Words × NamedLinks). (get p.1 q ≡ Some to) ⊎ ((to ≡ nothing) × (option_map_or (λ (word : Word). leads_nowhere word.kind) (get (words_that is_visible p.0) q) false ≡ true))) (λ i. (words i, links i))
    (c.numbers_reached.ensures.links q to (ap (λ m. get m q) (sym same) ∙ is))

pub returns-clause-retained : goal.returns-clause-retained
returns-clause-retained c _ =
    let rows = c.self.inside.table.entries in
    let t = c.args.tenant.now in
    let roots = c.args.roots.now in
    let numbers = c.in-Some-reached.numbers in
    let found = c.in_ok-reached.reached in
    let is = c.in-Some-reached.is in
    let words = ap (words_under rows) c.in-Some.ensures ∙ ledger_is rows c.self.inside.ledgers t ∙ ap (λ (s : HoldingsState). ledger_at s.ledgers t) c.self.view_is in
    let links = ap (λ (s : HoldingsState). s.links) c.self.view_is in
    record {
      reached = is_among rows numbers;
      only = subst (λ (p : Words × NamedLinks). (name : List ℕ) → is_among rows numbers name ≡ true → IsLedTo (words_that is_visible p.0) (next_named p.1) roots name) (λ i. (words i, links i)) (some_is found numbers _ is c.in_ok-reached.ensures.only);
      all = subst (λ (p : Words × NamedLinks). (name : List ℕ) → IsLedTo (words_that is_visible p.0) (next_named p.1) roots name → is_among rows numbers name ≡ true) (λ i. (words i, links i)) (some_is found numbers _ is c.in_ok-reached.ensures.all);
      known = subst (λ (p : Words × NamedLinks). (name : List ℕ) → IsLedTo (words_that is_visible p.0) (next_named p.1) roots name
          → (option_map_or (λ (word : Word). leads_nowhere word.kind) (get (words_that is_visible p.0) name) false ≡ true) ⊎ (contains_key p.1 name ≡ true)) (λ i. (words i, links i)) (some_is found numbers _ is c.in_ok-reached.ensures.known);
      ledgers = c.keep_numbers.ensures.words ∙ ap (λ (s : HoldingsState). at_ledger s.ledgers t (kept_words (is_among rows numbers))) c.self.view_is;
    }
