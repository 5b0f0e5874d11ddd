use Rattle.std.proofs.Common.{◌≡◌, ◌⊎◌, List, ℕ, true, false, sym, ap, subst, ◌∙◌}
use Rattle.std.specs.Prelude.{IfOk, IfSome}
use Rattle.std.specs.FinMap.{contains_key, get}
use Rattle.std.specs.HashSet.{contains}
use Rattle.std.specs.Option.{option_map_or}
use Rattle.git_name.specs.Same.{same_name}
use Rattle.object_table.specs.declared.word.Word.{Word}
use Rattle.object_table.specs.Holders.{HoldingsState}
use Rattle.object_table.specs.Ledgers.{ledger_at}
use Rattle.object_table.specs.Links.{NamedLinks, leads_nowhere, parents_named}
use Rattle.object_table.specs.Views.{words_under}
use Rattle.object_table.specs.Walked.{IsBetween, IsMet}
use Rattle.object_table.specs.Words.{Words, is_visible, words_that}
use Rattle.object_table.proofs.ChangeLemmas.{ledger_is}
use Rattle.object_table.proofs.holdings.Holdings.history.Goals as goal

pub names_in_history-requires-clause-own : goal.names_in_history-requires-clause-own
names_in_history-requires-clause-own c = c.self.invariant.0.own c.args.tenant.now c.in-Some.own.now (sym c.in-Some.ensures)

pub returns-clause-only : goal.returns-clause-only
returns-clause-only c =
    let rows = c.self.inside.table.entries in
    let words = ap (words_under rows) c.in-Some.ensures ∙ ledger_is rows c.self.inside.ledgers c.args.tenant.now ∙ ap (λ (s : HoldingsState). ledger_at s.ledgers c.args.tenant.now) c.self.view_is in
    let links = ap (λ (s : HoldingsState). s.links) c.self.view_is in
    subst (λ (p : Words × NamedLinks). IfOk c.names_in_history.result (λ found. IfSome found (λ names. (name : List ℕ) → contains same_name names name ≡ true → IsBetween (words_that is_visible p.0) (parents_named p.1) c.args.wanted.now c.args.excluded.now name))) (λ i. (words i, links i)) c.names_in_history.ensures.only

pub returns-clause-all : goal.returns-clause-all
returns-clause-all c =
    let rows = c.self.inside.table.entries in
    let words = ap (words_under rows) c.in-Some.ensures ∙ ledger_is rows c.self.inside.ledgers c.args.tenant.now ∙ ap (λ (s : HoldingsState). ledger_at s.ledgers c.args.tenant.now) c.self.view_is in
    let links = ap (λ (s : HoldingsState). s.links) c.self.view_is in
    subst (λ (p : Words × NamedLinks). IfOk c.names_in_history.result (λ found. IfSome found (λ names. (name : List ℕ) → IsBetween (words_that is_visible p.0) (parents_named p.1) c.args.wanted.now c.args.excluded.now name → contains same_name names name ≡ true))) (λ i. (words i, links i)) c.names_in_history.ensures.all

pub returns-clause-known : goal.returns-clause-known
returns-clause-known c =
    let rows = c.self.inside.table.entries in
    let words = ap (words_under rows) c.in-Some.ensures ∙ ledger_is rows c.self.inside.ledgers c.args.tenant.now ∙ ap (λ (s : HoldingsState). ledger_at s.ledgers c.args.tenant.now) c.self.view_is in
    let links = ap (λ (s : HoldingsState). s.links) c.self.view_is in
    subst (λ (p : Words × NamedLinks). IfOk c.names_in_history.result (λ found. IfSome found (λ names. (name : List ℕ) → IsMet (words_that is_visible p.0) (parents_named p.1) c.args.wanted.now c.args.excluded.now name
    → (option_map_or (λ (word : Word). leads_nowhere word.kind) (get (words_that is_visible p.0) name) false ≡ true) ⊎ (contains_key p.1 name ≡ true)))) (λ i. (words i, links i)) c.names_in_history.ensures.known
