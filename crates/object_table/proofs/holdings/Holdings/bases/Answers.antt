use Rattle.std.proofs.Common.{◌≡◌, [], ◌∷◌, List, ℕ, true, sym, ap, subst, ◌∙◌}
use Rattle.std.specs.Prelude.{IfOk, IfSome}
use Rattle.std.specs.FinMap.{contains_key}
use Rattle.std.specs.HashSet.{contains}
use Rattle.git_name.specs.Same.{same_name}
use Rattle.object_table.specs.Holders.{HoldingsState}
use Rattle.object_table.specs.Ledgers.{ledger_at}
use Rattle.object_table.specs.Links.{NamedLinks, parents_named}
use Rattle.object_table.specs.Views.{words_under}
use Rattle.object_table.specs.Walked.{IsBest, IsMet}
use Rattle.object_table.specs.Words.{Words, is_visible, words_that}
use Rattle.object_table.proofs.ChangeLemmas.{ledger_is}
use Rattle.object_table.proofs.holdings.Holdings.bases.Goals as goal

pub base_names-requires-clause-own : goal.base_names-requires-clause-own
base_names-requires-clause-own c = c.self.invariant.0.own c.args.tenant.now c.in-Some.own.now (sym c.in-Some.ensures)

pub returns-clause-only : goal.returns-clause-only
returns-clause-only c =
    let rows = c.self.inside.table.entries in
    let words = ap (words_under rows) c.in-Some.ensures ∙ ledger_is rows c.self.inside.ledgers c.args.tenant.now ∙ ap (λ (s : HoldingsState). ledger_at s.ledgers c.args.tenant.now) c.self.view_is in
    let links = ap (λ (s : HoldingsState). s.links) c.self.view_is in
    subst (λ (p : Words × NamedLinks). IfOk c.base_names.result (λ found. IfSome found (λ names. (name : List ℕ) → contains same_name names name ≡ true → IsBest (words_that is_visible p.0) (parents_named p.1) c.args.a c.args.b name))) (λ i. (words i, links i)) c.base_names.ensures.only

pub returns-clause-all : goal.returns-clause-all
returns-clause-all c =
    let rows = c.self.inside.table.entries in
    let words = ap (words_under rows) c.in-Some.ensures ∙ ledger_is rows c.self.inside.ledgers c.args.tenant.now ∙ ap (λ (s : HoldingsState). ledger_at s.ledgers c.args.tenant.now) c.self.view_is in
    let links = ap (λ (s : HoldingsState). s.links) c.self.view_is in
    subst (λ (p : Words × NamedLinks). IfOk c.base_names.result (λ found. IfSome found (λ names. (name : List ℕ) → IsBest (words_that is_visible p.0) (parents_named p.1) c.args.a c.args.b name → contains same_name names name ≡ true))) (λ i. (words i, links i)) c.base_names.ensures.all

pub returns-clause-known : goal.returns-clause-known
returns-clause-known c =
    let rows = c.self.inside.table.entries in
    let words = ap (words_under rows) c.in-Some.ensures ∙ ledger_is rows c.self.inside.ledgers c.args.tenant.now ∙ ap (λ (s : HoldingsState). ledger_at s.ledgers c.args.tenant.now) c.self.view_is in
    let links = ap (λ (s : HoldingsState). s.links) c.self.view_is in
    subst (λ (p : Words × NamedLinks). IfOk c.base_names.result (λ found. IfSome found (λ names. (name : List ℕ) → IsMet (words_that is_visible p.0) (parents_named p.1) (c.args.a ∷ []) (c.args.b ∷ []) name → contains_key p.1 name ≡ true))) (λ i. (words i, links i)) c.base_names.ensures.known
