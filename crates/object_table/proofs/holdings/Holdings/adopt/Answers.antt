use Rattle.object_table.specs.Holders.{HoldingsState}
use Rattle.object_table.proofs.LinkLemmas.{same_links, still_links}
use Rattle.std.proofs.Common.{ap, subst, sym, ◌∙◌}
use Rattle.std.specs.HashSet.{contains}
use Rattle.std.specs.List.{All}
use Rattle.std.proofs.lemmas.Result.{on_ok_weaker}
use Rattle.git_name.specs.Same.{same_name}
use Rattle.object_table.specs.Adopted.{adopted_words, offered_words}
use Rattle.object_table.specs.Clashes.{HasRow}
use Rattle.object_table.specs.Coming.{all_seen_words, coming_in}
use Rattle.object_table.specs.Ledgers.{at_ledger, ledger_at}
use Rattle.object_table.specs.Views.{all_words, words_under}
use Rattle.object_table.proofs.AdoptLemmas.{adopted_is}
use Rattle.object_table.proofs.ChangeLemmas.{coming_rows, ledger_alike, ledger_is}
use Rattle.object_table.proofs.holdings.Holdings.adopt.Goals as goal

pub see-seen-requires-clause-rows : goal.see-seen-requires-clause-rows
see-seen-requires-clause-rows c =
    subst (λ es. All (HasRow c.self.inside.table.entries) es) (sym (c.as_slice.ensures.value ∙ c.in-Ok.ensures))
    (coming_rows c.self.inside.table.entries _ _ c.args.names.now.keys c.invariant.ensures.rows)

pub returns-clause-ok : goal.returns-clause-ok
returns-clause-ok c =
    let rows = c.self.inside.table.entries in
    let tenants = c.self.inside.ledgers in
    let m = all_words rows tenants in
    let names = contains same_name c.args.names.now in
    let shown = ap (words_under rows) c.get-shown.ensures ∙ ledger_is rows tenants c.args.from.now in
    let own = ap (words_under rows) c.get-own.ensures ∙ ledger_is rows tenants c.args.to.now in
    on_ok_weaker c.see-seen.result (λ is.
    is
    ∙ ledger_alike m c.args.to.now (all_seen_words c.as_slice.result.now) (adopted_words (offered_words names (ledger_at m c.args.from.now)))
    (ap (λ entries. all_seen_words entries (ledger_at m c.args.to.now)) (c.as_slice.ensures.value ∙ c.in-Ok.ensures ∙ (λ i. coming_in (shown i) (own i) c.args.names.now.keys)) ∙ adopted_is (ledger_at m c.args.from.now) (ledger_at m c.args.to.now) c.args.names.now.keys)
    ∙ (λ i. at_ledger (c.self.view_is i).ledgers c.args.to.now (adopted_words (offered_words names (ledger_at (c.self.view_is i).ledgers c.args.from.now))))) c.see-seen.ensures.ok

pub invariant_of-self : goal.invariant_of-self
invariant_of-self c = (
  c.see-seen.ensures.held,
  still_links c.self.inside.table.entries c.see-seen.new.table.entries c.self.inside.links c.invariant.ensures.rows c.invariant-2.ensures.rows c.self.invariant.1 c.see-seen.ensures.numbers,
)

pub returns-clause-links : goal.returns-clause-links
returns-clause-links c =
    same_links c.self.inside.table.entries c.see-seen.new.table.entries c.self.inside.links c.invariant.ensures.rows c.invariant-2.ensures.rows c.self.invariant.1 c.see-seen.ensures.numbers
    ∙ ap (λ (s : HoldingsState). s.links) c.self.view_is
