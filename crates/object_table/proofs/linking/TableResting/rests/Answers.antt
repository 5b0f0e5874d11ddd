use Rattle.std.proofs.Common.{false, List, ℕ, sym, ap, ◌∙◌}
use Rattle.std.specs.Option.{option_map_or}
use Rattle.object_table.specs.declared.row.Row.{Row}
use Rattle.object_table.specs.Links.{leads_nowhere, numbered}
use Rattle.object_table.proofs.LinkLemmas.{numbered_is, numbered_none}
use Rattle.object_table.proofs.linking.TableResting.rests.Goals as goal

pub returns-in_default : goal.returns-in_default
returns-in_default c =
    sym (ap (λ o. option_map_or (λ (e : List ℕ × Row). leads_nowhere e.1.kind) o false) (numbered_none c.args.self.now.entries c.args.n c.invariant.ensures.rows.distinct c.in_default.ensures.none))

pub returns : goal.returns
returns c =
    let rows = c.args.self.now.entries in
    let entry = c.in-Some.entry in
    c.is_leaf.ensures
    ∙ sym (ap (λ o. option_map_or (λ (e : List ℕ × Row). leads_nowhere e.1.kind) o false) (ap (numbered rows) (sym c.in-Some.ensures.some.1) ∙ numbered_is rows entry.0 entry.1 c.invariant.ensures.rows c.in-Some.ensures.some.0))
