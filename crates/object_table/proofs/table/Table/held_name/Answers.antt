use Rattle.std.proofs.Common.{◌≡◌, ◌<◌, ℕ, List, Some, false, slice_get, take, ap, sym, subst, ◌∙◌, arith}
use Rattle.std.specs.Map.{keys_of}
use Rattle.git_name.specs.Same.{is_listed}
use Rattle.object_table.specs.Rows.{TableState, count_in, places_of}
use Rattle.object_table.proofs.HeldLemmas.{name_at, none_before, same_one}
use Rattle.object_table.proofs.PlaceLemmas.{count_at}
use Rattle.object_table.proofs.table.Table.held_name.Goals as goal

pub returns-else-entry-eq0-clause-some : goal.returns-else-entry-eq0-clause-some
returns-else-entry-eq0-clause-some c =
    let es = c.self.inside.rows.entries in
    let counted = count_at es c.args.at c.in-Some.entry c.self.invariant.0.distinct (sym c.in-Some.ensures) in
    subst (λ (s : TableState). (slice_get (places_of s).names c.args.at ≡ Some c.in-Some.entry.0) × (0 < count_in s.entries c.in-Some.entry.0)) c.self.view_is
    (name_at es c.args.at c.in-Some.entry (sym c.in-Some.ensures), (let some = c.if-entry-eq0.false in omega (arith, counted, some)))

pub returns-else-entry-eq0-clause-first : goal.returns-else-entry-eq0-clause-first
returns-else-entry-eq0-clause-first c =
    let es = c.self.inside.rows.entries in
    subst (λ (s : TableState). is_listed (take c.args.at (places_of s).names) c.in-Some.entry.0 ≡ false) c.self.view_is
    (none_before (keys_of es) c.args.at c.in-Some.entry.0 c.self.invariant.0.distinct (name_at es c.args.at c.in-Some.entry (sym c.in-Some.ensures)))

pub returns-then-entry-eq0-clause-none : goal.returns-then-entry-eq0-clause-none
returns-then-entry-eq0-clause-none c =
    let es = c.self.inside.rows.entries in
    let counted = count_at es c.args.at c.in-Some.entry c.self.invariant.0.distinct (sym c.in-Some.ensures) in
    let named = name_at es c.args.at c.in-Some.entry (sym c.in-Some.ensures) in
    subst (λ (s : TableState). (name : List ℕ) → slice_get (places_of s).names c.args.at ≡ Some name → count_in s.entries name ≡ 0) c.self.view_is
    (λ name is. ap (count_in es) (same_one (slice_get (keys_of es) c.args.at) name c.in-Some.entry.0 is named) ∙ omega (arith, counted, c.if-entry-eq0.true))
