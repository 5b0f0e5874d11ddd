use Rattle.std.proofs.Common.{◌≡◌, ◌∙◌, Some, Option, List, ℕ, sym, ap, refl, subst, arith, get_or, slice_get}
use Rattle.std.proofs.lemmas.List.{get_or_read_under}
use Rattle.object_table.specs.declared.row.Row.{Row}
use Rattle.object_table.specs.Rows.{IsUsed, TableState, row_in}
use Rattle.object_table.proofs.RowLemmas.{none_is_some, noted_there, row_at}
use Rattle.object_table.proofs.table.Table.numbered.Goals as goal

pub returns-then-number-len-clause-none : goal.returns-then-number-len-clause-none
returns-then-number-len-clause-none c used =
    let is = subst (λ (s : TableState). IsUsed s.entries c.args.number) (sym c.self.view_is) used in
    let there = (noted_there c.self.inside.rows.entries c.self.inside.numbers.items c.self.inside.places.items is.name is.row c.self.invariant.0 is.here).0 in
    let same = is.same in
    omega (arith, there, same)

pub returns-in_default-clause-none : goal.returns-in_default-clause-none
returns-in_default-clause-none c used =
    let is = subst (λ (s : TableState). IsUsed s.entries c.args.number) (sym c.self.view_is) used in
    let places = c.self.inside.places.items in
    let there = noted_there c.self.inside.rows.entries c.self.inside.numbers.items places is.name is.row c.self.invariant.0 is.here in
    let read : c.index.result.now ≡ get_or places c.args.number 0 = get_or_read_under places c.args.number _ c.index.result.now 0 c.index.ensures (omega arith) refl in
    none_is_some ⊥ (is.name, is.row) (sym (sym c.entry_at.ensures ∙ c.in_default.is) ∙ ap (slice_get c.self.inside.rows.entries) (read ∙ ap (λ n. get_or places n 0) (sym is.same)) ∙ there.2)

pub returns-then-entry-number-clause-some : goal.returns-then-entry-number-clause-some
returns-then-entry-number-clause-some c =
    (ap (λ (s : TableState). row_in s.entries c.in-Some.entry.0) (sym c.self.view_is) ∙ row_at c.self.inside.rows.entries c.index.result.now c.in-Some.entry.0 c.in-Some.entry.1 c.self.invariant.0.distinct (sym c.in-Some.ensures), c.if-entry-number.true)

pub returns-else-entry-number-clause-none : goal.returns-else-entry-number-clause-none
returns-else-entry-number-clause-none c used =
    let is = subst (λ (s : TableState). IsUsed s.entries c.args.number) (sym c.self.view_is) used in
    let places = c.self.inside.places.items in
    let there = noted_there c.self.inside.rows.entries c.self.inside.numbers.items places is.name is.row c.self.invariant.0 is.here in
    let read : c.index.result.now ≡ get_or places c.args.number 0 = get_or_read_under places c.args.number _ c.index.result.now 0 c.index.ensures (omega arith) refl in
    let both : ◌≡◌ {A = Option (List ℕ × Row)} (Some c.in-Some.entry) (Some (is.name, is.row)) = c.in-Some.ensures ∙ ap (slice_get c.self.inside.rows.entries) (read ∙ ap (λ n. get_or places n 0) (sym is.same)) ∙ there.2 in
    let one : ◌≡◌ {A = List ℕ × Row} c.in-Some.entry (is.name, is.row) = cc in
    c.if-entry-number.false (ap (λ (e : List ℕ × Row). e.1.number) one ∙ is.same)
