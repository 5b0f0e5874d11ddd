use Rattle.std.proofs.Common.{◌≡◌, ◌∙◌, Some, sym, ap, refl, subst, arith, get_or, length, slice_get}
use Rattle.std.specs.Prelude.{if◌then◌else◌}
use Rattle.std.proofs.lemmas.List.{get_or_read_under, length-map}
use Rattle.git_name.specs.Same.{same_name}
use Rattle.object_table.specs.Rows.{IsUsed, TableState, row_in}
use Rattle.object_table.proofs.NumberLemmas.{numbered_written}
use Rattle.object_table.proofs.RowLemmas.{noted_there}
use Rattle.object_table.proofs.table.Table.write.Goals as goal

pub index-requires : goal.index-requires
index-requires c =
    let is = subst (λ (s : TableState). IsUsed s.entries c.args.row.number) (sym c.self.view_is) c.requires.used in
    let there = (noted_there c.self.inside.rows.entries c.self.inside.numbers.items c.self.inside.places.items is.name is.row c.self.invariant.0 is.here).0 in
    let same = is.same in
    omega (arith, there, same)

pub write_at-requires : goal.write_at-requires
write_at-requires c =
    let is = subst (λ (s : TableState). IsUsed s.entries c.args.row.number) (sym c.self.view_is) c.requires.used in
    let places = c.self.inside.places.items in
    let there = noted_there c.self.inside.rows.entries c.self.inside.numbers.items places is.name is.row c.self.invariant.0 is.here in
    let within = there.0 in
    let same = is.same in
    let read : c.index.result.now ≡ get_or places c.args.row.number 0 = get_or_read_under places c.args.row.number _ c.index.result.now 0 c.index.ensures (omega (arith, within, same)) refl in
    let at = read ∙ ap (λ n. get_or places n 0) (sym is.same) in
    let inside = there.1 in
    omega (arith, at, inside)

pub returns-clause-rows : goal.returns-clause-rows
returns-clause-rows c name old here number q =
    let rows = c.self.inside.rows.entries in
    let places = c.self.inside.places.items in
    let stands : row_in rows name ≡ Some old = ap (λ (s : TableState). row_in s.entries name) c.self.view_is ∙ here in
    let there = noted_there rows c.self.inside.numbers.items places name old c.self.invariant.0 stands in
    let within = there.0 in
    let read : c.index.result.now ≡ get_or places c.args.row.number 0 = get_or_read_under places c.args.row.number _ c.index.result.now 0 c.index.ensures (omega (arith, within, number)) refl in
    let spot : slice_get rows c.index.result.now ≡ Some (name, old) = ap (slice_get rows) (read ∙ ap (λ n. get_or places n 0) (sym number)) ∙ there.2 in
    c.write_at.ensures.rows (name, old) spot q ∙ ap (λ (s : TableState). if same_name name q then Some c.args.row else row_in s.entries q) c.self.view_is

pub invariant_of-self : goal.invariant_of-self
invariant_of-self c =
    let is = subst (λ (s : TableState). IsUsed s.entries c.args.row.number) (sym c.self.view_is) c.requires.used in
    let rows = c.self.inside.rows.entries in
    let places = c.self.inside.places.items in
    let there = noted_there rows c.self.inside.numbers.items places is.name is.row c.self.invariant.0 is.here in
    let within = there.0 in
    let same = is.same in
    let read : c.index.result.now ≡ get_or places c.args.row.number 0 = get_or_read_under places c.args.row.number _ c.index.result.now 0 c.index.ensures (omega (arith, within, same)) refl in
    let spot : slice_get rows c.index.result.now ≡ Some (is.name, is.row) = ap (slice_get rows) (read ∙ ap (λ n. get_or places n 0) (sym is.same)) ∙ there.2 in
    let long : length c.write_at.new.rows.entries ≡ length rows = sym (length-map c.write_at.new.rows.entries (λ e. e.0)) ∙ ap length c.write_at.ensures.keys ∙ length-map rows (λ e. e.0) in (
      numbered_written rows c.write_at.new.rows.entries c.self.inside.numbers.items places is.name c.args.row c.self.invariant.0 c.write_at.ensures.keys (c.write_at.ensures.numbers (is.name, is.row) spot (sym is.same)) (c.write_at.ensures.rows (is.name, is.row) spot) (search arith),
      (let before = c.self.invariant.1 in omega (arith, long, before)),
    )
