use Rattle.std.proofs.Common.{◌≡◌, length, ap, arith, suc, rules, sym, ◌∙◌}
use Rattle.git_tree.specs.Row.{entries_in}
use Rattle.git_tree.specs.Entry.{plain_entry}
use Rattle.git_tree.proofs.RowLemmas.{row_none, row_step}
use Rattle.git_tree.proofs.FormLemmas.{row_no_fault}
use Rattle.std.proofs.lemmas.Grind.{common_steps}
use Rattle.git_tree.proofs.row.EntriesIterator.next.Goals as goal

pub returns-then-is_empty-clause-steps : goal.returns-then-is_empty-clause-steps
returns-then-is_empty-clause-steps c =
    let none : length c.self.inside.rest.now ≡ 0 = grind (arith, common_steps) in
    let left = sym c.self.view_is ∙ row_none c.self.inside.rest.now none in
    (left, left)

pub unreachable-requires : goal.unreachable-requires
unreachable-requires c =
    row_no_fault c.in_default.field-0 c.self.inside.rest.now c.self.invariant (grind (arith, common_steps)) c.in_default.ensures.fault

pub invariant_of-self : goal.invariant_of-self
invariant_of-self c =
    (row_step c.self.inside.rest.now (plain_entry c.in-Ok.entry) c.in-Ok.after.now c.in-Ok.ensures.entry c.in-Ok.ensures.parts c.self.invariant).1

pub returns-clause-steps : goal.returns-clause-steps
returns-clause-steps c =
    sym c.self.view_is ∙ (row_step c.self.inside.rest.now (plain_entry c.in-Ok.entry) c.in-Ok.after.now c.in-Ok.ensures.entry c.in-Ok.ensures.parts c.self.invariant).0

pub returns-clause-goes : goal.returns-clause-goes
returns-clause-goes c =
    let step = sym c.self.view_is ∙ (row_step c.self.inside.rest.now (plain_entry c.in-Ok.entry) c.in-Ok.after.now c.in-Ok.ensures.entry c.in-Ok.ensures.parts c.self.invariant).0 in
    let fewer : length c.args.self.now ≡ suc (length (entries_in c.in-Ok.after.now)) = ap length step in
    search (rules, fewer)
