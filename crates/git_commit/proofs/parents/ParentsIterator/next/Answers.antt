use Rattle.std.proofs.Common.{◌≡◌, length, ap, arith, suc, rules}
use Rattle.std.proofs.lemmas.Grind.{common_steps}
use Rattle.git_commit.specs.Parents.{parents_spelled}
use Rattle.git_commit.proofs.CommitLemmas.{parents_step, row_no_fault, row_none}
use Rattle.git_commit.proofs.parents.ParentsIterator.next.Goals as goal

pub returns-then-is_empty-clause-steps : goal.returns-then-is_empty-clause-steps
returns-then-is_empty-clause-steps c =
    let none : length c.args.self.now.rest.now ≡ 0 = grind (arith, common_steps) in
    (row_none _ none, row_none _ none)

pub unreachable-requires : goal.unreachable-requires
unreachable-requires c = row_no_fault c.in_default.field-0 c.args.self.now.rest.now c.args.self.now.row (grind (arith, common_steps)) c.in_default.ensures.exact

pub invariant_of-self : goal.invariant_of-self
invariant_of-self c = record { row = (parents_step c.in-Ok.taken.0 c.args.self.now.rest.now c.in-Ok.taken.1.now c.args.self.now.row c.in-Ok.ensures.name c.in-Ok.ensures.found).1 }

pub returns-clause-steps : goal.returns-clause-steps
returns-clause-steps c = (parents_step c.in-Ok.taken.0 c.args.self.now.rest.now c.in-Ok.taken.1.now c.args.self.now.row c.in-Ok.ensures.name c.in-Ok.ensures.found).0

pub returns-clause-goes : goal.returns-clause-goes
returns-clause-goes c =
    let h = (parents_step c.in-Ok.taken.0 c.args.self.now.rest.now c.in-Ok.taken.1.now c.args.self.now.row c.in-Ok.ensures.name c.in-Ok.ensures.found).0 in
    let l : length (parents_spelled c.args.self.now.rest.now) ≡ suc (length (parents_spelled c.in-Ok.taken.1.now)) = ap length h in
    search (rules, l)
