use Rattle.std.proofs.Common.{◌≡◌, length, arith}
use Rattle.std.proofs.lemmas.Grind.{common_steps}
use Rattle.std.proofs.lemmas.List.{take_rest}
use Rattle.git_header.proofs.HeadersLemmas.{first_more, more_no_fault, no_more}
use Rattle.git_header.proofs.continuation.first_value.Goals as goal

pub returns-then-is_empty-clause-none : goal.returns-then-is_empty-clause-none
returns-then-is_empty-clause-none c =
    let none : length c.args.text.now ≡ 0 = grind (arith, common_steps) in
    no_more _ none

pub unreachable-requires : goal.unreachable-requires
unreachable-requires c = more_no_fault c.in_default.field-0 c.args.text.now c.requires (grind (arith, common_steps)) c.in_default.ensures.exact

pub returns-clause-some : goal.returns-clause-some
returns-clause-some c = simp take_rest ((first_more c.args.text.now c.in-Ok.taken.0.now c.in-Ok.taken.1.now c.requires c.in-Ok.ensures.found).0)

pub returns-clause-rest : goal.returns-clause-rest
returns-clause-rest c = (first_more c.args.text.now c.in-Ok.taken.0.now c.in-Ok.taken.1.now c.requires c.in-Ok.ensures.found).1
