use Rattle.std.proofs.Common.{◌≡◌, length, ap, arith, suc, rules}
use Rattle.std.proofs.lemmas.Grind.{common_steps}
use Rattle.git_header.specs.Header.{kind_at}
use Rattle.git_header.specs.Row.{headers_in}
use Rattle.git_header.specs.Left.{header_of}
use Rattle.git_header.proofs.HeadersLemmas.{headers_step, headers_no_fault, row_goes_on, no_headers}
use Rattle.git_header.proofs.headers.HeadersIterator.next.Goals as goal

pub returns-then-is_empty-clause-steps : goal.returns-then-is_empty-clause-steps
returns-then-is_empty-clause-steps g c =
    let none : length c.args.self.now.rest.now ≡ 0 = grind (arith, common_steps) in
    (no_headers (kind_at g.row.KIND) _ none, no_headers (kind_at g.row.KIND) _ none)

pub take-requires : goal.take-requires
take-requires g c = (omega arith, row_goes_on _ c.args.self.now.rest.now c.args.self.now.row (grind (arith, common_steps)))

pub unreachable-requires : goal.unreachable-requires
unreachable-requires g c = headers_no_fault _ c.in_default.field-0 c.args.self.now.rest.now c.args.self.now.row c.in_default.ensures.exact

pub invariant_of-self : goal.invariant_of-self
invariant_of-self g c = record { row = (headers_step _ (header_of c.in-Ok.taken.0) c.args.self.now.rest.now c.in-Ok.taken.1.now c.args.self.now.row c.in-Ok.ensures.header c.in-Ok.ensures.parts c.in-Ok.ensures.last).1 }

pub returns-clause-steps : goal.returns-clause-steps
returns-clause-steps g c =
    (headers_step _ (header_of c.in-Ok.taken.0) c.args.self.now.rest.now c.in-Ok.taken.1.now c.args.self.now.row c.in-Ok.ensures.header c.in-Ok.ensures.parts c.in-Ok.ensures.last).0

pub returns-clause-goes : goal.returns-clause-goes
returns-clause-goes g c =
    let h = (headers_step _ (header_of c.in-Ok.taken.0) c.args.self.now.rest.now c.in-Ok.taken.1.now c.args.self.now.row c.in-Ok.ensures.header c.in-Ok.ensures.parts c.in-Ok.ensures.last).0 in
    let l : length (headers_in c.args.self.now.rest.now) ≡ suc (length (headers_in c.in-Ok.taken.1.now)) = ap length h in
    search (rules, l)
