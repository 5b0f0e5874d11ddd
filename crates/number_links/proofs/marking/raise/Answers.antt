use Rattle.std.proofs.Common.{◌<◌, All, arith, inl, subst, sym}
use Rattle.number_links.specs.Generations.{generation}
use Rattle.number_links.proofs.GenerationLemmas.{generations_marked, generations_raised, marks_then}
use Rattle.number_links.proofs.marking.raise.Goals as goal

pub returns-in_default-mark_all : goal.returns-in_default-mark_all
returns-in_default-mark_all c facts is_known goes are = generations_marked facts c.args.generations.now c.mark_all.new.generations c.mark_all.ensures.only are

pub returns-in_default-write : goal.returns-in_default-write
returns-in_default-write c facts is_known goes are =
    let old = c.args.generations.now in
    generations_marked facts old c.write.new.self (marks_then old c.mark_all.new.generations c.write.new.self c.mark_all.ensures.only (λ q. inl (c.in_default-write.ensures.err q))) are

pub returns : goal.returns
returns c facts is_known goes are =
    let old = c.args.generations.now in
    let next = c.in-Some.next in
    let value = c.at.ensures.value in
    let low = c.if-at-gt1.false in
    generations_raised facts old c.mark_all.new.generations c.write.new.self c.args.n next c.args.to.now are (omega arith) is_known
    c.in-Some.ensures.least (subst (All (λ p. (1 < generation old p) × (generation old p < next))) (sym goes) c.in-Some.ensures.above) c.mark_all.ensures.only c.in-Ok.ensures.ok c.in-Ok-write.ensures.ok
