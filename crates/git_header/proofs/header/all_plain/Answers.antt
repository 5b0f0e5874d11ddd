use Rattle.std.proofs.Common.{refl, arith}
use Rattle.git_header.proofs.HeadersLemmas.{not_all_plain, plain_so_far}
use Rattle.git_header.proofs.header.all_plain.Goals as goal

pub returns-then-not-is_plain : goal.returns-then-not-is_plain
returns-then-not-is_plain c = (
  λ no_such. absurd (cc no_such),
  λ all. absurd (not_all_plain c.args.values.now c.loop-value.value-index _ c.loop-value-test.true (λ plain. let is = c.is_plain.ensures.1 plain in let never : ⊥ = cc (is, c.if-not-is_plain.true) in never) all),
)

pub loop-value-preserved : goal.loop-value-preserved
loop-value-preserved c = plain_so_far c.args.values.now c.loop-value.value-index _ c.loop-value-test.true c.loop-value.invariant (c.is_plain.ensures.0 c.if-not-is_plain.false)

pub returns : goal.returns
returns c = (λ _ k d within. c.loop-value.invariant k d (omega arith) (let past = c.loop-value-test.false in omega arith), λ _. refl)
