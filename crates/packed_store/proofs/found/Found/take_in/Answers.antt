use Rattle.std.proofs.Common.{◌+◌, ◌≤◌, ℕ, Option, IfSome, length, subst, arith}
use Rattle.packed_store.specs.Taking.{Begun}
use Rattle.packed_store.proofs.TakingLemmas.{reads_none, reads_on, takes_end, takes_nothing, takes_some}
use Rattle.packed_store.proofs.found.Found.take_in.Goals as goal

pub loop-init : goal.loop-init
loop-init c = (omega arith, (λ files part all. all), Begun, omega arith)

pub returns-in_default-clause-written : goal.returns-in_default-clause-written
returns-in_default-clause-written c files part all = c.in_ok-size.ensures.written files part (c.loop.invariant.1 files part all)

pub returns-in_default-clause-reads : goal.returns-in_default-clause-reads
returns-in_default-clause-reads c = reads_none c.args.bytes.now c.args.segment c.args.from _ _ _ c.loop.at c.in_ok-size.field-0 c.loop.invariant.2 c.in_ok-size.ensures.takes c.in_default.is

pub returns-in_default-clause-ends : goal.returns-in_default-clause-ends
returns-in_default-clause-ends c = takes_end _ c.args.segment _ _ _ c.in_ok-size.field-0 c.in_ok-size.ensures.takes c.in_default.is

pub returns-clause-ends : goal.returns-clause-ends
returns-clause-ends c = takes_nothing c.args.bytes.now c.args.segment _ c.loop.at _ (omega (arith, c.loop.invariant.3))

pub loop-preserved : goal.loop-preserved
loop-preserved c = (
  subst (λ (o : Option ℕ). IfSome o (λ n. c.loop.at + n ≤ length c.args.bytes.now)) c.in-Some.is c.in_ok-size.ensures.within,
  (λ files part all. c.in_ok-size.ensures.written files part (c.loop.invariant.1 files part all)),
  reads_on c.args.bytes.now c.args.segment c.args.from _ _ _ c.loop.at c.in-Some.size c.in_ok-size.field-0 c.loop.invariant.2 c.in_ok-size.ensures.takes c.in-Some.is,
  omega (arith, c.loop.invariant.3, takes_some _ c.args.segment _ _ _ c.in_ok-size.field-0 c.in-Some.size c.in_ok-size.ensures.takes c.in-Some.is),
)
