use Rattle.std.proofs.Common.{◌<◌, arith, rules}
use Rattle.std.proofs.lemmas.Result.{err_from_is_err_and}
use Rattle.std.proofs.KnownBytes.{Consumes-nil, Keeps-refl, Keeps-trans}
use Rattle.chained_log.proofs.LeftLemmas.{at_end, kept_then_consumed}
use Rattle.chained_log.proofs.reader.LogReaderRead.read.Goals as goal

pub loop-init : goal.loop-init
loop-init g c = Keeps-refl _

pub returns-then-self-clause-bytes : goal.returns-then-self-clause-bytes
returns-then-self-clause-bytes g c = (
  kept_then_consumed _ _ _ _ c.loop.invariant c.give.ensures.left,
  λ none room. (let some : 0 < c.give.result = c.give.ensures.some room c.if-self.true in absurd (omega (arith, some, none))),
)

pub returns-in-Some-Altered-clause-bytes : goal.returns-in-Some-Altered-clause-bytes
returns-in-Some-Altered-clause-bytes g c = c.loop.invariant

pub returns-in-Some : goal.returns-in-Some
returns-in-Some g c =
    let log = c.loop.self in
    record {
      bound = search rules;
      bytes = (
        kept_then_consumed _ _ _ _ c.loop.invariant (Consumes-nil _),
        λ none room. at_end (g.R.Read.remaining log.reader) log.sum log.came.items log.at log.end log.ended c.in-Some.field-0 c.in-Some.is c.if-self.false,
      );
    }

pub returns-in_err-advance-in-None-clause-bytes : goal.returns-in_err-advance-in-None-clause-bytes
returns-in_err-advance-in-None-clause-bytes g c =
    let told = err_from_is_err_and c.from_residual.result c.from_residual.ensures.1 in
    rw told.1 (Keeps-trans _ _ _ c.loop.invariant c.advance.ensures.left)

pub loop-preserved : goal.loop-preserved
loop-preserved g c = Keeps-trans _ _ _ c.loop.invariant c.advance.ensures.left

pub returns-clause-bytes : goal.returns-clause-bytes
returns-clause-bytes g c = c.loop.invariant
