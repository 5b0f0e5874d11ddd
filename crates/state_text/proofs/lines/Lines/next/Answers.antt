use Rattle.std.proofs.Common.{inl, subst, sym}
use Rattle.state_text.specs.Fault.{IsOneLine}
use Rattle.state_text.specs.Lines.{rest_of}
use Rattle.state_text.proofs.ReadingLemmas.{waits_more}
use Rattle.state_text.proofs.lines.Lines.next.Goals as goal

pub returns-then-not-branch-clause-none : goal.returns-then-not-branch-clause-none
returns-then-not-branch-clause-none g c none =
    let kept = c.in_ok-take.ensures.none c.if-branch.false in
    let end = c.in_ok-refill.ensures.end c.if-not-branch.true in
    record {
      waits = waits_more (g.R.Read.remaining c.args.reader.now) (g.R.Read.remaining c.loop.reader) (g.R.Read.remaining c.refill.new.reader) c.args.self.now c.loop.self c.take.new.self c.refill.new.self c.loop.invariant kept.0 c.in_ok-take.ensures.hasher c.in_ok-refill.ensures.refills;
      is_line = subst IsOneLine (sym end.0) kept.1;
      why = inl end.1;
    }

pub loop-preserved : goal.loop-preserved
loop-preserved g c =
    let kept = c.in_ok-take.ensures.none c.if-branch.false in
    waits_more (g.R.Read.remaining c.args.reader.now) (g.R.Read.remaining c.loop.reader) (g.R.Read.remaining c.refill.new.reader) c.args.self.now c.loop.self c.take.new.self c.refill.new.self c.loop.invariant kept.0 c.in_ok-take.ensures.hasher c.in_ok-refill.ensures.refills
