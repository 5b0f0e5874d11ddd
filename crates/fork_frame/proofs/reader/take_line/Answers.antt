use Rattle.std.proofs.Common.{inr, arith}
use Rattle.std.proofs.KnownBytes.{Consumes-kept}
use Rattle.fork_frame.proofs.reader.take_line.Goals as goal

pub returns-in_default-clause-taken : goal.returns-in_default-clause-taken
returns-in_default-clause-taken g c =
    let ended = rw c.in_default.is at c.in_ok-byte.ensures.none in
    let so_far = c.loop-text.invariant in
    let nonzero = c.if-len-eq0.false in
    record {
      front = c.loop-text.text;
      some = omega (arith, c.len-in_default.ensures);
      few = so_far.0;
      plain = so_far.1;
      taken = Consumes-kept _ _ _ c.loop-text.text so_far.2 ended.0;
      cut = inr ended.2;
    }
