use Rattle.std.proofs.Common.{◌++◌, take}
use Rattle.std.proofs.KnownBytes.{Appends-trans}
use Rattle.fork_frame.proofs.WritingLemmas.{written_more}
use Rattle.fork_frame.proofs.put.put.Goals as goal

pub loop-rest-preserved : goal.loop-rest-preserved
loop-rest-preserved g c =
    let front = c.loop-rest.invariant.0 in
    let rest = c.loop-rest.rest.now in (
      front ++ take c.in_ok-n.n rest,
      written_more c.args.bytes.now front rest c.in_ok-n.n c.loop-rest.invariant.1,
      Appends-trans (g.W.Write.contents c.args.writer.now) (g.W.Write.contents c.loop-rest.writer) (g.W.Write.contents c.write_some.new.writer) front (take c.in_ok-n.n rest) c.loop-rest.invariant.2 c.in_ok-n.ensures.bytes,
    )
