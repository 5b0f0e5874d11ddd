use Rattle.std.proofs.Common.{◌++◌}
use Rattle.std.proofs.KnownBytes.{Consumes-trans}
use Rattle.chained_log.proofs.reader.ends_in_zeros.Goals as goal

pub loop-preserved : goal.loop-preserved
loop-preserved g c =
    let before = c.loop.invariant in
    let some = c.in_ok-read_onto.ensures.some in
    (before.0 ++ some.0, Consumes-trans (g.R.Read.remaining c.args.reader.now) (g.R.Read.remaining c.loop.reader) (g.R.Read.remaining c.read_onto.new.reader) before.0 some.0 before.1 some.3)
