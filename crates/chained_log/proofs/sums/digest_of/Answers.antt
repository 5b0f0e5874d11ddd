use Rattle.std.proofs.Common.{ap, ◌∙◌}
use Rattle.std.specs.Int.{to_be_bytes, w64}
use Rattle.chained_log.proofs.SumLemmas.{digest_is}
use Rattle.chained_log.proofs.sums.digest_of.Goals as goal

pub returns : goal.returns
returns c =
    digest_is c.args.head.now c.args.piece.now c.as_slice.result.now c.to_be_bytes.result c.new-hasher.result c.write.new.self c.write-2.new.self
    c.as_slice.ensures c.new-hasher.ensures c.write.ensures c.write-2.ensures (c.to_be_bytes.ensures ∙ ap (to_be_bytes w64) c.finish.ensures)
