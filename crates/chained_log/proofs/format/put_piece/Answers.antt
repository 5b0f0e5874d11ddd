use Rattle.std.proofs.Common.{◌∙◌, subst, refl}
use Rattle.std.specs.Io.KnownBytes.{Appends}
use Rattle.chained_log.specs.Log.{OfDigest, length_bytes}
use Rattle.chained_log.proofs.SumLemmas.{sum_is}
use Rattle.chained_log.proofs.NextPartsLemmas.{put_together}
use Rattle.chained_log.proofs.format.put_piece.Goals as goal

pub returns-clause-bytes : goal.returns-clause-bytes
unfolding length_bytes
returns-clause-bytes g c =
    let sum = c.sum_of_piece-sum.ensures ∙ sum_is OfDigest c.args.before.now c.args.piece.now c.head_of-head.result _ refl c.head_of-head.ensures in
    let items =
    put_together OfDigest c.args.before.now c.args.piece.now c.clear.new.self.items c.extend_from_slice.new.self.items c.extend_from_slice-2.new.self.items c.extend_from_slice-3.new.self.items c.extend_from_slice-4.new.self.items
    c.as_slice.result.now c.as_slice-2.result.now c.as_slice-3.result.now
    c.clear.ensures.items c.in_ok-extend_from_slice.ensures.items c.in_ok-extend_from_slice-2.ensures.items c.in_ok-extend_from_slice-3.ensures.items c.in_ok-extend_from_slice-4.ensures.items
    (c.as_slice.ensures ∙ c.to_be_bytes.ensures) (c.as_slice-2.ensures ∙ c.head_of-head.ensures) (c.as_slice-3.ensures ∙ sum)
    in
    subst (Appends (g.W.Sink.contents c.args.writer.now) (g.W.Sink.contents c.append.new.self)) (c.as_slice-4.ensures.value ∙ items) c.in_ok-append.ensures.bytes

pub returns-clause-sum : goal.returns-clause-sum
returns-clause-sum g c = c.sum_of_piece-sum.ensures ∙ sum_is OfDigest c.args.before.now c.args.piece.now c.head_of-head.result _ refl c.head_of-head.ensures
