use Rattle.std.proofs.Common.{◌∙◌}
use Rattle.fork_wire.proofs.CopyingLemmas.{more_copied}
use Rattle.fork_wire.proofs.upload_log.copy_uploads.Goals as goal

pub loop-preserved : goal.loop-preserved
loop-preserved g c =
    let next = rw c.in-Ok-Frame.field-0-is at c.in-Ok-Frame.ensures.next in
    record {
      so_far = more_copied _ _ _ _ _ _ c.in-Ok-Frame.frame c.loop.invariant.so_far next.0 next.1 c.in_ok-copy_frame.ensures.bytes;
      rest = c.in_ok-copy_frame.ensures.rest ∙ c.loop.invariant.rest;
    }
