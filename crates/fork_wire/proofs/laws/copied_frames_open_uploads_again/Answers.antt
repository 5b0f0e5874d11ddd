use Rattle.fork_wire.proofs.CopiedUploads.{copies}
use Rattle.fork_wire.proofs.laws.copied_frames_open_uploads_again.Goals as goal

pub returns : goal.returns
returns c = copies
