use Rattle.std.proofs.Common.{refl}
use Rattle.fork_wire.proofs.AgainLemmas.{kept_again, right_kept}
use Rattle.fork_wire.proofs.laws.what_is_kept_is_enough.Goals as goal

pub returns-clause-frames : goal.returns-clause-frames
returns-clause-frames c frames replies bytes are = record { right = right_kept frames replies are.right; spelled = refl }

pub returns-clause-worlds : goal.returns-clause-worlds
returns-clause-worlds c old new frames replies old2 new2 replies2 one other fine2 trusted trusted2 same =
    kept_again old new frames replies old2 new2 replies2 one other fine2 trusted trusted2 same
