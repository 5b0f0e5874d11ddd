use Rattle.fork_host.proofs.StepLemmas.{run_explained}
use Rattle.fork_wire.specs.Sessions.{events_of}
use Rattle.fork_wire.proofs.Agreement.{sessions_agree, sessions_agree_happened}
use Rattle.fork_wire.proofs.isolation.two_sessions_agree.Goals as goal

pub returns-clause-explained : goal.returns-clause-explained
returns-clause-explained c old new frames replies one trusted = run_explained old new (events_of frames) replies one.ran trusted

pub returns-clause-replies : goal.returns-clause-replies
returns-clause-replies c tenant old new frames replies old2 new2 frames2 replies2 one fine leaves other fine2 leaves2 trusted trusted2 agree same =
    (sessions_agree tenant old new frames replies old2 new2 frames2 replies2 one fine leaves other fine2 leaves2 trusted trusted2 agree same).0

pub returns-clause-worlds : goal.returns-clause-worlds
returns-clause-worlds c tenant old new frames replies old2 new2 frames2 replies2 one fine leaves other fine2 leaves2 trusted trusted2 agree same =
    (sessions_agree tenant old new frames replies old2 new2 frames2 replies2 one fine leaves other fine2 leaves2 trusted trusted2 agree same).1

pub returns-clause-disclosed : goal.returns-clause-disclosed
returns-clause-disclosed c = sessions_agree_happened
