use Rattle.fork_model.proofs.Meetings.{runs_agree}
use Rattle.fork_model.proofs.isolation.two_runs_agree.Goals as goal

pub returns-clause-replies : goal.returns-clause-replies
returns-clause-replies c = λ t old new steps replies old2 new2 steps2 replies2 run fine leaves run2 fine2 leaves2 agree same. (runs_agree t old new steps replies old2 new2 steps2 replies2 run fine leaves run2 fine2 leaves2 agree same).0

pub returns-clause-worlds : goal.returns-clause-worlds
returns-clause-worlds c = λ t old new steps replies old2 new2 steps2 replies2 run fine leaves run2 fine2 leaves2 agree same. (runs_agree t old new steps replies old2 new2 steps2 replies2 run fine leaves run2 fine2 leaves2 agree same).1
