use Rattle.fork_wire.proofs.AgainLemmas.{served_again, worlds_again}
use Rattle.fork_wire.proofs.laws.a_session_is_served_again.Goals as goal

pub returns-clause-replies : goal.returns-clause-replies
returns-clause-replies c old new frames replies old2 new2 replies2 one fine other fine2 trusted trusted2 same =
    (served_again old new frames replies old2 new2 replies2 one fine other fine2 trusted trusted2 same).0

pub returns-clause-all : goal.returns-clause-all
returns-clause-all c old new frames replies old2 new2 replies2 one fine other fine2 trusted trusted2 same settled =
    (served_again old new frames replies old2 new2 replies2 one fine other fine2 trusted trusted2 same).1 settled

pub returns-clause-worlds : goal.returns-clause-worlds
returns-clause-worlds c old new frames replies old2 new2 replies2 one fine other fine2 trusted trusted2 same =
    worlds_again old new frames replies old2 new2 replies2 one fine other fine2 trusted trusted2 same
