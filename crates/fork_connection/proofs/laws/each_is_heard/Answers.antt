use Rattle.fork_connection.proofs.TurnLemmas as turn
use Rattle.fork_connection.proofs.laws.each_is_heard.Goals as goal

pub returns : goal.returns
returns c = turn.each_is_heard
