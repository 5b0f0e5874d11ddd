use Rattle.fork_connection.proofs.RoundLemmas.{has_no_turn}
use Rattle.fork_connection.proofs.rounds.serve.Goals as goal

pub returns-then-not-has_turn-clause-served : goal.returns-then-not-has_turn-clause-served
returns-then-not-has_turn-clause-served g c = has_no_turn _ _ _ _ _
