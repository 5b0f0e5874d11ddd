use Rattle.fork_wire.proofs.AtOnceLemmas.{each_is_heard_at_once, rounds_are_one}
use Rattle.fork_wire.proofs.laws.rounds_are_one_serving.Goals as goal

pub returns-clause-joined : goal.returns-clause-joined
returns-clause-joined c = rounds_are_one

pub returns-clause-heard : goal.returns-clause-heard
returns-clause-heard c = each_is_heard_at_once
