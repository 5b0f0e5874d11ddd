use Rattle.fork_wire.proofs.AtOnceLemmas.{cut_off, ended_by}
use Rattle.fork_wire.proofs.at_once.keep_round.Goals as goal

pub returns-in-Ok-clause-served : goal.returns-in-Ok-clause-served
returns-in-Ok-clause-served g c first stands =
    ended_by _ _ _ _ _ _ _ _ first _ _ c.sync.result c.sync.ensures.answers c.sync.ensures.kept ((rw c.in-Ok.is at c.turns.ensures.served) first stands)

pub returns-in-Err-clause-served : goal.returns-in-Err-clause-served
returns-in-Err-clause-served g c first stands = cut_off _ _ _ _ _ _ _ ((rw c.in-Err.is at c.turns.ensures.stopped) first stands)
