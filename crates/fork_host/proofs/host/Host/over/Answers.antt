use Rattle.fork_host.proofs.WholeLemmas.{whole_none, world_none}
use Rattle.fork_host.proofs.host.Host.over.Goals as goal

pub invariant_of-result : goal.invariant_of-result
invariant_of-result g c = whole_none c.new.result c.over.result c.new.ensures c.over.ensures.empty

pub returns-clause-empty : goal.returns-clause-empty
returns-clause-empty g c = world_none c.new.result c.over.result c.new.ensures
