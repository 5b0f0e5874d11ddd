use Rattle.fork_host.proofs.BetweenLemmas.{leaves}
use Rattle.fork_host.proofs.laws.a_collection_leaves_what_is_held.Goals as goal

pub returns : goal.returns
returns c = leaves
