use Rattle.fork_model.proofs.PrerequisiteLemmas.{prerequisites}
use Rattle.fork_model.proofs.transfer.excluded_objects_are_enough.Goals as goal

pub returns : goal.returns
returns c = prerequisites
