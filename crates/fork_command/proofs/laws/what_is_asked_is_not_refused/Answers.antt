use Rattle.fork_command.proofs.AskedLemmas.{only_memory}
use Rattle.fork_command.proofs.laws.what_is_asked_is_not_refused.Goals as goal

pub returns : goal.returns
returns c = only_memory
