use Rattle.chained_log.proofs.WholeLemmas.{known_contents}
use Rattle.chained_log.proofs.laws.known_contents_are_whole.Goals as goal

pub returns : goal.returns
returns c = known_contents
