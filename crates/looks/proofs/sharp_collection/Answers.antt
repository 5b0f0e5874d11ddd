use Rattle.looks.proofs.RoundLemmas.{collected}
use Rattle.looks.proofs.sharp_collection.Goals as goal

pub returns : goal.returns
returns c = collected
