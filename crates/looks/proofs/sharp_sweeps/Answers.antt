use Rattle.looks.proofs.SliceLemmas.{swept}
use Rattle.looks.proofs.sharp_sweeps.Goals as goal

pub returns : goal.returns
returns c = swept
