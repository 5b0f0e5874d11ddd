use Rattle.devices.proofs.ChosenLemmas.{nothing_lost}
use Rattle.devices.proofs.laws.no_fates_lose_nothing.Goals as goal

pub returns : goal.returns
returns c base past path = nothing_lost base past path
