use Rattle.devices.proofs.ChosenLemmas.{chosen_may_leave}
use Rattle.devices.proofs.laws.what_fates_choose_may_be_left.Goals as goal

pub returns : goal.returns
returns c base fates past left is = chosen_may_leave base fates past left is
