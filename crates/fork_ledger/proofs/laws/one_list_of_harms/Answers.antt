use Rattle.fork_ledger.proofs.HarmLemmas.{one_list}
use Rattle.fork_ledger.proofs.laws.one_list_of_harms.Goals as goal

pub returns : goal.returns
returns c = one_list
