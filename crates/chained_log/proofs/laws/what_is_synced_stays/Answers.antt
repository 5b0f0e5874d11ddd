use Rattle.chained_log.proofs.SyncedLemmas.{synced_stays}
use Rattle.chained_log.proofs.laws.what_is_synced_stays.Goals as goal

pub returns : goal.returns
returns c = synced_stays
