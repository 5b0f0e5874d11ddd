use Rattle.packed_store.proofs.LastingLemmas.{are_lasting}
use Rattle.packed_store.proofs.WithinLemmas.{all_last}
use Rattle.packed_store.proofs.log.Log.lasting.Goals as goal

pub returns-clause-lasts : goal.returns-clause-lasts
returns-clause-lasts g c clean honest none there =
    let log = c.args.self.now in
    are_lasting (g.D.Device.past log.device) log.first log.segment (log.clean clean honest none) (log.named (log.known clean) honest none) there

pub returns-clause-all : goal.returns-clause-all
returns-clause-all g c clean honest none there =
    let log = c.args.self.now in
    let past = g.D.Device.past log.device in
    all_last past log.first log.segment (log.within honest) (are_lasting past log.first log.segment (log.clean clean honest none) (log.named (log.known clean) honest none) there)
