use Rattle.folder_store.proofs.OpeningLemmas.{removed_last}
use Rattle.folder_store.proofs.SweptLemmas.{part_removed_by}
use Rattle.folder_store.proofs.opening.remove_part.Goals as goal

pub returns-clause-alike : goal.returns-clause-alike
returns-clause-alike g c honest none no_swept =
    part_removed_by (g.D.Device.past c.args.device.now) (g.D.Device.past c.remove.new.self) c.args.path.now c.remove.result none no_swept (c.remove.ensures.effect honest)

pub returns-clause-lasts : goal.returns-clause-lasts
returns-clause-lasts g c honest none no_swept =
    removed_last (g.D.Device.past c.args.device.now) (g.D.Device.past c.remove.new.self) c.args.path.now c.remove.result none no_swept (c.remove.ensures.effect honest)
