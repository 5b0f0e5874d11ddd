use Rattle.folder_store.proofs.EffectLemmas.{kept_in, other_removed}
use Rattle.folder_store.proofs.object_file.remove_other.Goals as goal

pub returns-clause-kept : goal.returns-clause-kept
returns-clause-kept g c none =
    kept_in (g.D.Device.honest c.args.device.now) (g.D.Device.honest c.remove.new.self) (g.D.Device.past c.args.device.now) (g.D.Device.past c.remove.new.self) c.remove.ensures.honest
    (λ honest. other_removed (g.D.Device.past c.args.device.now) (g.D.Device.past c.remove.new.self) c.args.path.now c.remove.result none (c.remove.ensures.effect honest))
