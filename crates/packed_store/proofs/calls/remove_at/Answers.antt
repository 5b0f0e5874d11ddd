use Rattle.packed_store.proofs.RemovalLemmas.{does_remove}
use Rattle.packed_store.proofs.calls.remove_at.Goals as goal

pub returns-clause-others : goal.returns-clause-others
returns-clause-others g c honest = does_remove c.args.path.now (g.D.Device.past c.args.device.now) (g.D.Device.past c.remove.new.self) c.remove.result (c.remove.ensures.effect honest)
