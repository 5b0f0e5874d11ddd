use Rattle.packed_store.proofs.GrowthLemmas.{does_add, does_grow}
use Rattle.packed_store.proofs.calls.append_to.Goals as goal

pub returns-clause-added : goal.returns-clause-added
returns-clause-added g c honest = does_add c.args.path.now c.args.bytes.now (g.D.Device.past c.args.device.now) (g.D.Device.past c.append.new.self) c.append.result (c.append.ensures.effect honest)

pub returns-clause-grows : goal.returns-clause-grows
returns-clause-grows g c honest = does_grow c.args.path.now c.args.bytes.now (g.D.Device.past c.args.device.now) (g.D.Device.past c.append.new.self) c.append.result (c.append.ensures.effect honest)
