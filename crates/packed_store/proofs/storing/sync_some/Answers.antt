use Rattle.std.proofs.Common.{subst, sym}
use Rattle.devices.specs.Device.{Files}
use Rattle.packed_store.specs.Place.{AreRecorded, index_of}
use Rattle.packed_store.proofs.storing.sync_some.Goals as goal

pub returns-clause-there : goal.returns-clause-there
returns-clause-there g c honest all = subst (λ (files : Files). AreRecorded files (index_of c.args.index.now.entries)) (sym (c.sync_ahead.ensures.files honest)) all
