use Rattle.std.proofs.Common.{refl, sym}
use Rattle.sha2.specs.Sha256.{sha256}
use Rattle.devices.specs.Device.{files_of}
use Rattle.packed_store.specs.Entry.{File, titled}
use Rattle.packed_store.proofs.AppendLemmas.{placed}
use Rattle.packed_store.proofs.log.Log.add_summed.Goals as goal

pub returns-clause-added : goal.returns-clause-added
returns-clause-added g c honest =
    c.add_bytes.ensures.added honest 102 c.args.name c.args.bytes.now (sha256 (titled 102 c.args.name c.args.bytes.now)) c.in_ok-len.ensures.spelled c.in_ok-len.ensures.name.length refl (sym c.in_ok-len.ensures.len)

pub returns-clause-placed : goal.returns-clause-placed
returns-clause-placed g c honest =
    placed (files_of (g.D.Device.past c.add_bytes.new.self.device)) c.args.name c.args.bytes.now _ (File c.args.name c.args.bytes.now) 37 c.add_bytes.result c.in_ok-len.ensures.spelled refl
    (c.in_ok-len.ensures.fits, c.in_ok-len.ensures.name) (refl, refl) (c.add_bytes.ensures.ended honest)
