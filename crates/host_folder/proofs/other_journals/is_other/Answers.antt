use Rattle.devices.specs.Device.{files_of}
use Rattle.host_folder.proofs.OtherLemmas.{journal_found, journal_told, old_found, old_told, read_name}
use Rattle.host_folder.proofs.other_journals.is_other.Goals as goal

pub returns-in-Some-clause-none : goal.returns-in-Some-clause-none
returns-in-Some-clause-none g c honest stands =
    journal_told (files_of (g.D.Device.past c.args.device.now)) c.args.name c.args.called.now c.in-Some.other c.counts.result c.in-Some.ensures.called c.in-Some.ensures.name c.in-Some.ensures.named (c.counts.ensures.none honest stands)

pub returns-in-Some-clause-some : goal.returns-in-Some-clause-some
returns-in-Some-clause-some g c honest stands =
    journal_found (files_of (g.D.Device.past c.args.device.now)) c.args.name c.args.called.now c.in-Some.other c.counts.result c.in-Some.ensures.name (c.counts.ensures.some honest stands c.in-Some.ensures.name)

pub returns-clause-some : goal.returns-clause-some
returns-clause-some g c honest stands =
    old_found (files_of (g.D.Device.past c.args.device.now)) c.args.name c.args.called.now c.in-Some-parse_hex.other c.old_counts.result (read_name c.args.called.now c.in-Some-parse_hex.other c.in-Some-parse_hex.ensures.value) (c.old_counts.ensures.some honest stands)

pub returns-clause-none : goal.returns-clause-none
returns-clause-none g c honest stands =
    old_told (files_of (g.D.Device.past c.args.device.now)) c.args.name c.args.called.now c.in-Some-parse_hex.other c.old_counts.result c.in_default.ensures.named c.in-Some-parse_hex.ensures.value (c.old_counts.ensures.none honest stands)
