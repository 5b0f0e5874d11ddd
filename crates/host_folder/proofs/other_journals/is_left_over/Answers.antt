use Rattle.std.proofs.Common.{subst, sym, ◌∙◌}
use Rattle.devices.specs.Device.{files_of}
use Rattle.host_folder.specs.Journal.{journal_file}
use Rattle.host_folder.specs.OtherJournals.{Stands}
use Rattle.host_folder.proofs.OtherLemmas.{are_two, other_line}
use Rattle.host_folder.proofs.other_journals.is_left_over.Goals as goal

pub returns-else-eq-clause-apart : goal.returns-else-eq-clause-apart
returns-else-eq-clause-apart g c honest stands other_name apart =
    let shown = files_of (g.D.Device.past c.args.device.now) in
    let standing = subst (Stands shown c.args.name) c.in-After.is stands in
    other_line shown (journal_file c.args.name) c.in-After.before c.args.other standing.0 other_name standing.1 (are_two c.in-After.before c.args.other (sym c.eq.ensures ∙ c.if-eq.false))
