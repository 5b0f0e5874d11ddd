use Rattle.std.proofs.Common.{◌∙◌}
use Rattle.host_folder.specs.Journal.{first_line}
use Rattle.host_folder.proofs.JournalLemmas.{part_and_line}
use Rattle.host_folder.proofs.journal_file.write_line.Goals as goal

pub returns-clause-effects : goal.returns-clause-effects
returns-clause-effects g c honest =
    part_and_line c.as_slice.result.now c.as_slice-2.result.now (first_line c.args.standing) (g.D.Device.past c.args.device.now) (g.D.Device.past c.write.new.self) (g.D.Device.past c.append.new.self) c.append.result
    c.as_slice.ensures (c.as_slice-2.ensures ∙ c.line_of.ensures) (c.in_ok-write.ensures.effect honest) (c.append.ensures.effect (c.write.ensures.honest ∙ honest))
