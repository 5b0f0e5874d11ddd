-- The journal that a saving begins (own), over an honest device of the host's folder.
use Rattle.std.specs.Prelude.{◌≡◌, ℕ, false, List, [], Option, Some, None}
use Rattle.devices.specs.Crash.{folder_has_failed}
use Rattle.devices.specs.Device.{Effect, Past, Wrote, with_effect}
use Rattle.devices.specs.Moments.{past_with}
use Rattle.devices.specs.Parts.{AreAppends}
use Rattle.host_folder.specs.Appending.{IsAppendedTo, IsUnfailed, bytes_at}
use Rattle.host_folder.specs.Journal.{journal_file, journal_folder, journal_part}
use Rattle.fork_program.specs.UploadLog.{reference_line}
use Rattle.fork_program.specs.declared.log_reference.LogReference.{LogReference}

-- the line by which a journal refers to a log of open uploads, if it does
abbrev pub reference_lines : Option LogReference → List ℕ
reference_lines None = []
reference_lines (Some reference) = reference_line reference.number reference.len reference.sum

-- a journal that has no name yet was written anew, and then only appended to; before that, no sync of the names beside it failed
pub record IsBegun (past : Past) : Type 0 where
  pub first : Past
  pub pieces : List Effect
  pub each : AreAppends journal_part pieces
  pub all : past ≡ past_with (with_effect first (Wrote journal_part [])) pieces
  pub unfailed : folder_has_failed first.effects journal_folder ≡ false

-- a read shows the journal of this name with these bytes, all of which are sure to be left, and no sync of it has failed
pub record IsNamed (name text : List ℕ) (past : Past) : Type 0 where
  pub shown : bytes_at (journal_file name) past ≡ text
  pub kept : IsAppendedTo (journal_file name) text past
  pub unfailed : IsUnfailed (journal_file name) past
