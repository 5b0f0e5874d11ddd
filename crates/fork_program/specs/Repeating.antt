-- What a start repeats of the journal of its state (own), by the files that the device shows.
use Rattle.std.specs.Prelude.{◌≡◌, ◌+◌, ◌^◌, ◌-◌, ℕ, min, false, IfSome, List, ◌++◌, None, Option, Some, option_map}
use Rattle.std.specs.FinMap.{get}
use Rattle.std.specs.Io.KnownBytes.{Consumes}
use Rattle.chained_log.specs.Reading.{log_contents}
use Rattle.devices.specs.Device.{Files, bytes_or_none}
use Rattle.fork_host.specs.Shown.{HostState}
use Rattle.fork_program.specs.Saving.{IsHostOfState}
use Rattle.fork_program.specs.UploadLog.{is_reference, reference_line}
use Rattle.fork_wire.specs.Again.{IsServedAgain}
use Rattle.git_name.specs.Name.{IsName}
use Rattle.host_folder.specs.Journal.{first_line, journal_file, old_journal_file}
use Rattle.host_folder.specs.OtherJournals.{HasNoOther}
use Rattle.host_folder.specs.State.{state_file}
use Rattle.loose_store.specs.Files.{Files as Objects}
use Rattle.sha2.specs.Sha256.{sha256}

-- what a journal of this name has behind its first line was repeated, so many requests
pub data IsRestRepeated (input : Option (List ℕ)) (name : List ℕ) (old new : HostState) (count : ℕ) : Type 0 where
  -- it refers to no log of open uploads
  Plain : IfSome input (λ bytes. is_reference bytes ≡ false) → IsServedAgain old new (option_map (log_contents name) input) count → IsRestRepeated input name old new count
  -- requests of the log to which it refers were repeated first
  Logged : (number len before more : ℕ) (sum : List ℕ) (rest : Option (List ℕ)) (mid : HostState) → Consumes input rest (reference_line number len sum)
      → IsServedAgain old mid None before → IsServedAgain mid new (option_map (log_contents name) rest) more → count ≡ min (before + more) (2 ^ 64 - 1) → IsRestRepeated input name old new count

-- a journal of version 1 was repeated, if there is one
abbrev pub IsOldRepeated : Option (List ℕ) → HostState → HostState → ℕ → Type 0
IsOldRepeated (Some text) old new count = IsServedAgain old new (Some text) count
IsOldRepeated None old new count = (new ≡ old) × (count ≡ 0)

-- a journal of this name was repeated, or else one of version 1
abbrev pub IsJournalRepeated : Option (List ℕ) → Option (List ℕ) → List ℕ → HostState → HostState → ℕ → Type 0
IsJournalRepeated (Some text) earlier name old new count = (before rest : List ℕ) × IsName before × (text ≡ first_line before ++ rest) × IsRestRepeated (Some rest) name old new count
IsJournalRepeated None earlier name old new count = IsOldRepeated earlier old new count

-- the journal of this name in these files was repeated
abbrev pub IsRepeated : Files → List ℕ → HostState → HostState → ℕ → Type 0
IsRepeated shown name old new count = IsJournalRepeated (get shown (journal_file name)) (get shown (old_journal_file name)) name old new count

-- a host is that of the state which a device shows, after so many requests of the state's journal, and no other journal is there
pub record IsStart (objects : Objects) (shown : Files) (host : HostState) (count : ℕ) : Type 0 where
  pub first : HostState
  pub loaded : IsHostOfState objects (get shown state_file) first
  pub alone : HasNoOther shown (sha256 (bytes_or_none (get shown state_file)))
  pub repeated : IsRepeated shown (sha256 (bytes_or_none (get shown state_file))) first host count
