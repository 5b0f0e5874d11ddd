-- The host that a folder keeps, and what `check` and `upgrade` do (own). Nothing is claimed of what a device holds.
use Rattle.std.specs.Prelude.{◌≡◌, ℕ, ◌==◌, List, [], ◌++◌, codes, decimal, if◌then◌else◌, Option, ⊤}
use Rattle.std.specs.Io.KnownBytes.{Appends, Keeps}
use Rattle.sha2.specs.Sha256.{sha256}
use Rattle.fork_host.specs.Shape.{SameShape}
use Rattle.fork_host.specs.Shown.{HostState, Trusted, world_of}
use Rattle.state_text.specs.Kept.{states_of}
use Rattle.state_text.specs.Text.{IsStateText2}
use Rattle.fork_program.specs.declared.fault.Fault.{Fault}
use Rattle.fork_program.specs.declared.fault.Fault.TheVariants.{Write, Memory, Store, NoState, NotPacked, Unreadable, Journal, OtherJournal, NotSaved, Line, Lost, Damaged, Unsound, OverLimit}

-- nothing was read or written
pub record IsUntouched (input left before after : Option (List ℕ)) : Type 0 where
  pub unread : Keeps input left
  pub unwritten : Keeps before after

-- the faults that may come from a folder whose host is needed
abbrev pub IsUnkept : Fault → Type 0
IsUnkept Memory = ⊤
IsUnkept Store = ⊤
IsUnkept Unreadable = ⊤
IsUnkept Journal = ⊤
IsUnkept OtherJournal = ⊤
IsUnkept NotPacked = ⊤
IsUnkept (Line line) = ⊤
IsUnkept (Lost name) = ⊤
IsUnkept (Damaged name) = ⊤
IsUnkept (Unsound name) = ⊤
IsUnkept (OverLimit tenant) = ⊤
IsUnkept _ = ⊥

-- the same, if the folder must already have a state
abbrev pub IsUnopened : Fault → Type 0
IsUnopened NoState = ⊤
IsUnopened fault = IsUnkept fault

-- the same, if the state is then saved again
abbrev pub IsUnrenewed : Fault → Type 0
IsUnrenewed NotSaved = ⊤
IsUnrenewed fault = IsUnopened fault

-- saving a host's state does not change what the host shows: over any store each view keeps its shape, and over a trusted store
-- the world is the same
pub record IsSaved (old new : HostState) : Type 0 where
  pub shape : (tenant : List ℕ) → SameShape tenant (world_of old) (world_of new)
  pub trusted : Trusted old → Trusted new
  pub shows : Trusted old → world_of new ≡ world_of old

-- what is saved of a host is the text of its states in version 2, without open uploads
abbrev pub IsTextOf : HostState → List ℕ → Type 0
IsTextOf host text = IsStateText2 (states_of (world_of host)) text

-- this is the name of the host's state: the SHA-256 of its text (FIPS 180-4, 6.2)
pub record IsNameOf (host : HostState) (name : List ℕ) : Type 0 where
  pub text : List ℕ
  pub saved : IsTextOf host text
  pub named : name ≡ sha256 text

-- what `check` prints for a sound folder
abbrev pub sound_line : List ℕ
sound_line = codes "sound\n"

-- what it writes to standard error: how many requests a start would repeat, if any
abbrev pub again_line : ℕ → List ℕ
again_line count = if count == 0 then [] else codes "journal " ++ decimal count ++ codes "\n"

-- why `check` did not print its line, or only a part of it
abbrev pub IsUnchecked : Option (List ℕ) → Option (List ℕ) → Fault → Type 0
IsUnchecked before after Write = ⊤
IsUnchecked before after fault = IsUnopened fault × Keeps before after

-- what `upgrade` prints: the first line of what it saved, without the program's name
abbrev pub version_line : List ℕ
version_line = codes "state 2\n"

-- the text of a host; that it was saved is in no clause
pub record IsRenewed : Type 0 where
  pub host : HostState
  pub text : List ℕ
  pub saved : IsTextOf host text

-- and then its version was printed
abbrev pub IsUpgraded : Option (List ℕ) → Option (List ℕ) → Type 0
IsUpgraded before after = IsRenewed × Appends before after version_line

-- why `upgrade` did not print its line, or only a part of it
abbrev pub IsNotUpgraded : Option (List ℕ) → Option (List ℕ) → Fault → Type 0
IsNotUpgraded before after Write = ⊤
IsNotUpgraded before after fault = IsUnrenewed fault × Keeps before after
