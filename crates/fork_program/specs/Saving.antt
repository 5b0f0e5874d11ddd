-- What saving a host's state leaves in its folder (own), over an honest device.
use Rattle.std.specs.Prelude.{◌≡◌, ◌⊎◌, ℕ, Bool, true, false, IsTrue, List, [], Option, None, Result, Some}
use Rattle.std.specs.FinMap.{empty, get}
use Rattle.devices.specs.Crash.{File, folder_has_failed, has_failed, names_after}
use Rattle.devices.specs.Device.{Past, bytes_or_none}
use Rattle.devices.specs.Moments.{LeavesOnly}
use Rattle.devices.specs.Parts.{IsSure, IsWritten, MayStand}
use Rattle.fork_host.specs.Shown.{HostState, Trusted, world_of}
use Rattle.fork_state.specs.Loaded.{IsLoaded}
use Rattle.devices.specs.Runs.{Runs}
use Rattle.devices.specs.declared.device.DeviceFault.{DeviceFault}
use Rattle.host_folder.specs.State.{IsShown, part_file, state_file, syncing}
use Rattle.loose_store.specs.Files.{Files}
use Rattle.sha2.specs.Sha256.{sha256}
use Rattle.state_text.specs.declared.version.Version.{Version}
use Rattle.fork_program.specs.Keeping.{IsNameOf, IsTextOf}

-- the text of a host's state was written as the part, and this is its name
pub record IsDrafted (host : HostState) (name : List ℕ) (old new : Past) : Type 0 where
  pub text : List ℕ
  pub saved : IsTextOf host text
  pub named : name ≡ sha256 text
  pub written : IsWritten part_file text old new

-- a loss of power leaves this state, or that of the host
abbrev pub LeavesStateOrOf : Option (List ℕ) → HostState → Past → Type 0
LeavesStateOrOf before host = LeavesOnly (λ left. (get left state_file ≡ before) ⊎ ((text : List ℕ) × IsTextOf host text × (get left state_file ≡ Some text)))

-- it is sure which state a loss of power leaves: this one, or that of the host
abbrev pub SettlesOn : Option (List ℕ) → HostState → Past → Type 0
SettlesOn before host past = IsSure past state_file before ⊎ ((text : List ℕ) × IsTextOf host text × IsSure past state_file (Some text))

-- whatever state a loss of power leaves, it has this name; where it leaves none, this is the name of an empty text
abbrev pub IsStanding : List ℕ → Past → Type 0
IsStanding name past = (left : Option (List ℕ)) → MayStand past state_file left → sha256 (bytes_or_none left) ≡ name

-- it does if this is known, unless a sync of the folder failed
abbrev pub StandsIfSure : Bool → Bool → List ℕ → Past → Type 0
StandsIfSure is_sure honest name past = is_sure ≡ true → IsTrue honest → folder_has_failed past.effects [] ≡ false → IsStanding name past

-- whatever state a loss of power leaves, it has the name of this host's state
abbrev pub LeavesNameOf : HostState → Past → Type 0
LeavesNameOf host past = (left : Option (List ℕ)) → MayStand past state_file left → IsNameOf host (sha256 (bytes_or_none left))

-- the state was synced as it stands, or that was tried, and nothing else was done
abbrev pub OnlySyncs : Past → Past → Type 0
OnlySyncs old new = (answer : Result (Unit {0}) DeviceFault) × Runs syncing old new answer

-- a read shows a state of this name
pub record IsShownAs (name : List ℕ) (past : Past) : Type 0 where
  pub text : List ℕ
  pub named : name ≡ sha256 text
  pub shown : IsShown text past

-- no sync of the state or of the names in its folder has failed, also by an earlier process
pub record IsUnfailed (past : Past) : Type 0 where
  pub file : (file : File) → names_after past.base past.effects state_file ≡ Some file → has_failed past.base past.effects file ≡ false
  pub folder : folder_has_failed past.effects [] ≡ false

-- a host is that of the state which its folder shows, over these files of objects; if it shows none, the host has no tenants
abbrev pub IsHostOfState : Files → Option (List ℕ) → HostState → Type 0
IsHostOfState files (Some text) host = (version : Version) × IsLoaded files version text (world_of host)
IsHostOfState files None host = world_of host ≡ empty

-- a host has the state of this name, which a read of its folder shows
pub record IsRestoredOf (host : HostState) (name : List ℕ) (honest : Bool) (past : Past) : Type 0 where
  pub own : Trusted host → IsNameOf host name
  pub shown : IsTrue honest → IsShownAs name past
