-- Why a text is not loaded, and what is loaded from a text that was saved.
use Rattle.std.specs.Prelude.{◌≡◌, ℕ, List, Option, ⊤}
use Rattle.std.specs.Io.KnownBytes.{Consumes, IsAtEnd}
use Rattle.sha2.specs.Sha256.{sha256}
use Rattle.loose_store.specs.Files.{Files}
use Rattle.fork_model.specs.Sound.{IsSoundWorld}
use Rattle.fork_model.specs.World.{World}
use Rattle.state_text.specs.declared.version.Version.{Version}
use Rattle.state_text.specs.Fault.{IsWrongLine}
use Rattle.state_text.specs.Kept.{states_of}
use Rattle.state_text.specs.States.{States}
use Rattle.state_text.specs.Text.{IsStateText, IsStateText2, IsTextIn}
use Rattle.fork_host.specs.Restored.{IsStoreOrMemory, AreRefused, IsShownAgain, HasWorld}
use Rattle.fork_host.specs.Uploads.{without_uploads}
use Rattle.fork_host.specs.declared.restore_error.RestoreError.{RestoreError}
use Rattle.fork_host.specs.declared.restore_error.RestoreError.TheVariants as restore
use Rattle.fork_state.specs.declared.fault.LoadFault.{LoadFault}
use Rattle.fork_state.specs.declared.fault.LoadFault.TheVariants.{Line, Read, Lost, Damaged, Unsound, OverLimit, Store, Memory}

-- the load fault that reports a restore error
abbrev pub restore_fault : RestoreError → LoadFault
restore_fault (restore.Lost name) = Lost name
restore_fault (restore.Damaged name) = Damaged name
restore_fault (restore.Unsound name) = Unsound name
restore_fault (restore.OverLimit tenant) = OverLimit tenant
restore_fault restore.Store = Store
restore_fault restore.Memory = Memory

-- the text is a state text, of either version
abbrev pub IsText : List ℕ → Type 0
IsText text = (states : States) × IsStateText states text

-- all that the reader had is a state text in this version, and this is its SHA-256 (FIPS 180-4, 6.2)
pub record IsTextFrom (before after : Option (List ℕ)) (name : List ℕ) (version : Version) : Type 0 where
  pub text : List ℕ
  pub states : States
  pub consumed : Consumes before after text
  pub ends : IsAtEnd after
  pub is_text : IsTextIn version states text
  pub named : name ≡ sha256 text

-- what a fault says about the text alone, over any store: its first wrong line, or that it is a state text; if the
-- reader failed or memory ran out, nothing
abbrev pub IsTextFault : List ℕ → LoadFault → Type 0
IsTextFault text (Line number) = IsWrongLine text number
IsTextFault text Read = ⊤
IsTextFault text Memory = ⊤
IsTextFault text fault = IsText text

-- the text is a state text, and its states are refused for this reason
pub record IsRefusedText (files : Files) (text : List ℕ) (error : RestoreError) : Type 0 where
  pub states : States
  pub tells : IsStateText states text
  pub refused : AreRefused files states error

-- why a text is not loaded: its first wrong line, if it is not a state text; otherwise why its states are refused
abbrev pub IsLoadFault : Files → List ℕ → LoadFault → Type 0
IsLoadFault files text (Line number) = IsWrongLine text number
IsLoadFault files text (Lost name) = IsRefusedText files text (restore.Lost name)
IsLoadFault files text (Damaged name) = IsRefusedText files text (restore.Damaged name)
IsLoadFault files text (Unsound name) = IsRefusedText files text (restore.Unsound name)
IsLoadFault files text (OverLimit tenant) = IsRefusedText files text (restore.OverLimit tenant)
IsLoadFault files text Store = IsRefusedText files text restore.Store
IsLoadFault files text Read = ⊤
IsLoadFault files text Memory = ⊤

-- the text is a state text in this version, and the world is the one that it describes
pub record IsLoaded (files : Files) (version : Version) (text : List ℕ) (world : World) : Type 0 where
  pub states : States
  pub tells : IsTextIn version states text
  pub shown : IsShownAgain files states world

-- all that the reader had is the text that was loaded, in this version, and this is its SHA-256
pub record IsLoadedFrom (before after : Option (List ℕ)) (files : Files) (world : World) (name : List ℕ) (version : Version) : Type 0 where
  pub text : List ℕ
  pub consumed : Consumes before after text
  pub ends : IsAtEnd after
  pub loaded : IsLoaded files version text world
  pub named : name ≡ sha256 text

-- if the store has the objects of a sound world, the world's states are refused only if memory runs out or the store fails
abbrev pub AcceptsItsWorld : Type 0
AcceptsItsWorld = (world : World) (files : Files) (error : RestoreError) → IsSoundWorld world → HasWorld files world → AreRefused files (states_of world) error → IsStoreOrMemory error

-- and what is shown again is that world, except its open uploads
abbrev pub ShowsItsWorld : Type 0
ShowsItsWorld = (world new : World) (files : Files) → IsSoundWorld world → HasWorld files world → IsShownAgain files (states_of world) new → new ≡ without_uploads world

-- and what is loaded from the text that was saved is that world too, except its open uploads
abbrev pub LoadsItsWorld : Type 0
LoadsItsWorld = (world new : World) (files : Files) (version : Version) (text : List ℕ) → IsSoundWorld world → HasWorld files world → IsStateText2 (states_of world) text → IsLoaded files version text new → new ≡ without_uploads world
