-- The file of a journal (own): what it is called, its first line, and what is done to it.
use Rattle.std.specs.Prelude.{◌≡◌, ◌≢◌, ◌⊎◌, ℕ, Bool, true, false, List, [], ◌∷◌, ◌++◌, None, Result, codes}
use Rattle.std.specs.FinMap.{contains_key, get}
use Rattle.devices.specs.Device.{Effect, Files, Past, Wrote, Added, Moved, Removed, SyncedFile, SyncedFolder, FailedFile, FailedFolder, files_of}
use Rattle.devices.specs.Moments.{past_with}
use Rattle.devices.specs.Parts.{placing}
use Rattle.devices.specs.Runs.{Runs}
use Rattle.git_name.specs.Name.{IsName}
use Rattle.hex.specs.Hex.{encode_lower}

-- the digits of the journal's name, and the version of its format
abbrev pub journal_called : List ℕ → List ℕ
journal_called name = encode_lower name ++ codes ".2"

-- the name of the state's text in the folder when the journal was begun
abbrev pub first_line : List ℕ → List ℕ
first_line standing = codes "journal 2 " ++ (encode_lower standing ++ codes "\n")

-- the folder of journals, in a host's folder
abbrev pub journal_folder : List ℕ
journal_folder = codes "journal/"

-- the file of the journal of this name
abbrev pub journal_file : List ℕ → List ℕ
journal_file name = journal_folder ++ journal_called name

-- the file of the journal of this name in version 1, which has only frames
abbrev pub old_journal_file : List ℕ → List ℕ
old_journal_file name = journal_folder ++ encode_lower name

-- the file of the journal that has no name yet
abbrev pub journal_part : List ℕ
journal_part = journal_folder ++ codes "part"

-- a journal is begun: its part is written anew, and then its first line
abbrev pub beginning : List ℕ → List Effect
beginning standing = Wrote journal_part [] ∷ Added journal_part (first_line standing) ∷ []

-- the names in the folder of journals are synced; a folder that is missing is made by an empty part first
abbrev pub syncing_names : Bool → List Effect
syncing_names false = SyncedFolder journal_folder ∷ []
syncing_names true = Wrote journal_part [] ∷ SyncedFolder journal_folder ∷ []

-- these names are synced
abbrev pub SyncsNames : {A E : Type 0} → Past → Past → Result A E → Type 0
SyncsNames {A} {E} old new result = (is_missing : Bool) × Runs {A = A} {E = E} (syncing_names is_missing) old new result

-- these names are synced, and then a journal is begun
abbrev pub BeginsJournal : {A E : Type 0} → List ℕ → Past → Past → Result A E → Type 0
BeginsJournal {A} {E} standing old new result = (is_missing : Bool) × Runs {A = A} {E = E} (syncing_names is_missing ++ beginning standing) old new result

-- the part is synced and gets the name of its journal, and then this name is synced
abbrev pub naming : List ℕ → List Effect
naming name = SyncedFile journal_part ∷ placing journal_part (journal_file name) journal_folder

-- a file of the folder that is called so is not the journal of this name; one of version 1 is, unless one of version 2 is there
pub record IsCleared (is_there : Bool) (name called : List ℕ) : Type 0 where
  pub other : called ≢ journal_called name
  pub old : is_there ≡ false → called ≢ encode_lower name

-- the effect removes such a file
abbrev pub Clears : Bool → List ℕ → Effect → Type 0
Clears is_there name (Wrote path bytes) = ⊥
Clears is_there name (Added path bytes) = ⊥
Clears is_there name (Moved from to) = ⊥
Clears is_there name (Removed path) = (called : List ℕ) × (path ≡ journal_folder ++ called) × IsCleared is_there name called
Clears is_there name (SyncedFile path) = ⊥
Clears is_there name (SyncedFolder folder) = ⊥
Clears is_there name (FailedFile path) = ⊥
Clears is_there name (FailedFolder folder) = ⊥

abbrev pub AllClear : Bool → List ℕ → List Effect → Type 0
AllClear is_there name [] = Unit {0}
AllClear is_there name (effect ∷ effects) = Clears is_there name effect × AllClear is_there name effects

-- only such files were removed
abbrev pub ClearsBy : Bool → List ℕ → Past → Past → Type 0
ClearsBy is_there name old new = (done : List Effect) × AllClear is_there name done × (new ≡ past_with old done)

-- files in the folder of journals were removed, and not the journal of this name
abbrev pub OnlyClears : List ℕ → Past → Past → Type 0
OnlyClears name old new = ClearsBy (contains_key (files_of old) (journal_file name)) name old new

-- a host called a file of the folder so: a journal, or one that has no name yet
abbrev pub IsOwn : List ℕ → Type 0
IsOwn called = (called ≡ codes "part") ⊎ ((other : List ℕ) × IsName other × ((called ≡ journal_called other) ⊎ (called ≡ encode_lower other)))

-- if a host called it so, and it is not the journal of this name, it is not there
abbrev pub IsGone : Files → Bool → List ℕ → List ℕ → Type 0
IsGone shown is_there name called = IsOwn called → IsCleared is_there name called → get shown (journal_folder ++ called) ≡ None

-- all such files were removed
abbrev pub IsClear : List ℕ → Past → Past → Type 0
IsClear name old new = (called : List ℕ) → IsGone (files_of new) (contains_key (files_of old) (journal_file name)) name called
