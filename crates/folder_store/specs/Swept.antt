-- What is under an object's name once the swept files are put back (own).
use Rattle.std.specs.Prelude.{◌≡◌, ℕ, Bool, true, false, cond, List, [], ◌∷◌, Option, Some, None, codes, option_map, take}
use Rattle.std.specs.FinMap.{get}
use Rattle.sha2.specs.Sha256.{sha256}
use Rattle.git_name.specs.Name.{IsName}
use Rattle.git_name.specs.Same.{same_name}
use Rattle.devices.specs.Device.{Effect, Moved, Removed, Wrote, SyncedFile, SyncedFolder, within}
use Rattle.folder_store.specs.Contents.{contents_of}
use Rattle.loose_store.specs.Files.{Files}
use Rattle.folder_store.specs.Place.{home_with, place_of, swept_of}
use Rattle.folder_store.specs.declared.max_file.TheConstants.{MAX_FILE}

-- the swept file of a name. One that is too long is read as an empty one
abbrev pub swept_file : Files → List ℕ → Option (List ℕ)
swept_file files name = option_map (within MAX_FILE) (get files (swept_of name))

-- whether this is a whole file of the name: one whose SHA-256 is the name (FIPS 180-4, 6.2)
abbrev pub is_whole : List ℕ → Option (List ℕ) → Bool
is_whole name (Some bytes) = same_name (sha256 bytes) name
is_whole name None = false

-- the swept file, unless there is none, or a whole file is at the object's place: otherwise what is there
abbrev pub put_back : List ℕ → Option (List ℕ) → Option (List ℕ) → Option (List ℕ)
put_back name (Some swept) there = cond (is_whole name there) there (Some swept)
put_back name None there = there

-- what opening these files leaves under a name
abbrev pub opened : Files → List ℕ → Option (List ℕ)
opened files name = put_back name (swept_file files name) (get (contents_of files) name)

-- the contents are what opening these files leaves
abbrev pub IsOpened : Files → Files → Type 0
IsOpened files contents = (name : List ℕ) → IsName name → get contents name ≡ opened files name

-- opening either files leaves the same
abbrev pub OpenAlike : Files → Files → Type 0
OpenAlike old new = (name : List ℕ) → IsName name → opened new name ≡ opened old name

-- what puts the swept file of a name back: if the file at its place is whole, that one is synced and the swept one removed
abbrev pub steps_back : List ℕ → Bool → List Effect
steps_back name true = SyncedFile (place_of name) ∷ SyncedFolder (home_with (take 1 name)) ∷ Removed (swept_of name) ∷ []
steps_back name false = Moved (swept_of name) (place_of name) ∷ []

-- what writes the file at a path: first as a part, which is synced before it is renamed, if a swept file of its name exists
abbrev pub put_steps : Bool → List ℕ → List ℕ → List ℕ → List Effect
put_steps true part path bytes = Wrote part bytes ∷ SyncedFile part ∷ Moved part path ∷ []
put_steps false part path bytes = Wrote part bytes ∷ Moved part path ∷ []

-- what syncs the move of a swept file, if it exists
abbrev pub move_syncs : List ℕ → Bool → List Effect
move_syncs name true = SyncedFolder (codes "swept/") ∷ SyncedFolder (home_with (take 1 name)) ∷ []
move_syncs name false = []
