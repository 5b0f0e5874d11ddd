-- Which objects' files last (own): what an opening shows of them after a loss of power.
use Rattle.std.specs.Prelude.{◌≡◌, ◌≢◌, ℕ, true, false, List, Option, Some, None, option_map}
use Rattle.std.specs.FinMap.{get}
use Rattle.devices.specs.Crash.{File, MayBytes, MayNames, Names, Stands, folder_has_failed, has_failed, names_after}
use Rattle.devices.specs.Device.{Past, files_of, within}
use Rattle.git_name.specs.Name.{IsName}
use Rattle.devices.specs.Moments.{Throughout}
use Rattle.folder_store.specs.Place.{place_of, swept_of}
use Rattle.folder_store.specs.Swept.{is_whole, put_back}
use Rattle.folder_store.specs.declared.max_file.TheConstants.{MAX_FILE}

-- a file, as it is read. One that is too long is read as an empty one
abbrev pub as_read : Option (List ℕ) → Option (List ℕ)
as_read found = option_map (within MAX_FILE) found

-- whatever a loss of power leaves at a path, it is a whole file of the name
abbrev pub IsSafeAt : List ℕ → Past → List ℕ → Type 0
IsSafeAt path past name = (names : Names) → MayNames past.base past.effects names → (found : Option (List ℕ)) → Stands past.base past.effects (names path) found → is_whole name (as_read found) ≡ true

-- the file is safe at its place, whatever is beside it
abbrev pub IsPlaceSafe : List ℕ → Past → Type 0
IsPlaceSafe name past = IsSafeAt (place_of name) past name

-- whatever a loss of power leaves at the name's two paths, an opening makes of it a whole file of the name
abbrev pub IsSafe : Past → List ℕ → Type 0
IsSafe past name = (names : Names) → MayNames past.base past.effects names → (swept there : Option (List ℕ))
    → Stands past.base past.effects (names (swept_of name)) swept → Stands past.base past.effects (names (place_of name)) there → is_whole name (put_back name (as_read swept) (as_read there)) ≡ true

-- whatever a loss of power leaves of the bytes of the file that is seen at a path, they are a whole file of the name
abbrev pub HasSureBytes : List ℕ → Past → List ℕ → Type 0
HasSureBytes path past name = (file : File) → names_after past.base past.effects path ≡ Some file → (bytes : List ℕ) → MayBytes past.base past.effects file bytes → is_whole name (as_read (Some bytes)) ≡ true

-- the file is safe. If there is one at the place beside the swept one, its bytes are sure
pub record Lasts (past : Past) (name : List ℕ) : Type 0 where
  pub safe : IsSafe past name
  pub both : (older newer : List ℕ) → get (files_of past) (swept_of name) ≡ Some older → get (files_of past) (place_of name) ≡ Some newer → HasSureBytes (place_of name) past name

-- the file of this name lasts
abbrev pub IsLasting : List ℕ → Past → Type 0
IsLasting name past = Lasts past name

-- if the file lasts, it does so at each moment
abbrev pub LastsAs : Past → Past → List ℕ → Type 0
LastsAs old new name = Lasts old name → Throughout (IsLasting name) old new

-- no sync has failed
pub record IsUnfailed (past : Past) : Type 0 where
  pub files : (file : File) → has_failed past.base past.effects file ≡ false
  pub folders : (folder : List ℕ) → folder_has_failed past.effects folder ≡ false

-- a file that is safe at its place is so at each moment
abbrev pub StaysSafe : Past → Past → Type 0
StaysSafe old new = (name : List ℕ) → IsPlaceSafe name old → Throughout (IsPlaceSafe name) old new

-- the file is safe at its two paths together
abbrev pub IsBothSafe : List ℕ → Past → Type 0
IsBothSafe name past = IsSafe past name

-- if no sync has failed, none has since, and each file that was safe is so at each moment
abbrev pub AllSafe : Past → Past → Type 0
AllSafe old new = IsUnfailed old → IsUnfailed new × ((name : List ℕ) → IsName name → IsSafe old name → Throughout (IsBothSafe name) old new)

-- what writing the file of a name leaves: others last as they did, and are safe at their places at each moment
pub record PutsFile (name : List ℕ) (old new : Past) : Type 0 where
  pub others : (other : List ℕ) → IsName other → name ≢ other → LastsAs old new other
  pub places : (other : List ℕ) → IsName other → name ≢ other → IsPlaceSafe other old → Throughout (IsPlaceSafe other) old new
  pub swept : (other : List ℕ) → get (files_of new) (swept_of other) ≡ get (files_of old) (swept_of other)
  pub safe : IsSafeAt (swept_of name) old name → IsSafeAt (swept_of name) new name

-- what a sweep of a name leaves: each file lasts as it did, and others are safe at their places at each moment
pub record SweepsFile (name : List ℕ) (old new : Past) : Type 0 where
  pub unfailed : IsUnfailed old → IsUnfailed new
  pub all : (other : List ℕ) → IsName other → LastsAs old new other
  pub places : (other : List ℕ) → IsName other → name ≢ other → IsPlaceSafe other old → Throughout (IsPlaceSafe other) old new

-- what removing swept files leaves: files are safe at their places at each moment, and what has no swept file lasts
pub record ForgetsFiles (old new : Past) : Type 0 where
  pub unfailed : IsUnfailed old → IsUnfailed new
  pub places : StaysSafe old new
  pub none : (name : List ℕ) → IsName name → get (files_of old) (swept_of name) ≡ None → get (files_of new) (swept_of name) ≡ None
  pub lasting : (name : List ℕ) → IsName name → get (files_of old) (swept_of name) ≡ None → LastsAs old new name
