-- What the calls of a folder leave of what lasts (own).
use Rattle.std.specs.Prelude.{◌≡◌, ◌≢◌, ◌⊎◌, ℕ, Bool, true, false, List, [], ◌∷◌, Some, None}
use Rattle.std.specs.FinMap.{get}
use Rattle.devices.specs.Device.{Past, files_of}
use Rattle.git_name.specs.Name.{IsName}
use Rattle.folder_store.specs.Lasting.{IsPlaceSafe, IsSafe, IsSafeAt, IsUnfailed, Lasts, LastsAs}
use Rattle.devices.specs.Moments.{Throughout}
use Rattle.folder_store.specs.Place.{place_of, swept_of}
use Rattle.folder_store.specs.Swept.{is_whole}

-- a folder between two calls: its device, whether there may be swept files, and whether a sync failed
pub record Standing : Type 0 where
  pub past : Past
  pub has_swept : Bool
  pub has_failed : Bool

abbrev pub standing : Past → Bool → Bool → Standing
standing past has_swept has_failed = record { past = past; has_swept = has_swept; has_failed = has_failed }

-- a call of a folder
pub data Call : Type 0 where
  Reads : Call
  Puts : (name bytes : List ℕ) → Call
  Removes : (name : List ℕ) → Call
  Syncs : Call
  Forgets : Call

-- unless there may be swept files, there are none
abbrev pub IsTold : Standing → Type 0
IsTold standing = standing.has_swept ≡ false → (name : List ℕ) → IsName name → get (files_of standing.past) (swept_of name) ≡ None

-- the file of a name lasts
abbrev pub LastsIn : Standing → List ℕ → Type 0
LastsIn standing name = Lasts standing.past name

-- the call neither writes nor removes the file of this name
abbrev pub Leaves : Call → List ℕ → Type 0
Leaves Reads name = Unit {0}
Leaves (Puts other bytes) name = other ≢ name
Leaves (Removes other) name = other ≢ name
Leaves Syncs name = Unit {0}
Leaves Forgets name = Unit {0}

-- the call writes no file over one of this name, and none that is not whole, and does not forget its swept file while that is needed
abbrev pub Spares : Call → Standing → List ℕ → Type 0
Spares Reads standing name = Unit {0}
Spares (Puts other bytes) standing name = (other ≢ name) ⊎ ((get (files_of standing.past) (place_of name) ≡ None) × (is_whole name (Some bytes) ≡ true) × IsTold standing × IsUnfailed standing.past)
Spares (Removes other) standing name = Unit {0}
Spares Syncs standing name = Unit {0}
Spares Forgets standing name = (get (files_of standing.past) (swept_of name) ≡ None) ⊎ IsSafeAt (place_of name) standing.past name

-- it is no sync that failed
abbrev pub IsAnswered : Call → Standing → Type 0
IsAnswered call new = call ≡ Syncs → new.has_failed ≡ false

-- what a call leaves of what lasts. What is safe at its place, or lasts, is so at each moment of the call. A file that is put
-- again is safe, whatever its bytes are
pub record Calls (call : Call) (old new : Standing) : Type 0 where
  pub failed : new.has_failed ≡ false → old.has_failed ≡ false
  pub unfailed : new.has_failed ≡ false → IsUnfailed old.past → IsUnfailed new.past
  pub told : IsAnswered call new → IsTold old → IsTold new
  pub places : IsAnswered call new → (name : List ℕ) → IsName name → Leaves call name → IsPlaceSafe name old.past → Throughout (IsPlaceSafe name) old.past new.past
  pub again : (name bytes : List ℕ) → call ≡ Puts name bytes → IsName name → IsTold old → IsUnfailed old.past → get (files_of old.past) (place_of name) ≡ None → LastsIn old name → IsSafe new.past name
  pub lasting : IsAnswered call new → (name : List ℕ) → IsName name → Spares call old name → LastsAs old.past new.past name

-- calls one after another
abbrev pub CallsAll : List Call → Standing → Standing → Type 0
CallsAll [] old new = new ≡ old
CallsAll (call ∷ calls) old new = (between : Standing) × Calls call old between × CallsAll calls between new

-- none of the calls writes or removes the file of this name
abbrev pub LeaveAll : List Call → List ℕ → Type 0
LeaveAll [] name = Unit {0}
LeaveAll (call ∷ calls) name = Leaves call name × LeaveAll calls name

-- calls one after another, none of which endangers the file of this name, if no sync failed before it
abbrev pub CallsSparing : List ℕ → List Call → Standing → Standing → Type 0
CallsSparing name [] old new = new ≡ old
CallsSparing name (call ∷ calls) old new = (between : Standing) × Calls call old between × (IsTold old → IsUnfailed old.past → Spares call old name) × CallsSparing name calls between new
