-- The fault of bytes, judged from the left: the first wrong entry decides (own).
use Rattle.std.specs.Prelude.{◌≡◌, ◌≢◌, ◌<◌, ◌⊎◌, ℕ, List, [], ◌∷◌, ◌++◌, length}
use Rattle.std.specs.List.{flat_map, Any}
use Rattle.git_tree.specs.declared.mode.Mode.{Mode}
use Rattle.git_tree.specs.declared.fault.TreeFault.{TreeFault}
use Rattle.git_tree.specs.declared.fault.TreeFault.TheVariants as fault
use Rattle.git_tree.specs.Mode.{digits}
use Rattle.git_name.specs.Text.{Lacks}
use Rattle.git_tree.specs.Entry.{Entry, IsFileName, IsEntry, spelled}
use Rattle.git_tree.specs.Tree.{IsBelow, AreEntries}

-- what precedes the first space is not a mode
pub record HasBadMode (bytes : List ℕ) : Type 0 where
  pub word : List ℕ
  pub after : List ℕ
  pub parts : bytes ≡ word ++ 32 ∷ after
  pub first : Lacks 32 word
  pub bad : (mode : Mode) → word ≢ digits mode

-- a mode, and a file name that no entry may have
pub record HasBadName (bytes : List ℕ) : Type 0 where
  pub mode : Mode
  pub file_name : List ℕ
  pub after : List ℕ
  pub parts : bytes ≡ digits mode ++ 32 ∷ (file_name ++ 0 ∷ after)
  pub first : Lacks 0 file_name
  pub bad : IsFileName file_name → ⊥

-- a mode, and no zero after it
pub record HasNoZero (bytes : List ℕ) : Type 0 where
  pub mode : Mode
  pub after : List ℕ
  pub parts : bytes ≡ digits mode ++ 32 ∷ after
  pub lacks : Lacks 0 after

-- a mode, a file name, and fewer than 32 bytes
pub record HasShortName (bytes : List ℕ) : Type 0 where
  pub mode : Mode
  pub file_name : List ℕ
  pub after : List ℕ
  pub parts : bytes ≡ digits mode ++ 32 ∷ (file_name ++ 0 ∷ after)
  pub file_name_is : IsFileName file_name
  pub short : length after < 32

-- the bytes end within an entry
pub data IsCutShort (bytes : List ℕ) : Type 0 where
  NoSpace : Lacks 32 bytes → IsCutShort bytes
  NoZero : HasNoZero bytes → IsCutShort bytes
  ShortName : HasShortName bytes → IsCutShort bytes

-- the fault of bytes that begin with no entry
abbrev pub IsFormFault : TreeFault → List ℕ → Type 0
IsFormFault fault.Mode bytes = HasBadMode bytes
IsFormFault fault.Name bytes = HasBadName bytes
IsFormFault fault.Truncated bytes = IsCutShort bytes
IsFormFault fault.Repeated bytes = ⊥
IsFormFault fault.Order bytes = ⊥

-- an earlier entry has the file name
abbrev pub IsRepeated : List Entry → Entry → Type 0
IsRepeated front entry = Any (λ a. a.file_name ≡ entry.file_name) front

-- the key is not above that of an earlier entry
abbrev pub IsOutOfOrder : List Entry → Entry → Type 0
IsOutOfOrder front entry = Any (λ a. IsBelow a entry → ⊥) front

-- the fault of a valid entry at its place after others
abbrev pub IsPlaceFault : TreeFault → List Entry → Entry → Type 0
IsPlaceFault fault.Mode front entry = ⊥
IsPlaceFault fault.Name front entry = ⊥
IsPlaceFault fault.Truncated front entry = ⊥
IsPlaceFault fault.Repeated front entry = IsRepeated front entry
IsPlaceFault fault.Order front entry = (IsRepeated front entry → ⊥) × IsOutOfOrder front entry

-- the bytes begin with a valid entry that cannot come after the others
pub record IsMisplaced (fault : TreeFault) (front : List Entry) (bytes : List ℕ) : Type 0 where
  pub entry : Entry
  pub after : List ℕ
  pub is : IsEntry entry
  pub parts : bytes ≡ spelled entry ++ after
  pub wrong : IsPlaceFault fault front entry

-- a prefix of the bytes is valid entries, and what follows has this fault
pub record IsTreeFault (fault : TreeFault) (bytes : List ℕ) : Type 0 where
  pub front : List Entry
  pub rest : List ℕ
  pub are : AreEntries front
  pub parts : bytes ≡ flat_map spelled front ++ rest
  pub some : rest ≢ []
  pub wrong : IsFormFault fault rest ⊎ IsMisplaced fault front rest
