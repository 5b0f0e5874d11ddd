-- The entries in bytes, if the bytes are entries (own).
use Rattle.std.specs.Prelude.{◌≡◌, ℕ, zero, suc, List, [], ◌∷◌, length, take, drop, ◌==◌, if◌then◌else◌, slice_index}
use Rattle.std.specs.List.{flat_map, AllByRecursion}
use Rattle.git_tree.specs.declared.mode.Mode.{Mode}
use Rattle.git_tree.specs.declared.mode.Mode.TheVariants.{Tree, File, Executable, Link, Gitlink}
use Rattle.git_tree.specs.Entry.{Entry, IsEntry, spelled}

-- the bytes before the first occurrence of the byte, and those after it
abbrev pub before_byte : ℕ → List ℕ → List ℕ
before_byte byte [] = []
before_byte byte (b ∷ bytes) = if b == byte then [] else b ∷ before_byte byte bytes

abbrev pub behind_byte : ℕ → List ℕ → List ℕ
behind_byte byte [] = []
behind_byte byte (b ∷ bytes) = if b == byte then bytes else behind_byte byte bytes

-- the mode that digits spell, found by the digits in which modes differ
abbrev pub mode_of : List ℕ → Mode
mode_of word =
    if slice_index word 0 == 52 then Tree else
    if slice_index word 1 == 50 then Link else
    if slice_index word 1 == 54 then Gitlink else
    if slice_index word 3 == 54 then File else Executable

-- the entry at the start of bytes, and the bytes after it
abbrev pub first_entry : List ℕ → Entry
first_entry bytes = record {
  mode = mode_of (before_byte 32 bytes);
  file_name = before_byte 0 (behind_byte 32 bytes);
  name = take 32 (behind_byte 0 (behind_byte 32 bytes));
}

abbrev pub after_first : List ℕ → List ℕ
after_first bytes = drop 32 (behind_byte 0 (behind_byte 32 bytes))

-- the first entries of bytes, at most this many
unfoldable pub first_entries : ℕ → List ℕ → List Entry
first_entries zero bytes = []
first_entries (suc n) [] = []
first_entries (suc n) (b ∷ bytes) = first_entry (b ∷ bytes) ∷ first_entries n (after_first (b ∷ bytes))

-- the entries in bytes
unfoldable pub entries_in : List ℕ → List Entry
entries_in bytes = first_entries (length bytes) bytes

-- the bytes are valid entries, spelled one after another
pub record IsRow (bytes : List ℕ) : Type 0 where
  pub each : AllByRecursion IsEntry (entries_in bytes)
  pub spelling : bytes ≡ flat_map spelled (entries_in bytes)
