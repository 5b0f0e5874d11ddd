-- The records of a segment (own). A record is its kind, the length of its bytes, a name, the bytes, and a sum unless the name is
-- one.
use Rattle.std.specs.Prelude.{◌≡◌, ◌+◌, ◌<◌, ◌≤◌, ℕ, List, [], ◌∷◌, ◌++◌, cond, length, nat_eq, nat_lt, replicate}
use Rattle.std.specs.Int.{to_be_bytes, w16, w32}
use Rattle.sha2.specs.Sha256.{sha256}
use Rattle.git_name.specs.Name.{IsName}
use Rattle.packed_store.specs.declared.place.TheConstants.{MAX_FILE, SHORT, SHORT_TITLE, TITLE}

-- what a record says: an object's file, in one of two forms, a file of any bytes, the removal of a name, that removals so far
-- are final, or that those which are not are undone
pub data Entry : Type 0 where
  Object : (name bytes : List ℕ) → Entry
  Short : (name bytes : List ℕ) → Entry
  File : (name bytes : List ℕ) → Entry
  Removal : (name : List ℕ) → Entry
  Settled : Entry
  Undone : Entry

-- a kind and a length: one byte and four, the highest first, or both together in two bytes if the kind is 128
abbrev pub kind_and_length : ℕ → ℕ → List ℕ
kind_and_length kind len = cond (nat_eq kind 128) (to_be_bytes w16 (SHORT + len)) (kind ∷ to_be_bytes w32 len)

-- how many bytes they have, with the name after them
abbrev pub title_size : ℕ → ℕ
title_size kind = cond (nat_eq kind 128) SHORT_TITLE TITLE

-- the kind, the length of the bytes, a name, and the bytes
abbrev pub titled : ℕ → List ℕ → List ℕ → List ℕ
titled kind name bytes = kind_and_length kind (length bytes) ++ name ++ bytes

-- bytes, and their sum
abbrev pub summed : List ℕ → List ℕ
summed bytes = bytes ++ sha256 bytes

-- the name of a record that names nothing
abbrev pub no_name : List ℕ
no_name = replicate 32 0

-- the bytes of a record
abbrev pub spelled : Entry → List ℕ
spelled (Object name bytes) = titled 111 name bytes
spelled (Short name bytes) = titled 128 name bytes
spelled (File name bytes) = summed (titled 102 name bytes)
spelled (Removal name) = summed (titled 114 name [])
spelled Settled = summed (titled 115 no_name [])
spelled Undone = summed (titled 117 no_name [])

-- a record has a name, no more bytes than a file may have, and an object's name is the hash of its file
abbrev pub IsEntry : Entry → Type 0
IsEntry (Object name bytes) = (length bytes ≤ MAX_FILE) × (name ≡ sha256 bytes)
IsEntry (Short name bytes) = (length bytes < SHORT) × (name ≡ sha256 bytes)
IsEntry (File name bytes) = (length bytes ≤ MAX_FILE) × IsName name
IsEntry (Removal name) = IsName name
IsEntry Settled = Unit {0}
IsEntry Undone = Unit {0}

-- how many bytes of a record come before its own
abbrev pub before_own : Entry → ℕ
before_own (Object name bytes) = TITLE
before_own (Short name bytes) = SHORT_TITLE
before_own (File name bytes) = TITLE
before_own (Removal name) = TITLE
before_own Settled = TITLE
before_own Undone = TITLE

-- the kind of an object's record: the short form, if that holds its length
abbrev pub object_kind : ℕ → ℕ
object_kind len = cond (nat_lt len SHORT) 128 111

-- and the record
abbrev pub object_entry : List ℕ → List ℕ → Entry
object_entry name bytes = cond (nat_lt (length bytes) SHORT) (Short name bytes) (Object name bytes)
