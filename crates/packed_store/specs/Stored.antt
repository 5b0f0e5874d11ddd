-- Files that are in whole records of segments (own).
use Rattle.std.specs.Prelude.{◌≡◌, ◌+◌, ℕ, List, ◌++◌, Some, length}
use Rattle.std.specs.FinMap.{get}
use Rattle.devices.specs.Device.{Files}
use Rattle.packed_store.specs.Entry.{Entry, File, IsEntry, Object, Removal, Settled, Short, Undone, before_own, spelled}
use Rattle.packed_store.specs.Place.{Index, IsThere, bytes_at, segment_of}
use Rattle.packed_store.specs.declared.place.Place.{Place}
use Rattle.packed_store.specs.Survey.{Shown}

-- a record has these bytes as the file of a name
abbrev pub HasFile : Entry → List ℕ → List ℕ → Type 0
HasFile (Object named own) name bytes = (named ≡ name) × (own ≡ bytes)
HasFile (Short named own) name bytes = (named ≡ name) × (own ≡ bytes)
HasFile (File named own) name bytes = (named ≡ name) × (own ≡ bytes)
HasFile (Removal named) name bytes = ⊥
HasFile Settled name bytes = ⊥
HasFile Undone name bytes = ⊥

-- a segment has a whole record with these bytes as the file of a name
pub record IsWritten (files : Files) (name bytes : List ℕ) : Type 0 where
  pub segment : ℕ
  pub front : List ℕ
  pub entry : Entry
  pub rest : List ℕ
  pub whole : segment_of files segment ≡ front ++ (spelled entry ++ rest)
  pub right : IsEntry entry
  pub file : HasFile entry name bytes

-- around a place is a whole record with the file of a name, and the bytes of the place are that file
pub record IsWrittenAt (files : Files) (name : List ℕ) (place : Place) : Type 0 where
  pub there : IsThere files place
  pub front : List ℕ
  pub entry : Entry
  pub rest : List ℕ
  pub whole : segment_of files place.segment ≡ front ++ (spelled entry ++ rest)
  pub behind : length front + before_own entry ≡ place.at
  pub right : IsEntry entry
  pub file : HasFile entry name (bytes_at files place)

-- at the place of each name is a whole record of it
abbrev pub AreWritten : Files → Index → Type 0
AreWritten files index = (name : List ℕ) (place : Place) → get index name ≡ Some place → IsWrittenAt files name place

-- so are live and pending files
pub record AllWritten (files : Files) (shown : Shown) : Type 0 where
  pub live : AreWritten files shown.live
  pub pending : AreWritten files shown.pending

-- a segment has these bytes from a byte on
pub record IsPart (files : Files) (segment at : ℕ) (bytes : List ℕ) : Type 0 where
  pub front : List ℕ
  pub rest : List ℕ
  pub whole : segment_of files segment ≡ front ++ (bytes ++ rest)
  pub behind : length front ≡ at
