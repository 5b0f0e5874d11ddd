-- What an append leaves at the end of a segment (own).
use Rattle.std.specs.Prelude.{◌≡◌, ◌++◌, ℕ, List, Option, Some, None}
use Rattle.devices.specs.Device.{Files}
use Rattle.packed_store.specs.Entry.{Entry, IsEntry, Removal, before_own, spelled}
use Rattle.packed_store.specs.Place.{EndsAround, EndsWith, segment_of}
use Rattle.packed_store.specs.Stored.{HasFile}
use Rattle.packed_store.specs.declared.place.Place.{Place}

-- a segment ends with this record
pub record IsAppended (files : Files) (entry : Entry) : Type 0 where
  pub segment : ℕ
  pub at : ℕ
  pub ends : EndsWith files segment at (spelled entry)

-- a segment has this record
pub record HasRecord (files : Files) (entry : Entry) : Type 0 where
  pub segment : ℕ
  pub front : List ℕ
  pub rest : List ℕ
  pub whole : segment_of files segment ≡ front ++ (spelled entry ++ rest)

-- the segment of a place ends with a record whose bytes are at the place, and are the file of a name
pub record IsPlaced (files : Files) (name bytes : List ℕ) (place : Place) : Type 0 where
  pub entry : Entry
  pub right : IsEntry entry
  pub file : HasFile entry name bytes
  pub ends : EndsAround files place (before_own entry) (spelled entry)

-- if a name has a place, a segment ends with its removal
abbrev pub IsRemoved : Files → List ℕ → Option Place → Type 0
IsRemoved files name (Some place) = IsAppended files (Removal name)
IsRemoved files name None = Unit {0}
