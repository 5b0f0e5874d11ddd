-- Where the bytes of a record are (own): in a segment, from a byte on. The record's title ends there.
use Rattle.std.specs.Prelude.{◌≡◌, ◌≢◌, ◌+◌, ◌-◌, ◌<◌, ◌&&◌, ◌||◌, ◌≤◌, ℕ, Bool, List, ◌++◌, Option, Some, None, codes, cond, decimal, length, nat_le, nat_lt, replicate, take, drop}
use Rattle.std.specs.FinMap.{FinMap, from_entries, get}
use Rattle.std.specs.Int.{to_be_bytes, w16, w32}
use Rattle.std.specs.Str.Parse.{AllDigits, digits_value}
use Rattle.devices.specs.Device.{Files, Past, bytes_or_none, files_of}
use Rattle.git_name.specs.Name.{name_cmp}
use Rattle.git_name.specs.Same.{same_name}
use Rattle.packed_store.specs.declared.place.Place.{Place}
use Rattle.packed_store.specs.declared.place.TheConstants.{LAST_SEGMENT, SHORT}

-- eight decimal digits
abbrev pub eight_digits : ℕ → List ℕ
eight_digits n = replicate (8 - length (decimal n)) 48 ++ decimal n

-- a segment is called by eight digits, which write its number. No number is 0
abbrev pub IsNumbered : List ℕ → ℕ → Type 0
IsNumbered called segment = (length called ≡ 8) × AllDigits 10 called × (digits_value 10 called ≡ segment) × (0 < segment)

-- the path of a segment
abbrev pub segment_path : ℕ → List ℕ
segment_path segment = codes "segments/" ++ eight_digits segment

-- the bytes of a file, and none if it does not exist
abbrev pub bytes_of : Past → List ℕ → List ℕ
bytes_of past path = bytes_or_none (get (files_of past) path)

-- the bytes of a segment
abbrev pub segment_of : Files → ℕ → List ℕ
segment_of files segment = bytes_or_none (get files (segment_path segment))

-- the bytes at a place
abbrev pub bytes_at : Files → Place → List ℕ
bytes_at files place = take place.len (drop place.at (segment_of files place.segment))

-- the segment has so many bytes
abbrev pub IsThere : Files → Place → Type 0
IsThere files place = place.at + place.len ≤ length (segment_of files place.segment)

-- the bytes at this place are there, and are these
pub record Holds (files : Files) (place : Place) (bytes : List ℕ) : Type 0 where
  pub there : IsThere files place
  pub same : bytes_at files place ≡ bytes

-- the segment ends with these bytes, and they begin at this byte
pub record EndsWith (files : Files) (segment at : ℕ) (bytes : List ℕ) : Type 0 where
  pub front : List ℕ
  pub whole : segment_of files segment ≡ front ++ bytes
  pub behind : length front ≡ at

-- the segment of a place ends with these bytes, so many of which come before the place
pub record EndsAround (files : Files) (place : Place) (count : ℕ) (bytes : List ℕ) : Type 0 where
  pub front : List ℕ
  pub whole : segment_of files place.segment ≡ front ++ bytes
  pub behind : length front + count ≡ place.at

-- a segment that exists has one of these numbers, from the first to the last
abbrev pub AreWithin : Files → ℕ → ℕ → Type 0
AreWithin files first last = (segment : ℕ) (bytes : List ℕ) → 0 < segment → segment ≤ LAST_SEGMENT → get files (segment_path segment) ≡ Some bytes → (first ≤ segment) × (segment ≤ last)

-- places by name
abbrev pub Index : Type 0
Index = FinMap name_cmp Place

-- the places of entries
abbrev pub index_of : List (List ℕ × Place) → Index
index_of entries = from_entries entries

-- the last ones of bytes
abbrev pub last_of : ℕ → List ℕ → List ℕ
last_of count bytes = drop (length bytes - count) bytes

-- whether bytes end with a length, in one form, or in the other if it is short, and a name
abbrev pub say_length : ℕ → List ℕ → Bool
say_length len bytes = same_name (last_of 36 bytes) (to_be_bytes w32 len ++ last_of 32 bytes) || (nat_lt len SHORT && same_name (last_of 34 bytes) (to_be_bytes w16 (SHORT + len) ++ last_of 32 bytes))

-- what comes before a place in its segment
abbrev pub before : Files → Place → List ℕ
before files place = take place.at (segment_of files place.segment)

-- whether the segment has so many bytes, and a title that ends at the place says how many
abbrev pub is_recorded : Files → Place → Bool
is_recorded files place = nat_le (place.at + place.len) (length (segment_of files place.segment)) && say_length place.len (before files place)

-- the name in that title
unfoldable pub name_before : Files → Place → Option (List ℕ)
name_before files place = cond (is_recorded files place) (Some (last_of 32 (before files place))) None

-- the bytes of a record of this name are at this place
abbrev pub IsRecorded : Files → List ℕ → Place → Type 0
IsRecorded files name place = name_before files place ≡ Some name

-- at the place of each name are the bytes of a record of this name
abbrev pub AreRecorded : Files → Index → Type 0
AreRecorded files index = (name : List ℕ) (place : Place) → get index name ≡ Some place → IsRecorded files name place

-- the bytes of each file are a front of what they are now
abbrev pub Grows : Files → Files → Type 0
Grows old new = (path : List ℕ) → (more : List ℕ) × (bytes_or_none (get new path) ≡ bytes_or_none (get old path) ++ more)

-- a place is in another segment, and that has eight digits
abbrev pub IsElsewhere : ℕ → Place → Type 0
IsElsewhere segment place = (place.segment ≢ segment) × (place.segment ≤ LAST_SEGMENT)

-- no place is in this segment
abbrev pub HasNoneIn : Index → ℕ → Type 0
HasNoneIn index segment = (name : List ℕ) (place : Place) → get index name ≡ Some place → IsElsewhere segment place

-- the files at all other paths have the bytes that they had
abbrev pub KeepsPaths : List ℕ → Files → Files → Type 0
KeepsPaths path old new = (other : List ℕ) → other ≢ path → bytes_or_none (get new other) ≡ bytes_or_none (get old other)

-- all other segments have the bytes that they had
abbrev pub KeepsOthers : ℕ → Files → Files → Type 0
KeepsOthers segment old new = (other : ℕ) → other ≤ LAST_SEGMENT → other ≢ segment → segment_of new other ≡ segment_of old other
