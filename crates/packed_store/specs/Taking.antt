-- What one reading takes in of the records of a segment (own), one after another.
use Rattle.std.specs.Prelude.{◌≡◌, ◌+◌, ℕ, Bool, true, List, Option, Some, None, cond, drop, not}
use Rattle.packed_store.specs.Reading.{Begins, Claims, ClaimsNone, HasNoRecord}
use Rattle.packed_store.specs.Survey.{Shown, noted, shown_in, undone}
use Rattle.packed_store.specs.declared.place.Place.{Place}
use Rattle.packed_store.specs.declared.reading.Word.{Word}
use Rattle.packed_store.specs.declared.reading.Word.TheVariants.{Object, File, Removal, Settled, Undone}

-- what the records so far show, and whether one of this segment was damaged
pub record Seen : Type 0 where
  pub shown : Shown
  pub damaged : Bool

abbrev pub seen_as : Shown → Bool → Seen
seen_as shown damaged = record { shown = shown; damaged = damaged }

-- the same by entries
abbrev pub seen_in : List (List ℕ × Place) → List (List ℕ × Place) → Bool → Seen
seen_in live pending damaged = seen_as (shown_in live pending) damaged

-- whether a record counts: after a damaged one only an object does
abbrev pub counts : Bool → Word → Bool
counts damaged Object = true
counts damaged File = not damaged
counts damaged Removal = not damaged
counts damaged Settled = not damaged
counts damaged Undone = not damaged

-- what one more whole record leaves
abbrev pub with_record : Seen → Word → List ℕ → Place → Seen
with_record seen said name place = record seen { shown = cond (counts seen.damaged said) (noted said name place seen.shown) seen.shown }

-- what one more damaged record leaves. Removals that are not final are undone: what was damaged may be what undid them
abbrev pub with_damage : Seen → Seen
with_damage seen = record { shown = undone seen.shown; damaged = true }

-- what is at the front of bytes that are in a segment from a byte on: a whole record, which counts or not; a damaged one, as
-- long as its title says; or neither, and nothing is taken
pub data Takes (bytes : List ℕ) (segment at : ℕ) (old new : Seen) (taken : Option ℕ) : Type 0 where
  Whole : (said : Word) (name : List ℕ) (title len size : ℕ) → Begins bytes said name title len size → taken ≡ Some size
      → new ≡ with_record old said name (record { segment = segment; at = at + title; len = len }) → Takes bytes segment at old new taken
  Damaged : (size : ℕ) → HasNoRecord bytes → Claims bytes size → taken ≡ Some size → new ≡ with_damage old → Takes bytes segment at old new taken
  Ended : HasNoRecord bytes → ClaimsNone bytes → taken ≡ None → new ≡ old → Takes bytes segment at old new taken

-- what is taken of the first bytes, so many of them, one after another
pub data Reads (bytes : List ℕ) (segment from : ℕ) (old : Seen) : Seen → ℕ → Type 0 where
  Begun : Reads bytes segment from old old 0
  Then : (mid new : Seen) (at size : ℕ) → Reads bytes segment from old mid at → Takes (drop at bytes) segment (from + at) mid new (Some size) → Reads bytes segment from old new (at + size)

-- all that is there is taken: behind it is no record, right or damaged
pub record ReadsAll (bytes : List ℕ) (segment : ℕ) (old new : Seen) : Type 0 where
  pub count : ℕ
  pub reads : Reads bytes segment 0 old new count
  pub ends : Takes (drop count bytes) segment count new new None
