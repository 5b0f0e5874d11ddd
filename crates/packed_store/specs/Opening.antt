-- What an opening shows (own): what the records of all segments leave, in the order in which a listing names these.
use Rattle.std.specs.Prelude.{◌≡◌, ◌≤◌, false, ℕ, List, [], ◌∷◌, codes}
use Rattle.std.specs.FinMap.{keys}
use Rattle.devices.specs.Device.{Files, names_in_folder}
use Rattle.git_name.specs.Maps.{map_values}
use Rattle.loose_store.specs.Files as loose
use Rattle.packed_store.specs.Place.{IsNumbered, bytes_at, segment_of}
use Rattle.packed_store.specs.Survey.{Shown, nothing, opened}
use Rattle.packed_store.specs.Taking.{ReadsAll, Seen, seen_as}

-- what one name of a listing adds: nothing, or what the records of the segment leave that is called so
pub data Adds (files : Files) (called : List ℕ) (old new : Shown) : Type 0 where
  Nothing : ((segment : ℕ) → IsNumbered called segment → ⊥) → new ≡ old → Adds files called old new
  Records : (segment : ℕ) (seen : Seen) → IsNumbered called segment → ReadsAll (segment_of files segment) segment (seen_as old false) seen → new ≡ seen.shown → Adds files called old new

-- what all names add, one after another
abbrev pub Surveys : Files → List (List ℕ) → Shown → Shown → Type 0
Surveys files [] old new = new ≡ old
Surveys files (called ∷ names) old new = (mid : Shown) × Adds files called old mid × Surveys files names mid new

-- what is called in the folder of the segments, ascending
abbrev pub listed : Files → List (List ℕ)
listed files = names_in_folder (codes "segments/") (keys files)

-- the numbers that these names write are from the first to the last
abbrev pub AreNumbersWithin : List (List ℕ) → ℕ → ℕ → Type 0
AreNumbersWithin [] first last = Unit {0}
AreNumbersWithin (called ∷ names) first last = ((segment : ℕ) → IsNumbered called segment → (first ≤ segment) × (segment ≤ last)) × AreNumbersWithin names first last

-- a store shows the files that are live or pending at the end
pub record Opens (files : Files) (contents : loose.Files) : Type 0 where
  pub shown : Shown
  pub surveys : Surveys files (listed files) nothing shown
  pub shows : contents ≡ map_values (bytes_at files) (opened shown)
