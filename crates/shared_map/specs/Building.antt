-- Entries after a change at a key.
use Rattle.std.specs.Prelude.{Bool, true, false, ℕ, List, [], ◌∷◌, ◌++◌, Option, None, Some, take, drop}
use Rattle.std.specs.FinMap.{FinMap, insert, remove}
use Rattle.git_name.specs.Name.{name_cmp}
use Rattle.shared_map.specs.declared.spot.Spot.{Spot}
use Rattle.shared_map.specs.Chunks.{Entry, Entries, kept}

-- the entries before the key, its own, if it has a value now, and those after it
abbrev pub changed : Entries → Spot → List ℕ → Option (List ℕ) → Entries
changed es spot key value = take spot.at es ++ (kept key value ++ drop spot.past es)

-- entries with one more, if it was appended
abbrev pub appended : Bool → Entries → Entry → Entries
appended true es e = es ++ e ∷ []
appended false es e = es

-- a map in which a key has this value, or is absent
abbrev pub set_in : FinMap name_cmp (List ℕ) → List ℕ → Option (List ℕ) → FinMap name_cmp (List ℕ)
set_in m key (Some value) = insert m key value
set_in m key None = remove m key
