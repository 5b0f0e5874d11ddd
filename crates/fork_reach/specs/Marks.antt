-- Flags at the places of names, one for each (own).
use Rattle.std.specs.Prelude.{◌≡◌, ℕ, ◌<◌, Bool, false, List, [], map, length, All, Option, None, Some}
use Rattle.std.specs.List.{position, slice_index_or}
use Rattle.git_name.specs.Same.{same_name}
use Rattle.fork_reach.specs.History.{Note, notes_under}
use Rattle.fork_reach.specs.Seeing.{Sees}

-- the flag at a place, if there is one
abbrev pub flag_at : List Bool → Option ℕ → Bool
flag_at marks None = false
flag_at marks (Some at) = slice_index_or marks at false

-- whether the flag of a name is set; a name without a place has no flag
abbrev pub is_marked : List (List ℕ) → List Bool → List ℕ → Bool
is_marked names marks name = flag_at marks (position (same_name name) names)

-- the name at a place
abbrev pub listed_name : List (List ℕ) → ℕ → List ℕ
listed_name names at = slice_index_or names at []

-- each name has a note and a flag, and only places of names wait
pub record Fits (names : List (List ℕ)) (notes : List Note) (marks : List Bool) (waiting : List ℕ) : Type 0 where
  pub noted : length notes ≡ length names
  pub flagged : length marks ≡ length names
  pub placed : All (λ at. at < length names) waiting

-- more names were visited: the flags of those with a place are set, and the places whose flags are new wait
pub record SeesPlaces (names : List (List ℕ)) (notes : List Note) (more : List (List ℕ)) (marks : List Bool) (waiting : List ℕ) (now_marks : List Bool) (now_waiting : List ℕ) : Type 0 where
  pub sees : Sees (notes_under names notes) (λ _. false) more (is_marked names marks) (map (listed_name names) waiting) (is_marked names now_marks) (map (listed_name names) now_waiting)
  pub fits : Fits names notes now_marks now_waiting
