-- Slices and whole rounds of looks (own).
use Rattle.std.specs.Prelude.{Bool, ◌≡◌, ◌≤◌, ◌<◌, ℕ, List, [], ◌∷◌, length}
use Rattle.looks.specs.Places.{Places, at_start}
use Rattle.looks.specs.Looks.{Looks, Walks}

-- a slice: at most this many looks, and fewer only if nothing is left to look at
pub record Sweeps (held : List ℕ → Bool) (most : ℕ) (old new : Places) : Type 0 where
  pub count : ℕ
  pub few : count ≤ most
  pub looks : Looks held count old new
  pub fewer : count < most → new.names ≡ []

-- slices, one after another
abbrev pub SweepsAll : (List ℕ → Bool) → List ℕ → Places → Places → Type 0
SweepsAll held [] old new = new ≡ old
SweepsAll held (most ∷ slices) old new = (mid : Places) × Sweeps held most old mid × SweepsAll held slices mid new

-- one whole round, from the beginning until the end is reached
pub record Collects (held : List ℕ → Bool) (old new : Places) : Type 0 where
  pub count : ℕ
  pub end : Places
  pub walks : Walks held count (at_start old) end
  pub ended : end.place ≡ length end.names
  pub is : new ≡ at_start end
