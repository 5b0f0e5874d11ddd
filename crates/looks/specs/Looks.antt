-- A look at one place of a catalogue, and looks one after another (own).
use Rattle.std.specs.Prelude.{Bool, true, false, ◌≡◌, ◌<◌, ◌+◌, ℕ, zero, suc, List, ◌∷◌, ◌++◌, length, IsPermutation}
use Rattle.looks.specs.Places.{Places, looked_at}

-- one look, at a list that is not empty
pub data Look (held : List ℕ → Bool) (old new : Places) : Type 0 where
  -- a held name stays, and the place moves on by one
  Stays : (front back : List (List ℕ)) (name : List ℕ) → old.names ≡ front ++ name ∷ back → length front ≡ looked_at old → held name ≡ true
      → new.names ≡ old.names → new.place ≡ looked_at old + 1 → Look held old new
  -- any other name leaves. The names before it stay as they are, those after it stay in any order, and the place stays
  Leaves : (front back left : List (List ℕ)) (name : List ℕ) → old.names ≡ front ++ name ∷ back → length front ≡ looked_at old → held name ≡ false
      → new.names ≡ front ++ left → IsPermutation back left → new.place ≡ looked_at old → Look held old new

-- this many looks, one after another
abbrev pub Looks : (List ℕ → Bool) → ℕ → Places → Places → Type 0
Looks held zero old new = new ≡ old
Looks held (suc n) old new = (mid : Places) × Looks held n old mid × Look held mid new

-- this many looks, none of them at the end
abbrev pub Walks : (List ℕ → Bool) → ℕ → Places → Places → Type 0
Walks held zero old new = new ≡ old
Walks held (suc n) old new = (mid : Places) × Walks held n old mid × (mid.place < length mid.names) × Look held mid new
