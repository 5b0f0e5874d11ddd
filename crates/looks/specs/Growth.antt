-- Names that are added to a catalogue (own).
use Rattle.std.specs.Prelude.{◌≡◌, ◌∷◌, ◌++◌, [], ⊤, ℕ, List, Contains, false}
use Rattle.std.specs.List.{AllByRecursion}
use Rattle.git_name.specs.Same.{is_listed}
use Rattle.looks.specs.Places.{Places}

-- each added name differs from all before it
abbrev pub AreNew : List (List ℕ) → List (List ℕ) → Type 0
AreNew names [] = ⊤
AreNew names (name ∷ added) = (is_listed names name ≡ false) × AreNew (names ++ name ∷ []) added

-- the place stays, and the appended names are new and among these
pub record GrowsAmong (names : List (List ℕ)) (old new : Places) : Type 0 where
  pub place : new.place ≡ old.place
  pub added : List (List ℕ)
  pub parts : new.names ≡ old.names ++ added
  pub fresh : AreNew old.names added
  pub among : AllByRecursion (Contains names) added
