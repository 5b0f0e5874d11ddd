-- Best common ancestors by numbers (own).
use Rattle.std.specs.Prelude.{◌≢◌, ℕ, Bool, List, [], ◌∷◌, Contains}
use Rattle.number_links.specs.Reach.{IsReached}

-- a number is reached from both
abbrev pub IsCommon : (ℕ → List ℕ) → (ℕ → Bool) → ℕ → ℕ → ℕ → Type 0
IsCommon next allowed a b n = IsReached next allowed (a ∷ []) n × IsReached next allowed (b ∷ []) n

-- it is a common ancestor, and no parent of another common one
pub record IsBest (next : ℕ → List ℕ) (allowed : ℕ → Bool) (a b n : ℕ) : Type 0 where
  pub common : IsCommon next allowed a b n
  pub alone : (other : ℕ) → IsCommon next allowed a b other → other ≢ n → Contains (next other) n → ⊥
