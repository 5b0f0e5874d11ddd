-- Kept sets of all that numbers reach, so that a walk need not find them again (own).
use Rattle.std.specs.Prelude.{◌≡◌, ℕ, Bool, true, List, [], ◌∷◌, Contains, is_some}
use Rattle.number_links.specs.Numbers.{has}
use Rattle.number_links.specs.Known.{Known, known, linked}
use Rattle.number_links.specs.Reach.{IsReached}
use Rattle.number_links.specs.declared.kept.Kept.{Kept}

-- these are exactly the numbers that the roots reach, and the links of each are known
pub record IsAllLedTo (links : Known) (roots : List ℕ) (among : ℕ → Bool) : Type 0 where
  pub rooted : (n : ℕ) → Contains roots n → among n ≡ true
  pub closed : (from n : ℕ) → among from ≡ true → Contains (linked links from) n → among n ≡ true
  pub only : (n : ℕ) → among n ≡ true → IsReached (linked links) (λ _. true) roots n
  pub known : (n : ℕ) → among n ≡ true → is_some (known links n) ≡ true

-- the same for a kept set and its root
abbrev pub IsKept : Known → Kept → Type 0
IsKept links kept = IsAllLedTo links (kept.root ∷ []) (has kept.reached)
