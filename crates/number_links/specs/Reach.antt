-- What a walk over numbers reaches (own): from roots, along links, through numbers that are allowed.
use Rattle.std.specs.Prelude.{◌≡◌, ◌&&◌, ℕ, Bool, true, false, not, List, None, Contains}
use Rattle.number_links.specs.Known.{Known, known}

-- a number is reached: it is allowed, and it is a root or follows from a reached number
pub data IsReached (next : ℕ → List ℕ) (allowed : ℕ → Bool) (roots : List ℕ) : ℕ → Type 0 where
  Root : (n : ℕ) → Contains roots n → allowed n ≡ true → IsReached next allowed roots n
  Next : (from n : ℕ) → IsReached next allowed roots from → Contains (next from) n → allowed n ≡ true → IsReached next allowed roots n

-- the test of what is allowed and not hidden
abbrev pub past : (ℕ → Bool) → (ℕ → Bool) → ℕ → Bool
past allowed hidden n = not (hidden n) && allowed n

-- a number is reached that neither rests nor has known links
abbrev pub ReachesUnknown : (ℕ → List ℕ) → Known → (ℕ → Bool) → (ℕ → Bool) → List ℕ → Type 0
ReachesUnknown next links rests allowed roots = (n : ℕ) × IsReached next allowed roots n × (rests n ≡ false) × (known links n ≡ None)
