-- The known links of numbers (own).
use Rattle.std.specs.Prelude.{◌≡◌, ◌⊎◌, ℕ, Bool, true, List, [], Option, None, Some, get_or, is_some, unwrap_or}

-- for each number its links, if they are known
abbrev pub Known : Type 0
Known = List (Option (List ℕ))

-- the links of a number, if they are known
abbrev pub known : Known → ℕ → Option (List ℕ)
known links n = get_or links n None

-- the links of a number; none if they are not known
abbrev pub linked : Known → ℕ → List ℕ
linked links n = unwrap_or (known links n) []

-- a number rests, or its links are known
abbrev pub RestsOrIsKnown : Known → (ℕ → Bool) → ℕ → Type 0
RestsOrIsKnown links rests n = (rests n ≡ true) ⊎ (is_some (known links n) ≡ true)

-- these numbers are known to link to nothing
abbrev pub LeadNowhere : Known → (ℕ → Bool) → Type 0
LeadNowhere links among = (n : ℕ) → among n ≡ true → known links n ≡ Some []
