-- Counts of 64 bits that saturate, and the fault of a result (own).
use Rattle.std.specs.Prelude.{◌≡◌, ◌⊎◌, ℕ, ◌+◌, Option, None, Some, Result, Ok, Err}

-- the greatest number of 64 bits, 2^64 - 1
abbrev pub greatest_count : ℕ
greatest_count = 18446744073709551615

-- a count rises by one, but stays at the greatest
abbrev pub Rises : ℕ → ℕ → Type 0
Rises before now = (now ≡ before + 1) ⊎ ((before ≡ greatest_count) × (now ≡ before))

-- the fault of a result, if it has one
abbrev pub fault_in : {A F : Type 0} → Result A F → Option F
fault_in (Ok a) = None
fault_in (Err fault) = Some fault
