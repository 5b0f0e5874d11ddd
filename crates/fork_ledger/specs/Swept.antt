-- What sweeps in slices leave, with no other call between them (own).
use Rattle.std.specs.Prelude.{◌≡◌, ℕ, List, [], ◌∷◌, true}
use Rattle.std.specs.FinMap.{contains_key}
use Rattle.git_name.specs.Same.{is_listed}
use Rattle.looks.specs.Slices.{Sweeps}
use Rattle.fork_ledger.specs.Taken.{is_taken}
use Rattle.fork_ledger.specs.Tenants.{VaultState}

-- each held name has a file, and the name of each file is in the catalogue
pub record IsAccounted (state : VaultState) : Type 0 where
  pub stored : (name : List ℕ) → is_taken state.tenants name ≡ true → contains_key state.files name ≡ true
  pub catalogued : (name : List ℕ) → contains_key state.files name ≡ true → is_listed state.places.names name ≡ true

-- one slice without a fault
pub record IsSwept (most : ℕ) (old new : VaultState) : Type 0 where
  pub sweeps : Sweeps (is_taken old.tenants) most old.places new.places
  pub kept : new.tenants ≡ old.tenants

-- slices, one after another
abbrev pub AreSwept : List ℕ → VaultState → VaultState → Type 0
AreSwept [] old new = new ≡ old
AreSwept (most ∷ slices) old new = (mid : VaultState) × IsSwept most old mid × AreSwept slices mid new
