-- What is left when a tenant keeps only what some names reach (own).
use Rattle.std.specs.Prelude.{◌≡◌, ℕ, Bool, IsTrue, true, List, Contains}
use Rattle.std.specs.FinMap.{contains_key}
use Rattle.fork_reach.specs.Reach.{is_reached, linked_names}
use Rattle.fork_ledger.specs.Private.{with_kept}
use Rattle.fork_ledger.specs.Tenants.{Tenants, at_tenant, private_of}

-- one tenant sees no more than some of what it saw: those roots that it saw, and over an honest store exactly what they reach
pub record Retains (honest : Bool) (tenant : List ℕ) (roots : List (List ℕ)) (old new : Tenants) : Type 0 where
  pub reached : List ℕ → Bool
  pub tenants : new ≡ at_tenant old tenant (with_kept reached)
  pub rooted : (name : List ℕ) → Contains roots name → contains_key (private_of old tenant).visible name ≡ true → reached name ≡ true
  pub all : IsTrue honest → (name : List ℕ) → reached name ≡ is_reached (linked_names (private_of old tenant).visible) (private_of old tenant).visible roots name
