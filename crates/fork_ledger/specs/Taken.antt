-- The names that tenants hold (own): a tenant holds an object that it sees, has staged, or both.
use Rattle.std.specs.Prelude.{Bool, ℕ, List, count_by, nat_lt}
use Rattle.std.specs.FinMap.{values}
use Rattle.fork_ledger.specs.Private.{is_held_by}
use Rattle.fork_ledger.specs.Tenants.{Tenants}

-- how many tenants hold this name
unfoldable pub holders : Tenants → List ℕ → ℕ
holders tenants name = count_by (λ own. is_held_by own name) (values tenants)

-- whether any tenant holds this name
abbrev pub is_taken : Tenants → List ℕ → Bool
is_taken tenants name = nat_lt 0 (holders tenants name)
