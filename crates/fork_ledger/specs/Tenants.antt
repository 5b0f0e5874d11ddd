-- The private maps of all tenants (own): a tenant's calls change only its own.
use Rattle.std.specs.Prelude.{ℕ, Bool, List, if◌then◌else◌, refl}
use Rattle.std.specs.Option.{unwrap_or}
use Rattle.std.specs.Coded.{Coded, code_by, coded×, coded_bool, coded_ℕ, coded_list}
use Rattle.std.specs.FinMap.{FinMap, get, insert, contains_key, code}
use Rattle.git_name.specs.Maps.{map_values}
use Rattle.git_name.specs.Name.{name_cmp}
use Rattle.fork_reach.specs.Objects.{Measures}
use Rattle.looks.specs.Places.{Places, places_code}
use Rattle.loose_store.specs.Durability.{Durability, durability_code}
use Rattle.loose_store.specs.Files.{Files}
use Rattle.fork_ledger.specs.Private.{Private, nothing, private_code, private_measures}

-- each tenant's private maps, under its name
abbrev pub Tenants : Type 0
Tenants = FinMap name_cmp Private

-- what a vault shows: private maps; the store's files, its honesty, its count of failures, and what may be undone of it; the
-- catalogue's places
pub record VaultState : Type 0 where
  pub tenants : Tenants
  pub files : Files
  pub honest : Bool
  pub failures : ℕ
  pub durability : Durability
  pub places : Places

-- a tenant's private maps; an unknown tenant has no objects
abbrev pub private_of : Tenants → List ℕ → Private
private_of tenants tenant = unwrap_or (get tenants tenant) nothing

-- with a tenant added that has no objects, unless it is there already
abbrev pub with_tenant : Tenants → List ℕ → Tenants
with_tenant tenants tenant = if contains_key tenants tenant then tenants else insert tenants tenant nothing

-- with one tenant's private maps changed; for an unknown tenant nothing changes
abbrev pub at_tenant : Tenants → List ℕ → (Private → Private) → Tenants
at_tenant tenants tenant change = if contains_key tenants tenant then insert tenants tenant (change (private_of tenants tenant)) else tenants

-- what no store can change about private maps: who has one, and the names, kinds and lengths in each
abbrev pub shape_of : Tenants → FinMap name_cmp (Measures × Measures)
shape_of tenants = map_values private_measures tenants

-- what a vault shows has a code, so that it can be a model's value
abbrev pub vault_code : Coded VaultState
vault_code =
    code_by (Tenants × (Files × (Bool × (ℕ × (Durability × Places)))))
    (coded× (code (coded_list coded_ℕ) private_code) (coded× (code (coded_list coded_ℕ) (coded_list coded_ℕ)) (coded× coded_bool (coded× coded_ℕ (coded× durability_code places_code)))))
    (λ state. (state.tenants, (state.files, (state.honest, (state.failures, (state.durability, state.places))))))
    (λ p. record { tenants = p.0; files = p.1.0; honest = p.1.1.0; failures = p.1.1.1.0; durability = p.1.1.1.1.0; places = p.1.1.1.1.1 }) (λ _. refl)

-- the same vault, but for what may be undone of its store
abbrev pub with_durability : Durability → VaultState → VaultState
with_durability durability vault = record {
  tenants = vault.tenants;
  files = vault.files;
  honest = vault.honest;
  failures = vault.failures;
  durability = durability;
  places = vault.places;
}
