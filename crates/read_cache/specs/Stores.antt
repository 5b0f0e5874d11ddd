-- A store, whatever keeps its files: what it holds, whether it is honest, how often it failed, and what may be undone (own).
use Rattle.std.specs.Prelude.{◌≡◌, ℕ, Bool, Result, Ok, Err, refl}
use Rattle.std.specs.Coded.{Coded, code_by, coded×, coded_bool, coded_list, coded_ℕ}
use Rattle.std.specs.FinMap as map
use Rattle.git_name.specs.Count.{Rises}
use Rattle.loose_store.specs.Durability.{Durability, durability_code}
use Rattle.loose_store.specs.Files.{Files}
use Rattle.loose_store.specs.declared.checked.StoreFault.{StoreFault}
use Rattle.loose_store.specs.declared.checked.StoreFault.TheVariants.{Device, Damaged, Memory}

pub record StoreState : Type 0 where
  pub contents : Files
  pub honest : Bool
  pub failures : ℕ
  pub durability : Durability

-- it has a code, so that it can be a model's value
abbrev pub store_code : Coded StoreState
store_code =
    code_by (Files × (Bool × (ℕ × Durability)))
    (coded× (map.code (coded_list coded_ℕ) (coded_list coded_ℕ)) (coded× coded_bool (coded× coded_ℕ durability_code)))
    (λ s. (s.contents, (s.honest, (s.failures, s.durability))))
    (λ p. record { contents = p.0; honest = p.1.0; failures = p.1.1.0; durability = p.1.1.1 }) (λ _. refl)

-- the same, but for what may be undone
abbrev pub with_durability : Durability → StoreState → StoreState
with_durability durability store = record { contents = store.contents; honest = store.honest; failures = store.failures; durability = durability }

-- a fault of the device is counted, and nothing else is
abbrev pub CountsCachedRead : {A : Type 0} → ℕ → ℕ → Result A StoreFault → Type 0
CountsCachedRead before now (Ok answer) = now ≡ before
CountsCachedRead before now (Err Device) = Rises before now
CountsCachedRead before now (Err Damaged) = now ≡ before
CountsCachedRead before now (Err Memory) = now ≡ before
