-- What a store says of its files (own): whether they were synced, and whether the next opening would undo a removal. Each store
-- defines when it says so.
use Rattle.std.specs.Prelude.{◌≡◌, Bool, true, Result, OnOk, refl}
use Rattle.std.specs.Coded.{Coded, code_by, coded×, coded_bool}
use Rattle.loose_store.specs.declared.files.FileFault.{FileFault}

pub record Durability : Type 0 where
  -- all files that were put, or relied on, since the store was opened survive a loss of power
  pub synced : Bool
  -- the next opening may undo a removal. If not, a loss of power still may
  pub removed : Bool

-- it has a code, so that it can be in a model's value
abbrev pub durability_code : Coded Durability
durability_code = code_by (Bool × Bool) (coded× coded_bool coded_bool) (λ d. (d.synced, d.removed)) (λ p. record { synced = p.0; removed = p.1 }) (λ _. refl)

-- a sync does not change what is said of removals, and if it succeeds, the store says that all was synced
pub record IsSync (old new : Durability) (result : Result (Unit {0}) FileFault) : Type 0 where
  pub removed : new.removed ≡ old.removed
  pub synced : OnOk result (new.synced ≡ true)
