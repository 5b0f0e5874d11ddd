-- What is wrong with the files of held names (own).
use Rattle.std.specs.Prelude.{◌≡◌, Bool, true, IsTrue, ℕ, List, Contains, None}
use Rattle.std.specs.FinMap.{FinMap, get}
use Rattle.std.specs.List.Sorted.{IsStrictlySortedBy}
use Rattle.std.specs.Map.{keys_of}
use Rattle.std.specs.Coded.{Coded, coded_list, coded_ℕ}
use Rattle.std.specs.FinMap as map
use Rattle.git_name.specs.Name.{name_cmp}
use Rattle.fork_request.specs.Harms.{Harmed}
use Rattle.fork_request.specs.contracts.harm.Harm as harm
use Rattle.fork_request.specs.declared.harm.Harm.{Harm}
use Rattle.fork_request.specs.declared.harm.Harm.TheVariants.{Lost, Damaged}
use Rattle.loose_store.specs.Files.{Files}
use Rattle.fork_ledger.specs.Store.{IsDamaged}
use Rattle.fork_ledger.specs.Taken.{is_taken}
use Rattle.fork_ledger.specs.Tenants.{VaultState}

-- the file of a name is lost if there is none, and damaged if it is whole for no object
abbrev pub IsHarmed : Files → List ℕ → Harm → Type 0
IsHarmed files name Lost = get files name ≡ None
IsHarmed files name Damaged = IsDamaged files name

-- exactly the held names whose files are harmed, in ascending order, each with its harm
pub record AreHarms (harms : Harmed) (files : Files) (held : List ℕ → Bool) : Type 0 where
  pub ascending : IsStrictlySortedBy name_cmp (keys_of harms)
  pub told : (name : List ℕ) (harm : Harm) → Contains harms (name, harm) → (held name ≡ true) × IsHarmed files name harm
  pub all : (name : List ℕ) (harm : Harm) → held name ≡ true → IsHarmed files name harm → Contains harms (name, harm)

-- the harms of the files as the store returned them: over an honest store, of the files that it has
pub record AreFound (harms : Harmed) (vault : VaultState) : Type 0 where
  pub files : Files
  pub exact : IsTrue vault.honest → files ≡ vault.files
  pub are : AreHarms harms files (is_taken vault.tenants)

-- harms by name
abbrev pub HarmMap : Type 0
HarmMap = FinMap name_cmp Harm

-- they have a code, so that they can be a model's value
abbrev pub harms_code : Coded HarmMap
harms_code = map.code (coded_list coded_ℕ) harm.the_row.coded
