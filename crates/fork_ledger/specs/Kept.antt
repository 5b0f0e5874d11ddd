-- What is true of a vault's store, catalogue and ledgers (own).
use Rattle.std.specs.Prelude.{◌≡◌, Some, true, List, ℕ}
use Rattle.std.specs.FinMap.{contains_key, get}
use Rattle.git_name.specs.Same.{is_listed}
use Rattle.looks.specs.Places.{Places}
use Rattle.object_table.specs.Holders.{is_held_in}
use Rattle.object_table.specs.Ledgers.{AllWords}
use Rattle.loose_store.specs.Files.{Files}
use Rattle.fork_ledger.specs.Shown.{tenants_of}
use Rattle.fork_ledger.specs.Store.{IsStored}

-- the name of each file is in the catalogue
abbrev pub Covers : Files → Places → Type 0
Covers files places = (name : List ℕ) → contains_key files name ≡ true → is_listed places.names name ≡ true

-- each catalogued name has a file
abbrev pub IsExact : Files → Places → Type 0
IsExact files places = (name : List ℕ) → is_listed places.names name ≡ true → contains_key files name ≡ true

-- each held name has a file
abbrev pub HasFiles : AllWords → Files → Type 0
HasFiles ledgers files = (name : List ℕ) → is_held_in ledgers name ≡ true → contains_key files name ≡ true

-- the files of held names are as they were
abbrev pub KeepsHeld : AllWords → Files → Files → Type 0
KeepsHeld ledgers old new = (name : List ℕ) → is_held_in ledgers name ≡ true → get new name ≡ get old name

-- no file was added or changed
abbrev pub TakesAway : Files → Files → Type 0
TakesAway old new = (name file : List ℕ) → get new name ≡ Some file → get old name ≡ Some file

-- over an honest store, each held object has a whole file, and the catalogue has the name of each file
pub record IsKept (ledgers : AllWords) (files : Files) (places : Places) : Type 0 where
  pub stored : IsStored (tenants_of files ledgers) files
  pub covers : Covers files places
