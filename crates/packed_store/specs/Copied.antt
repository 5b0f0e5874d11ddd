-- What a copy of a file leaves (own).
use Rattle.std.specs.Prelude.{◌≡◌, ℕ, List, Some}
use Rattle.std.specs.FinMap.{get, insert}
use Rattle.loose_store.specs.Files.{Files}

-- a file of one store is put under its name into another
pub record IsCopied (name : List ℕ) (from old new : Files) : Type 0 where
  pub bytes : List ℕ
  pub there : get from name ≡ Some bytes
  pub put : new ≡ insert old name bytes
