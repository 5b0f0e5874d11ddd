-- What always holds of the references of a repository.
use Rattle.std.specs.Prelude.{◌≡◌, ◌≤◌, ℕ, List, None, true}
use Rattle.std.specs.FinMap.{contains_key, keys, len}
use Rattle.git_refname.specs.Rule.{IsRefName}
use Rattle.git_reftx.specs.Transaction.{References, least_upper}
use Rattle.git_reftx.specs.declared.transact.TheConstants.{MAX_REFERENCES}

-- each has a valid name
abbrev pub AreRefNames : References → Type 0
AreRefNames references = (name : List ℕ) → contains_key references name ≡ true → IsRefName name

-- each has a valid name, none is above another, and there are at most 4,096
pub record AreSound (references : References) : Type 0 where
  pub named : AreRefNames references
  pub free : least_upper (keys references) ≡ None
  pub few : len references ≤ MAX_REFERENCES
