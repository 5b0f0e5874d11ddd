-- A repository: the branch that its HEAD names, which need not exist, and its references (gitglossary(7), HEAD; that it always
-- names a branch is own).
use Rattle.std.specs.Prelude.{◌≡◌, ℕ, Bool, true, ◌&&◌, List, Option, Some, None, is_none, codes, refl, if◌then◌else◌}
use Rattle.std.specs.Coded.{Coded, code_by, coded×}
use Rattle.std.specs.FinMap.{code, empty}
use Rattle.git_name.specs.Text.{bytes_code}
use Rattle.git_refname.specs.Rule.{IsRefName, least_broken_rule}
use Rattle.git_reftx.specs.Sound.{AreSound}
use Rattle.git_reftx.specs.Transaction.{References, is_branch}

-- the valid name of a branch
pub record IsBranch (text : List ℕ) : Type 0 where
  pub name : IsRefName text
  pub branch : is_branch text ≡ true

-- whether a text is the valid name of a branch
abbrev pub is_branch_name : List ℕ → Bool
is_branch_name text = is_none (least_broken_rule text) && is_branch text

-- the branch that a text names, if it is the valid name of one
abbrev pub branch_in : List ℕ → Option (List ℕ)
branch_in text = if is_branch_name text then Some text else None

-- the branch that HEAD of a new repository names
abbrev pub main_branch : List ℕ
main_branch = codes "refs/heads/main"

-- the branch that HEAD names, and the references
pub record Repository : Type 0 where
  pub head : List ℕ
  pub references : References

-- a new repository: HEAD names `refs/heads/main`, and there are no references
abbrev pub new_repository : Repository
new_repository = record { head = main_branch; references = empty }

-- HEAD names a branch, and the references are sound
pub record IsRepository (repository : Repository) : Type 0 where
  pub branch : IsBranch repository.head
  pub sound : AreSound repository.references

abbrev pub repository_code : Coded Repository
repository_code =
    code_by (List ℕ × References) (coded× bytes_code (code bytes_code bytes_code))
    (λ r. (r.head, r.references)) (λ p. record { head = p.0; references = p.1 }) (λ _. refl)
