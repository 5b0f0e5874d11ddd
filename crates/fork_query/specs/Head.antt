-- What `head` returns (own): the branch that HEAD names, SP and the object it points at if the branch exists, LF.
use Rattle.std.specs.Prelude.{ℕ, List, ◌++◌, Option, None, Some, codes}
use Rattle.std.specs.FinMap.{get}
use Rattle.hex.specs.Hex.{encode_lower}
use Rattle.git_reftx.specs.Repository.{Repository}

-- a branch, and the object that it points at, if it exists
abbrev pub head_line : List ℕ → Option (List ℕ) → List ℕ
head_line branch (Some target) = branch ++ codes " " ++ encode_lower target ++ codes "\n"
head_line branch None = branch ++ codes "\n"

unfoldable pub head_told : Repository → List ℕ
head_told repository = head_line repository.head (get repository.references repository.head)
