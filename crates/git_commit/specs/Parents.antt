-- Consecutive lines in bytes, and the parents that they are.
use Rattle.std.specs.Prelude.{◌≡◌, ℕ, List, map, drop}
use Rattle.std.specs.List.{flat_map, AllByRecursion}
use Rattle.git_name.specs.Name.{IsName, name_in}
use Rattle.git_name.specs.Text.{ended}
use Rattle.git_header.specs.Row.{lines_in, name_or_none}
use Rattle.git_commit.specs.Commit.{parent_line}

-- the names in lines of parents
unfoldable pub parents_spelled : List ℕ → List (List ℕ)
parents_spelled bytes = map (λ line. name_or_none (name_in (drop 7 line))) (lines_in bytes)

-- the bytes are lines of parents
pub record AreParentLines (bytes : List ℕ) : Type 0 where
  pub each : AllByRecursion IsName (parents_spelled bytes)
  pub spelling : bytes ≡ flat_map ended (map parent_line (parents_spelled bytes))
