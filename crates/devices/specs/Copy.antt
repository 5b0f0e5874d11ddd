-- Copies of files (own).
use Rattle.std.specs.Prelude.{◌≡◌, ℕ, cond, List, Option, None}
use Rattle.std.specs.FinMap.{get}
use Rattle.std.specs.List.{list_any}
use Rattle.std.specs.Ordering.{eq_by_cmp}
use Rattle.git_name.specs.Name.{name_cmp}
use Rattle.devices.specs.Device.{Files}

-- what a function finds at these paths, and nothing else
abbrev pub AreFound : List (List ℕ) → (List ℕ → Option (List ℕ)) → Files → Type 0
AreFound paths found copy = (q : List ℕ) → get copy q ≡ cond (list_any (eq_by_cmp name_cmp q) paths) (found q) None

-- what the files have at these paths, and nothing else
abbrev pub IsCopy : List (List ℕ) → Files → Files → Type 0
IsCopy paths files copy = AreFound paths (get files) copy
