-- What is reachable from one side but not from the other (gitrevisions(7), "Specifying ranges").
use Rattle.std.specs.Prelude.{ℕ, List}
use Rattle.std.specs.FinMap.{FinMap, retain_keys}
use Rattle.git_name.specs.Name.{name_cmp}
use Rattle.fork_reach.specs.Reach.{is_between}

-- the objects that are reachable from the wanted names but not from the excluded ones
abbrev pub beyond : {X : Type 0} → (List ℕ → List (List ℕ)) → FinMap name_cmp X → List (List ℕ) → List (List ℕ) → FinMap name_cmp X
beyond next objects wanted excluded = retain_keys objects (is_between next objects wanted excluded)
