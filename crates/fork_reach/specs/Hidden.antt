-- Objects, some of which are hidden from a walk (own).
use Rattle.std.specs.Prelude.{ℕ, Bool, not, List}
use Rattle.std.specs.FinMap.{FinMap, retain_keys}
use Rattle.git_name.specs.Name.{name_cmp}

-- the objects whose names are not hidden
abbrev pub without : {X : Type 0} → FinMap name_cmp X → (List ℕ → Bool) → FinMap name_cmp X
without objects is_hidden = retain_keys objects (λ name. not (is_hidden name))
