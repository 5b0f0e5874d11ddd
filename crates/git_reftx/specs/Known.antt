-- The objects that a transaction may name: their names and kinds.
use Rattle.std.specs.Prelude.{ℕ, List, Option}
use Rattle.git_name.specs.declared.kind.Kind.{Kind}

-- the kind of each known name
abbrev pub Kinds : Type 0
Kinds = List ℕ → Option Kind
