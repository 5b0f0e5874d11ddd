-- Objects whose bytes are at hand, so that they need not be read (own).
use Rattle.std.specs.Prelude.{◌≡◌, List, Some, Contains}
use Rattle.std.specs.FinMap.{get}
use Rattle.git_name.specs.Object.{Object, object_name}
use Rattle.fork_reach.specs.Source.{Objects}

-- each of them is found under its name
abbrev pub AreThere : Objects → List Object → Type 0
AreThere objects here = (object : Object) → Contains here object → get objects (object_name object) ≡ Some object
