-- What a source of objects finds (own): objects by name, as a finite map.
use Rattle.std.specs.Prelude.{ℕ, Bool, List, Option, option_map}
use Rattle.std.specs.FinMap.{FinMap, get}
use Rattle.git_name.specs.declared.kind.Kind.{Kind}
use Rattle.git_name.specs.Name.{name_cmp}
use Rattle.git_name.specs.Object.{Object}

-- objects by name
abbrev pub Objects : Type 0
Objects = FinMap name_cmp Object

-- the kind of the object of a name
abbrev pub kind_in : Objects → List ℕ → Option Kind
kind_in objects name = option_map (λ object. object.kind) (get objects name)

-- the objects, the store's honesty and count of failures, and what no call changes over any store and an honest one
pub record SourceState (Base Rest : Type 0) : Type 0 where
  pub objects : Objects
  pub honest : Bool
  pub failures : ℕ
  pub base : Base
  pub rest : Rest
