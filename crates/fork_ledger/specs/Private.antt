-- One tenant's private maps (own): the objects that it sees, and those that it has staged. An object may be both.
use Rattle.std.specs.Prelude.{◌≡◌, ℕ, Bool, ◌||◌, List, Option, None, Some, length, option_map, refl, if◌then◌else◌}
use Rattle.std.specs.Option.{unwrap_or}
use Rattle.std.specs.Coded.{Coded, code_by, coded×, coded_ℕ, coded_list}
use Rattle.std.specs.FinMap.{get, empty, insert, contains_key, retain_keys, code}
use Rattle.git_name.specs.declared.kind.Kind.{Kind}
use Rattle.git_name.specs.Maps.{joined}
use Rattle.git_name.specs.Object.{Object, object_name}
use Rattle.git_name.specs.contracts.sealed.Sealed as sealed
use Rattle.fork_reach.specs.Objects.{Measures, measure_of, measures_of}
use Rattle.fork_reach.specs.Source.{Objects}
use Rattle.fork_ledger.specs.declared.held.Held.{Held}

-- what a tenant sees, and what it has staged
pub record Private : Type 0 where
  pub visible : Objects
  pub staged : Objects

-- no objects
abbrev pub nothing : Private
nothing = record { visible = empty; staged = empty }

-- the visible and the staged objects together; if both have a name, the visible one counts
abbrev pub both_of : Private → Objects
both_of own = joined own.visible own.staged

-- the object to stage for this one: the visible one of its name, or else itself
abbrev pub standing : Private → Object → Object
standing own object = unwrap_or (get own.visible (object_name object)) object

-- objects with this one added under this name, unless there is one
abbrev pub with_under : Objects → List ℕ → Object → Objects
with_under objects name object = if contains_key objects name then objects else insert objects name object

-- with an object staged, unless one of its name is staged already
abbrev pub with_staged : Object → Private → Private
with_staged object own = record { visible = own.visible; staged = with_under own.staged (object_name object) (standing own object) }

-- with everything staged made visible
abbrev pub with_published : Private → Private
with_published own = record { visible = both_of own; staged = empty }

-- without what is staged
abbrev pub with_discarded : Private → Private
with_discarded own = record { visible = own.visible; staged = empty }

-- without the visible objects whose names do not pass; what is staged stays
abbrev pub with_kept : (List ℕ → Bool) → Private → Private
with_kept names own = record { visible = retain_keys own.visible names; staged = own.staged }

-- with these objects made visible; if one of the name is visible already, that one stays
abbrev pub with_adopted : Objects → Private → Private
with_adopted objects own = record { visible = joined own.visible objects; staged = own.staged }

-- each of the first objects is among the others, under its name
abbrev pub AreAmong : Objects → Objects → Type 0
AreAmong some all = (name : List ℕ) (object : Object) → get some name ≡ Some object → get all name ≡ Some object

-- if both have an object of a name, the two have the same kind and length
abbrev pub AreAlike : Objects → Objects → Type 0
AreAlike objects others = (name : List ℕ) (object other : Object) → get objects name ≡ Some object → get others name ≡ Some other → measure_of other ≡ measure_of object

-- whether the tenant has an object of this name
abbrev pub is_held_by : Private → List ℕ → Bool
is_held_by own name = contains_key own.visible name || contains_key own.staged name

-- the tenant has this object under this name
pub data Holds (own : Private) (name : List ℕ) (object : Object) : Type 0 where
  -- the tenant sees it
  Sees : get own.visible name ≡ Some object → Holds own name object
  -- the tenant has staged it
  Awaits : get own.staged name ≡ Some object → Holds own name object

-- what is known about an object without its bytes
abbrev pub held_of : Object → Bool → Bool → Held
held_of object visible staged = record { kind = object.kind; length = length object.bytes; visible = visible; staged = staged }

-- what is known about the object of a name
abbrev pub held_in : Private → List ℕ → Option Held
held_in own name = option_map (λ object. held_of object (contains_key own.visible name) (contains_key own.staged name)) (get (both_of own) name)

-- the kind of an object, if it is visible
abbrev pub kind_seen : Option Held → Option Kind
kind_seen None = None
kind_seen (Some held) = if held.visible then Some held.kind else None

-- what no store can change about private maps: names, kinds and lengths
abbrev pub private_measures : Private → Measures × Measures
private_measures own = (measures_of own.visible, measures_of own.staged)

-- private maps have a code, so that they can be a model's value
abbrev objects_code : Coded Objects
objects_code = code (coded_list coded_ℕ) sealed.the_row.coded

abbrev pub private_code : Coded Private
private_code = code_by (Objects × Objects) (coded× objects_code objects_code) (λ own. (own.visible, own.staged)) (λ p. record { visible = p.0; staged = p.1 }) (λ _. refl)
