-- What is known about the objects of names (own): their links, and when commits were made.
use Rattle.std.specs.Prelude.{◌≡◌, ◌⊎◌, ℕ, List, Some, Contains, map}
use Rattle.std.specs.FinMap.{get}
use Rattle.git_name.specs.Object.{Object, object_name}
use Rattle.git_object.specs.ObjectIn.{links_in}
use Rattle.fork_reach.specs.History.{time_in}
use Rattle.loose_store.specs.Files.{Files}
use Rattle.loose_store.specs.Stored.{Whole}
use Rattle.number_links.specs.Facts.{Learned, told}
use Rattle.object_table.specs.Links.{NamedLinks}

-- the links and the time of an object
abbrev pub learned_of : Object → Learned (List ℕ)
learned_of object = told (map (λ link. link.name) (links_in object.kind object.bytes)) (time_in object.kind object.bytes)

-- an object of this name has a whole file, and these are its links and its time
abbrev pub LeadsTo : Files → List ℕ → Learned (List ℕ) → Type 0
LeadsTo files name one = (object : Object) × Whole files name object × (learned_of object ≡ one)

-- what is known about each of these names is true
pub record AreLed (links : NamedLinks) (files : Files) : Type 0 where
  pub each : (name : List ℕ) (one : Learned (List ℕ)) → get links name ≡ Some one → LeadsTo files name one

-- whatever is known now was known before, or was learned of one of these objects
abbrev pub LearnsOf : List Object → NamedLinks → NamedLinks → Type 0
LearnsOf objects old new = (name : List ℕ) (one : Learned (List ℕ)) → get new name ≡ Some one
    → (get old name ≡ Some one) ⊎ ((object : Object) × Contains objects object × (name ≡ object_name object) × (one ≡ learned_of object))
