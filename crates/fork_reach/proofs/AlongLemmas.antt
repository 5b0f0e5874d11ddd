-- What an object goes on to, by its kind.
use Rattle.std.proofs.Common.{◌≡◌, ℕ, true, false, List, [], Option, None, Some, refl, sym, ap, ◌∙◌, is_some, map as mapped}
use Rattle.std.specs.FinMap.{contains_key, get}
use Rattle.std.specs.Option.{option_map, option_map_or}
use Rattle.git_name.specs.Object.{Object}
use Rattle.git_name.specs.declared.kind.Kind.{Kind}
use Rattle.git_name.specs.declared.kind.Kind.TheVariants.{Blob, Tree, Commit, Tag}
use Rattle.git_object.specs.ObjectIn.{links_in, object_in}
use Rattle.fork_reach.specs.declared.along.Along.{Along}
use Rattle.fork_reach.specs.declared.along.Along.TheVariants.{Links, Parents}
use Rattle.git_name.proofs.MapLemmas.{get_map_values}
use Rattle.git_name.proofs.Names.{name_total}
use Rattle.fork_reach.specs.Along.{names_along, names_in, rests, rests_at, rests_in}
use Rattle.fork_reach.specs.Objects.{measure_of, measures_of}
use Rattle.fork_reach.specs.Reach.{links_of_found, parents_of_found}
use Rattle.fork_reach.specs.Source.{Objects, kind_in}

-- the names that an object goes on to, where there is one
abbrev names_found : Along → Option Object → List (List ℕ)
names_found Links found = mapped (λ link. link.name) (links_of_found found)
names_found Parents found = parents_of_found found

-- an object goes on to nothing, where its kind does not
quiet_in : (along : Along) (kind : Kind) (bytes : List ℕ) → rests along kind ≡ true → names_in along kind bytes ≡ []
unfolding links_in object_in
quiet_in Links Blob bytes is = refl
quiet_in Links Tree bytes is = absurd (cc)
quiet_in Links Commit bytes is = absurd (cc)
quiet_in Links Tag bytes is = absurd (cc)
quiet_in Parents Blob bytes is = refl
quiet_in Parents Tree bytes is = refl
quiet_in Parents Commit bytes is = absurd (cc)
quiet_in Parents Tag bytes is = refl

-- what is found under a name goes on to nothing, where its kind does not
pub quiet_along : (along : Along) (objects : Objects) (name : List ℕ) → rests_at (Some along) (measures_of objects) name ≡ true → names_along along objects name ≡ []
quiet_along along objects name is = named along ∙ by along (get objects name) (sym (ap (λ found. option_map_or (λ m. rests along m.0) found false) (get_map_values name_total measure_of objects name)) ∙ is)
  where
    named : (along : Along) → names_along along objects name ≡ names_found along (get objects name)
    named Links = refl
    named Parents = refl

    by : (along : Along) (found : Option Object) → option_map_or (λ m. rests along m.0) (option_map measure_of found) false ≡ true → names_found along found ≡ []
    by Links None is = absurd (cc)
    by Links (Some object) is = quiet_in Links object.kind object.bytes is
    by Parents None is = absurd (cc)
    by Parents (Some object) is = quiet_in Parents object.kind object.bytes is

-- what goes on to nothing is so by its kind
pub rests_by_kind : (along : Option Along) (objects : Objects) (name : List ℕ) (kind : Kind) → Some kind ≡ kind_in objects name → rests_at along (measures_of objects) name ≡ rests_in along kind
rests_by_kind along objects name kind is = ap (λ found. option_map_or (λ m. rests_in along m.0) found false) (get_map_values name_total measure_of objects name) ∙ by (get objects name) is
  where
    by : (found : Option Object) → Some kind ≡ option_map (λ object. object.kind) found → option_map_or (λ m. rests_in along m.0) (option_map measure_of found) false ≡ rests_in along kind
    by None is = absurd (cc)
    by (Some object) is = (let same : object.kind ≡ kind = cc in ap (rests_in along) same)

-- an object that has a kind is there
pub there_by_kind : (objects : Objects) (name : List ℕ) → is_some (kind_in objects name) ≡ true → contains_key objects name ≡ true
there_by_kind objects name some = by (get objects name) some
  where
    by : (found : Option Object) → is_some (option_map (λ object. object.kind) found) ≡ true → is_some found ≡ true
    by None some = (let no : ⊥ = cc in absurd no)
    by (Some object) some = refl
