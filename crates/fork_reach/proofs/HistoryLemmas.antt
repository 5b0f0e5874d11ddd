-- A history that is read, commit by commit.
use Rattle.std.proofs.Common.{◌≡◌, ℕ, Bool, true, false, cond, List, map, Option, None, Some, is_some, refl, sym, ap, ◌∙◌}
use Rattle.std.specs.FinMap.{contains_key, get, retain_keys, same_map}
use Rattle.std.specs.List.{zip}
use Rattle.std.specs.Map.{lookup}
use Rattle.std.specs.Option.{option_map}
use Rattle.git_name.specs.Maps.{map_values}
use Rattle.git_name.specs.Object.{Object}
use Rattle.git_name.specs.Same.{is_listed, same_name}
use Rattle.git_name.proofs.HashMaps.{get_of_hashed}
use Rattle.git_name.proofs.MapLemmas.{get_map_values}
use Rattle.git_name.proofs.Names.{name_total, name_exact}
use Rattle.fork_reach.specs.History.{Note, note_at, note_of, note_of_found, notes_under}
use Rattle.fork_reach.specs.Reach.{parent_names, parents_of_found}
use Rattle.fork_reach.specs.Source.{Objects}
use Rattle.fork_reach.proofs.HiddenLemmas.{get_kept}
use Rattle.fork_reach.proofs.NoteLemmas.{noted_by, noted_stands}

some_noted : (found : Option Object) → is_some found ≡ true → Some (note_of_found found) ≡ option_map note_of found
some_noted None there = (let no : ⊥ = cc in absurd no)
some_noted (Some object) there = refl

-- who has a note stands in the queue
pub noted_queued : (queue : List (List ℕ)) (notes : List Note) (name : List ℕ) → contains_key (notes_under queue notes) name ≡ true → is_listed queue name ≡ true
noted_queued queue notes name there = noted_stands queue notes name (ap is_some (sym (get_of_hashed (zip queue notes) name)) ∙ there)

-- the notes of a queue that was walked to its end are those of what was reached
pub notes_end : (objects : Objects) (queue : List (List ℕ)) (notes : List Note) (reached : List ℕ → Bool) → notes ≡ map (note_at objects) queue → ((name : List ℕ) → is_listed queue name ≡ reached name) → ((name : List ℕ) → is_listed queue name ≡ true → contains_key objects name ≡ true)
    → notes_under queue notes ≡ map_values note_of (retain_keys objects reached)
notes_end objects queue notes reached are is_reached there = same_map name_total name_exact (notes_under queue notes) (map_values note_of (retain_keys objects reached)) (λ name.
    get_of_hashed (zip queue notes) name ∙ ap (λ all. lookup (same_name name) (zip queue all)) are ∙ noted_by (note_at objects) queue name
    ∙ at name (is_listed queue name) refl ∙ sym (get_map_values name_total note_of (retain_keys objects reached) name ∙ ap (option_map note_of) (get_kept objects reached name)))
  where
    at : (name : List ℕ) (b : Bool) → is_listed queue name ≡ b → cond b (Some (note_at objects name)) None ≡ option_map note_of (cond (reached name) (get objects name) None)
    at name true is = some_noted (get objects name) (there name is) ∙ ap (λ b. option_map note_of (cond b (get objects name) None)) (sym is ∙ is_reached name)
    at name false is = ap (λ b. option_map note_of (cond b (get objects name) None)) (sym is ∙ is_reached name)

-- the parents that are noted of an object are those of the walk
pub note_parents : (objects : Objects) (name : List ℕ) → (note_at objects name).parents ≡ parent_names objects name
note_parents objects name = by (get objects name)
  where
    by : (found : Option Object) → (note_of_found found).parents ≡ parents_of_found found
    by None = refl
    by (Some object) = refl
