-- The best common ancestors: one step along parents shows what all ancestors show.
use Rattle.std.proofs.Common.{◌≡◌, ◌≢◌, ℕ, ◌&&◌, not, cond, Bool, true, false, List, [], ◌∷◌, Option, None, Some, is_some, refl, sym, ap, subst, ◌∙◌, arith}
use Rattle.std.specs.List.{Contains, list_any}
use Rattle.std.specs.List.Sorted.{IsStrictlySortedBy}
use Rattle.std.specs.FinMap.{FinMap, contains_key, get, keys, retain_keys}
use Rattle.std.specs.Option.{option_map}
use Rattle.std.specs.Str.{bytes_eq}
use Rattle.std.proofs.lemmas.Bool.{and_parts, and_from, not-true}
use Rattle.std.proofs.lemmas.List.Folds.{Any-from_list_any}
use Rattle.std.proofs.lemmas.Slice.Eq.{bytes_eq-Decides}
use Rattle.git_name.specs.Maps.{map_values}
use Rattle.git_name.specs.Name.{name_cmp}
use Rattle.git_name.specs.Object.{Object}
use Rattle.git_name.proofs.MapLemmas.{get_map_values}
use Rattle.git_name.proofs.Names.{name_total}
use Rattle.fork_reach.specs.History.{Notes, note_of, noted_parents, parents_of_noted}
use Rattle.fork_reach.specs.Reach.{IsReached, Root, Next, is_among, is_reached, parent_names, parents_of_found}
use Rattle.fork_reach.specs.Source.{Objects}
use Rattle.fork_reach.proofs.HiddenLemmas.{get_kept}
use Rattle.fork_reach.proofs.NameLemmas.{Contains-keys, among-Contains, among-from_Contains, any_passes, same_tests}
use Rattle.fork_reach.proofs.ReachLemmas.{led_to_reached, next_reached, reached_led_to, reached_there, root_reached}
use Rattle.fork_reach.proofs.SeeingLemmas.{sole, sole_there}
use Rattle.fork_reach.specs.Bases.{is_ancestor, is_best_of, is_common_of, is_parent_of}
use Rattle.fork_query.specs.MergeBase.{is_base, is_common, is_outdone}
use Rattle.fork_reach.specs.NotedBases.{is_ancestor_noted, is_best_noted, is_common_noted, is_other_parent}
use Rattle.fork_query.proofs.BeyondLemmas.{there_passes}
use Rattle.fork_query.proofs.KeyLemmas.{keys_of_names}
use Rattle.fork_reach.proofs.ParentLemmas.{unequal}

-- what is reached is there
reached_is_there : {X : Type 0} (next : List ℕ → List (List ℕ)) (objects : FinMap name_cmp X) (roots : List (List ℕ)) (name : List ℕ) → IsReached next objects roots name → contains_key objects name ≡ true
reached_is_there next objects roots _ (Root name root there) = there
reached_is_there next objects roots _ (Next from name reached linked there) = there

-- the best of a history are noted there
pub best_there : (notes : Notes) (a b name : List ℕ) → is_best_noted notes a b name ≡ true → contains_key notes name ≡ true
best_there notes a b name is =
    let common = (and_parts _ (is_common_noted notes a b name) is).1 in
    let own = (and_parts (is_ancestor_noted notes b name) _ common).0 in
    reached_is_there (noted_parents notes) notes (b ∷ []) name (reached_led_to (noted_parents notes) notes (b ∷ []) name own)

-- more roots reach no less
wider : (next : List ℕ → List (List ℕ)) (objects : Objects) (some all : List (List ℕ)) → ((name : List ℕ) → Contains some name → Contains all name) → (name : List ℕ) → IsReached next objects some name → IsReached next objects all name
wider next objects some all within _ (Root name root there) = Root name (within name root) there
wider next objects some all within _ (Next from name reached linked there) = Next from name (wider next objects some all within from reached) linked there

-- what a reached name reaches is reached
onward : (next : List ℕ → List (List ℕ)) (objects : Objects) (roots : List (List ℕ)) (from : List ℕ) → IsReached next objects roots from → (name : List ℕ) → IsReached next objects (from ∷ []) name → IsReached next objects roots name
onward next objects roots from reached _ (Root name root there) = subst (IsReached next objects roots) (sole_there from name root) reached
onward next objects roots from reached _ (Next mid name further linked there) = Next mid name (onward next objects roots from reached mid further) linked there

-- the last step of a way to another name: from a name on the way that is not its end
pub record LastStep (next : List ℕ → List (List ℕ)) (objects : Objects) (from name : List ℕ) : Type 0 where
  pub last : List ℕ
  pub reached : IsReached next objects (from ∷ []) last
  pub apart : last ≢ name
  pub linked : Contains (next last) name

last_step : (next : List ℕ → List (List ℕ)) (objects : Objects) (from name : List ℕ) → IsReached next objects (from ∷ []) name → name ≢ from → LastStep next objects from name
last_step next objects from _ (Root name root there) apart = absurd (apart (sym (sole_there from name root)))
last_step next objects from _ (Next mid name reached linked there) apart = by (bytes_eq mid name) refl (last_step next objects from mid reached)
  where
    by : (b : Bool) → bytes_eq mid name ≡ b → (mid ≢ from → LastStep next objects from mid) → LastStep next objects from name
    by true is before =
        let same = (bytes_eq-Decides mid name).0 is in
        let step = before (λ start. apart (sym same ∙ start)) in
        record { last = step.last; reached = step.reached; apart = λ end. step.apart (end ∙ sym same); linked = subst (Contains (next step.last)) same step.linked }
    by false is before = record { last = mid; reached = reached; apart = λ same. (let no : false ≡ true = sym is ∙ (bytes_eq-Decides mid name).1 same in cc); linked = linked }

some_kept : (b : Bool) (found : Option Object) → (b ≡ true → is_some found ≡ true) → is_some (option_map note_of (cond b found None)) ≡ b
some_kept true None there = there refl
some_kept true (Some object) there = refl
some_kept false found there = refl

kept_parents : (b : Bool) (found : Option Object) → b ≡ true → parents_of_noted (option_map note_of (cond b found None)) ≡ parents_of_found found
kept_parents true None is = refl
kept_parents true (Some object) is = refl
kept_parents false found is = (let no : ⊥ = cc in absurd no)

-- a history of what these roots reach
abbrev IsRead : Objects → List (List ℕ) → Notes → Type 0
IsRead objects roots notes = notes ≡ map_values note_of (retain_keys objects (is_reached (parent_names objects) objects roots))

module _ (objects : Objects) (roots : List (List ℕ)) (notes : Notes) (read : IsRead objects roots notes) where
  noted_at : (name : List ℕ) → get notes name ≡ option_map note_of (cond (is_reached (parent_names objects) objects roots name) (get objects name) None)
  noted_at name = ap (λ n. get n name) read ∙ get_map_values name_total note_of _ name ∙ ap (option_map note_of) (get_kept objects (is_reached (parent_names objects) objects roots) name)

  -- who is noted
  noted_there : (name : List ℕ) → contains_key notes name ≡ is_reached (parent_names objects) objects roots name
  noted_there name = ap is_some (noted_at name) ∙ some_kept _ (get objects name) (reached_there (parent_names objects) objects roots name)

  -- with its parents
  noted_next : (name : List ℕ) → is_reached (parent_names objects) objects roots name ≡ true → noted_parents notes name ≡ parent_names objects name
  noted_next name is = ap parents_of_noted (noted_at name) ∙ kept_parents _ (get objects name) is

  from_notes : (some : List (List ℕ)) (name : List ℕ) → IsReached (noted_parents notes) notes some name → IsReached (parent_names objects) objects some name
  from_notes some _ (Root name root there) = Root name root (reached_there (parent_names objects) objects roots name (sym (noted_there name) ∙ there))
  from_notes some _ (Next from name reached linked there) =
      let is = sym (noted_there from) ∙ reached_is_there (noted_parents notes) notes some from reached in
      Next from name (from_notes some from reached) (subst (λ names. Contains names name) (noted_next from is) linked) (reached_there (parent_names objects) objects roots name (sym (noted_there name) ∙ there))

  to_notes : (some : List (List ℕ)) → ((name : List ℕ) → Contains some name → Contains roots name) → (name : List ℕ) → IsReached (parent_names objects) objects some name → IsReached (noted_parents notes) notes some name
  to_notes some within _ (Root name root there) = Root name root (noted_there name ∙ root_reached (parent_names objects) objects roots name (within name root) there)
  to_notes some within _ (Next from name reached linked there) =
      let is = led_to_reached (parent_names objects) objects roots from (wider (parent_names objects) objects some roots within from reached) in
      Next from name (to_notes some within from reached) (subst (λ names. Contains names name) (sym (noted_next from is)) linked) (noted_there name ∙ next_reached (parent_names objects) objects roots from name is linked there)

  -- some of the roots reach the same over the history
  pub noted_reached : (some : List (List ℕ)) → ((name : List ℕ) → Contains some name → Contains roots name) → (name : List ℕ) → is_reached (noted_parents notes) notes some name ≡ is_reached (parent_names objects) objects some name
  noted_reached some within name = same_tests _ _
      (λ is. led_to_reached (parent_names objects) objects some name (from_notes some name (reached_led_to (noted_parents notes) notes some name is)))
      (λ is. led_to_reached (noted_parents notes) notes some name (to_notes some within name (reached_led_to (parent_names objects) objects some name is)))

first_of_both : (a b name : List ℕ) → Contains (a ∷ []) name → Contains (a ∷ b ∷ []) name
first_of_both a b name is = subst (Contains (a ∷ b ∷ [])) (sole_there a name is) (0, omega arith, refl)

second_of_both : (a b name : List ℕ) → Contains (b ∷ []) name → Contains (a ∷ b ∷ []) name
second_of_both a b name is = subst (Contains (a ∷ b ∷ [])) (sole_there b name is) (1, omega arith, refl)

module _ (objects : Objects) (a b : List ℕ) where
  -- a common ancestor is read with both histories
  common_read : (name : List ℕ) → is_common objects a b name ≡ true → is_reached (parent_names objects) objects (a ∷ b ∷ []) name ≡ true
  common_read name is =
      let both = and_parts (is_ancestor objects a name) _ is in
      led_to_reached (parent_names objects) objects (a ∷ b ∷ []) name (wider (parent_names objects) objects (a ∷ []) (a ∷ b ∷ []) (first_of_both a b) name (reached_led_to (parent_names objects) objects (a ∷ []) name both.0))

  common_there : (name : List ℕ) → is_common objects a b name ≡ true → contains_key objects name ≡ true
  common_there name is = reached_there (parent_names objects) objects (a ∷ b ∷ []) name (common_read name is)

  -- what a common ancestor has among its own is common
  common_on : (from name : List ℕ) → is_common objects a b from ≡ true → IsReached (parent_names objects) objects (from ∷ []) name → is_common objects a b name ≡ true
  common_on from name is reached =
      let next = parent_names objects in
      let both = and_parts (is_ancestor objects a from) _ is in
      and_from _ _ (led_to_reached next objects (a ∷ []) name (onward next objects (a ∷ []) from (reached_led_to next objects (a ∷ []) from both.0) name reached))
      (led_to_reached next objects (b ∷ []) name (onward next objects (b ∷ []) from (reached_led_to next objects (b ∷ []) from both.1) name reached))

  -- a common one that has it as a parent
  abbrev has_child_of : List ℕ → Bool
  has_child_of name = list_any (λ other. is_common_of objects a b other && is_parent_of objects other name) (keys objects)

  common_of : (name : List ℕ) → is_common_of objects a b name ≡ is_common objects a b name
  common_of name = same_tests _ _
      (λ is. (let both = and_parts (is_ancestor objects b name) _ is in and_from _ _ both.1 both.0))
      (λ is. (let both = and_parts (is_ancestor objects a name) _ is in and_from _ _ both.1 both.0))

  one_step_of : (name : List ℕ) → is_common objects a b name ≡ true → has_child_of name ≡ true → is_outdone objects a b name ≡ true
  one_step_of name common is =
      let next = parent_names objects in
      let any = Any-from_list_any (λ other. is_common_of objects a b other && is_parent_of objects other name) (keys objects) is in
      let other = any.1 in
      let both = and_parts (is_common_of objects a b other) _ any.4 in
      let parent = and_parts (not (bytes_eq other name)) _ both.1 in
      let also = sym (common_of other) ∙ both.0 in
      let reached = led_to_reached next objects (other ∷ []) name (Next other name (Root other (sole other) (common_there other also)) (among-Contains (next other) name parent.1) (common_there name common)) in
      any_passes (λ o. is_common objects a b o && not (bytes_eq o name) && is_ancestor objects o name) (keys objects) other (Contains-keys objects other (common_there other also))
      (and_from _ _ (and_from _ _ also parent.0) reached)

  all_steps_of : (name : List ℕ) → is_outdone objects a b name ≡ true → has_child_of name ≡ true
  all_steps_of name is =
      let next = parent_names objects in
      let any = Any-from_list_any (λ o. is_common objects a b o && not (bytes_eq o name) && is_ancestor objects o name) (keys objects) is in
      let other = any.1 in
      let both = and_parts (is_common objects a b other && not (bytes_eq other name)) _ any.4 in
      let parts = and_parts (is_common objects a b other) _ both.0 in
      let apart : name ≢ other = λ same. (let no : false ≡ true = sym (not-true _ parts.1) ∙ (bytes_eq-Decides other name).1 (sym same) in cc) in
      let step = last_step next objects other name (reached_led_to next objects (other ∷ []) name both.1) apart in
      let also = common_on other step.last parts.0 step.reached in
      any_passes (λ o. is_common_of objects a b o && is_parent_of objects o name) (keys objects) step.last (Contains-keys objects step.last (common_there step.last also))
      (and_from _ _ (common_of step.last ∙ also) (and_from _ _ (ap not (unequal step.last name step.apart)) (among-from_Contains (next step.last) name step.linked)))

  -- so for a common ancestor one step is enough
  pub best_of : (name : List ℕ) → is_best_of objects a b name ≡ is_base objects a b name
  best_of name = same_tests _ _
      (λ is.
      let both = and_parts (not (has_child_of name)) _ is in
      let common = sym (common_of name) ∙ both.1 in
      and_from _ _ common (ap not (sym (same_tests _ _ (one_step_of name common) (all_steps_of name))) ∙ both.0))
      (λ is.
      let both = and_parts (is_common objects a b name) _ is in
      and_from _ _ (ap not (same_tests _ _ (one_step_of name both.0) (all_steps_of name)) ∙ both.1) (common_of name ∙ both.0))

  -- and they are listed by name
  pub best_names : (best : List (List ℕ)) → IsStrictlySortedBy name_cmp best → ((name : List ℕ) → is_among best name ≡ is_base objects a b name) → best ≡ keys (retain_keys objects (is_base objects a b))
  best_names best ordered found = keys_of_names best _ ordered (λ name. found name ∙ sym (there_passes objects (is_base objects a b) (λ n is. common_there n (and_parts (is_common objects a b n) _ is).0) name))

module _ (objects : Objects) (a b : List ℕ) (notes : Notes) (read : IsRead objects (a ∷ b ∷ []) notes) where
  of_a : (name : List ℕ) → is_ancestor_noted notes a name ≡ is_ancestor objects a name
  of_a name = noted_reached objects (a ∷ b ∷ []) notes read (a ∷ []) (first_of_both a b) name

  of_b : (name : List ℕ) → is_ancestor_noted notes b name ≡ is_ancestor objects b name
  of_b name = noted_reached objects (a ∷ b ∷ []) notes read (b ∷ []) (second_of_both a b) name

  common_noted : (name : List ℕ) → is_common_noted notes a b name ≡ is_common objects a b name
  common_noted name = same_tests _ _
      (λ is. (let both = and_parts (is_ancestor_noted notes b name) _ is in and_from _ _ (sym (of_a name) ∙ both.1) (sym (of_b name) ∙ both.0)))
      (λ is. (let both = and_parts (is_ancestor objects a name) _ is in and_from _ _ (of_b name ∙ both.1) (of_a name ∙ both.0)))

  abbrev has_child : List ℕ → Bool
  has_child name = list_any (λ other. is_common_noted notes a b other && is_other_parent notes name other) (keys notes)

  one_step : (name : List ℕ) → is_common objects a b name ≡ true → has_child name ≡ true → is_outdone objects a b name ≡ true
  one_step name common is =
      let next = parent_names objects in
      let any = Any-from_list_any (λ other. is_common_noted notes a b other && is_other_parent notes name other) (keys notes) is in
      let other = any.1 in
      let both = and_parts (is_common_noted notes a b other) _ any.4 in
      let parent = and_parts (not (bytes_eq other name)) _ both.1 in
      let also = sym (common_noted other) ∙ both.0 in
      let linked = subst (λ names. Contains names name) (noted_next objects (a ∷ b ∷ []) notes read other (common_read objects a b other also)) (among-Contains (noted_parents notes other) name parent.1) in
      let reached = led_to_reached next objects (other ∷ []) name (Next other name (Root other (sole other) (common_there objects a b other also)) linked (common_there objects a b name common)) in
      any_passes (λ o. is_common objects a b o && not (bytes_eq o name) && is_ancestor objects o name) (keys objects) other (Contains-keys objects other (common_there objects a b other also))
      (and_from _ _ (and_from _ _ also parent.0) reached)

  all_steps : (name : List ℕ) → is_outdone objects a b name ≡ true → has_child name ≡ true
  all_steps name is =
      let next = parent_names objects in
      let any = Any-from_list_any (λ o. is_common objects a b o && not (bytes_eq o name) && is_ancestor objects o name) (keys objects) is in
      let other = any.1 in
      let both = and_parts (is_common objects a b other && not (bytes_eq other name)) _ any.4 in
      let parts = and_parts (is_common objects a b other) _ both.0 in
      let apart : name ≢ other = λ same. (let no : false ≡ true = sym (not-true _ parts.1) ∙ (bytes_eq-Decides other name).1 (sym same) in cc) in
      let step = last_step next objects other name (reached_led_to next objects (other ∷ []) name both.1) apart in
      let also = common_on objects a b other step.last parts.0 step.reached in
      let noted = common_read objects a b step.last also in
      let linked = subst (λ names. Contains names name) (sym (noted_next objects (a ∷ b ∷ []) notes read step.last noted)) step.linked in
      any_passes (λ o. is_common_noted notes a b o && is_other_parent notes name o) (keys notes) step.last (Contains-keys notes step.last (noted_there objects (a ∷ b ∷ []) notes read step.last ∙ noted))
      (and_from _ _ (common_noted step.last ∙ also) (and_from _ _ (ap not (unequal step.last name step.apart)) (among-from_Contains (noted_parents notes step.last) name linked)))

  -- over a history one step is enough as well
  pub best_noted : (name : List ℕ) → is_best_noted notes a b name ≡ is_base objects a b name
  best_noted name = same_tests _ _
      (λ is.
      let both = and_parts (not (has_child name)) _ is in
      let common = sym (common_noted name) ∙ both.1 in
      and_from _ _ common (ap not (sym (same_tests _ _ (one_step name common) (all_steps name))) ∙ both.0))
      (λ is.
      let both = and_parts (is_common objects a b name) _ is in
      and_from _ _ (ap not (same_tests _ _ (one_step name both.0) (all_steps name)) ∙ both.1) (common_noted name ∙ both.0))
