-- Objects that a tenant sees again, as they are on the store and as they are judged.
use Rattle.std.proofs.Common.{◌≡◌, ◌⊎◌, inl, inr, ℕ, ◌<◌, Bool, true, false, Option, None, Some, List, [], ◌∷◌, refl, sym, ap, subst, ◌∙◌, is_some}
use Rattle.std.specs.Prelude.{Contains, ◌||◌}
use Rattle.std.specs.Cmp.{eq_by_cmp_equiv}
use Rattle.std.proofs.lemmas.Map.Views.{Contains-from_any, list_any-from_Contains}
use Rattle.std.specs.BTreeMap.{is_at}
use Rattle.std.specs.BTreeSet.{BTreeSet}
use Rattle.std.specs.List.{list_any}
use Rattle.std.specs.Option.{option_map}
use Rattle.std.specs.Ordering.{eq_by_cmp}
use Rattle.std.specs.FinMap.{contains_key, empty, get, get-empty}
use Rattle.git_name.specs.Name.{name_cmp}
use Rattle.git_name.proofs.Names.{name_total}
use Rattle.git_name.specs.Object.{Object, object_name}
use Rattle.git_name.specs.Same.{is_one_of}
use Rattle.git_object.specs.ObjectIn.{links_in}
use Rattle.loose_store.specs.Files.{Files}
use Rattle.loose_store.specs.Stored.{Whole}
use Rattle.fork_reach.specs.Objects.{IsNamed, use_of, with_objects}
use Rattle.fork_reach.specs.Source.{Objects}
use Rattle.fork_reach.proofs.KeptObjects.{named_all, tied_names}
use Rattle.fork_model.specs.Provenance.{IsAmong}
use Rattle.fork_model.specs.Sound.{AreRight, IsClosed}
use Rattle.fork_model.proofs.ProvenanceLemmas.{among_both}
use Rattle.fork_model.proofs.TransferLemmas.{came}
use Rattle.fork_sound.specs.Sound.{is_bad}
use Rattle.fork_sound.proofs.SoundLemmas.{all_met, good_found, good_there, none_bad}
use Rattle.state_text.specs.States.{TenantState}
use Rattle.fork_host.specs.Refilled.{IsAgainst, StandsAgainst, bad_in}
use Rattle.fork_host.specs.Restored.{AreOnStore, first_astray, first_bad, repositories_in, target_of}
use Rattle.fork_host.specs.declared.seeing.Against.{Against}
use Rattle.fork_host.specs.declared.seeing.Against.TheVariants.{Memory as NoMemory, BadObject, Astray, Limit}
use Rattle.fork_host.proofs.RecallLemmas.{one_whole}

-- a name among others
pub one_of : (names : List (List ℕ)) (name : List ℕ) → Contains names name → is_one_of names name ≡ true
one_of names name is = list_any-from_Contains (eq_by_cmp_equiv name_total) name names is

pub of_one : (names : List (List ℕ)) (name : List ℕ) → is_one_of names name ≡ true → Contains names name
of_one names name is = Contains-from_any {eq = eq_by_cmp name_cmp} tied_names name names is

either_false : (a b : Bool) → (a || b) ≡ false → (a ≡ false) × (b ≡ false)
either_false true b is = absurd (cc)
either_false false b is = (refl, is)

not_bad_in : (bad : List ℕ → Bool) (names : List (List ℕ)) (name : List ℕ) → list_any bad names ≡ false → is_one_of names name ≡ true → bad name ≡ false
not_bad_in bad [] name none is = absurd (cc)
not_bad_in bad (key ∷ names) name none is =
    let parts = either_false (bad key) (list_any bad names) none in
    by (is_at (name_cmp name) key) refl is parts.0 (not_bad_in bad names name parts.1)
  where
    by : (b : Bool) → is_at (name_cmp name) key ≡ b → (b || is_one_of names name) ≡ true → bad key ≡ false → (is_one_of names name ≡ true → bad name ≡ false) → bad name ≡ false
    by true tied found good rest = ap bad (tied_names name key tied) ∙ good
    by false apart found good rest = rest found

-- if none of the names is bad, this one is not
pub not_bad : (names : List (List ℕ)) (objects : Objects) (name : List ℕ) → first_bad names objects ≡ None → is_one_of names name ≡ true → is_bad objects (is_one_of names) name ≡ false
not_bad names objects name none is = not_bad_in (is_bad objects (is_one_of names)) names name (none_bad (is_bad objects (is_one_of names)) names none) is

nothing_in : (name : List ℕ) (object : Object) (G : Type 0) → get (empty {K = List ℕ} {X = Object} {R = name_cmp}) name ≡ Some object → G
nothing_in name object G is = absurd (cc (sym (get-empty {X = Object} name_cmp name) ∙ is))

-- objects that were added are under their own names
pub named_came : (came : List Object) → IsNamed (with_objects empty came)
named_came came = named_all empty came (λ name object is. nothing_in name object _ is)

-- they are those that are whole on the store
pub on_store : (files : Files) (names : List (List ℕ)) (arrived : List Object) → ((object : Object) → Contains arrived object → Contains names (object_name object)) → ((object : Object) → Contains arrived object → Whole files (object_name object) object)
    → ((name : List ℕ) (object : Object) → Contains names name → Whole files name object → Contains arrived object) → AreOnStore files names (with_objects empty arrived)
on_store files names arrived among whole all = record {
  among = λ name object is. subst (Contains names) (arrives name object is).named (among object (arrives name object is).sent);
  whole = stands;
  all = λ name object asked stored. found name object stored (get (with_objects empty arrived) name) refl (ap (λ n. contains_key (with_objects empty arrived) n) (sym stored.named) ∙ came empty arrived object (all name object asked stored));
}
  where
    arrives : (name : List ℕ) (object : Object) → get (with_objects empty arrived) name ≡ Some object → IsAmong arrived name object
    arrives name object is = by (among_both empty arrived name object is)
      where
        by : (get (empty {K = List ℕ} {X = Object} {R = name_cmp}) name ≡ Some object) ⊎ IsAmong arrived name object → IsAmong arrived name object
        by (inl there) = nothing_in name object _ there
        by (inr came_one) = came_one

    stands : (name : List ℕ) (object : Object) → get (with_objects empty arrived) name ≡ Some object → Whole files name object
    stands name object is = subst (λ n. Whole files n object) (arrives name object is).named (whole object (arrives name object is).sent)

    found : (name : List ℕ) (object : Object) → Whole files name object → (o : Option Object) → get (with_objects empty arrived) name ≡ o → is_some (get (with_objects empty arrived) name) ≡ true → get (with_objects empty arrived) name ≡ Some object
    found name object stored None is there = absurd (cc (sym (ap is_some is) ∙ there))
    found name object stored (Some other) is there = is ∙ ap Some (one_whole files name other object (stands name other is) stored)

-- if no seen name is bad, all objects are in their grammars, and their links are met
pub right_seen : (files : Files) (names : List (List ℕ)) (objects : Objects) → ((name : List ℕ) (object : Object) → get objects name ≡ Some object → Contains names name) → first_bad names objects ≡ None → AreRight objects
right_seen files names objects among none name object is =
    (good_found objects (is_one_of names) name object (not_bad names objects name none (one_of names name (among name object is))) is).right

pub closed_seen : (files : Files) (names : List (List ℕ)) (objects : Objects) → ((name : List ℕ) (object : Object) → get objects name ≡ Some object → Contains names name) → first_bad names objects ≡ None → IsClosed objects
closed_seen files names objects among none name object is =
    all_met objects (is_one_of names) (links_in object.kind object.bytes)
    (λ other seen. good_there objects (is_one_of names) other (not_bad names objects other none seen))
    (good_found objects (is_one_of names) name object (not_bad names objects name none (one_of names name (among name object is))) is).met

-- the first bad name of a set is that of the list of its names
pub bad_by : (set : BTreeSet (List ℕ)) (names : List (List ℕ)) (objects : Objects) → set.keys ≡ names → bad_in set objects ≡ first_bad names objects
bad_by set names objects is = ap (λ keys. first_bad keys objects) is

-- what is wrong with the objects that are seen, by those on the store
pub stands_against : (files : Files) (state : TenantState) (set : BTreeSet (List ℕ)) (visible both objects : Objects) → set.keys ≡ state.seen → visible ≡ objects → both ≡ objects → AreOnStore files state.seen objects
    → (against : Against) → IsAgainst set state visible both against → StandsAgainst files state against
stands_against files state set visible both objects are seen all stored NoMemory is = tt
stands_against files state set visible both objects are seen all stored (BadObject name) is =
    record { objects = objects; stored = stored; is = sym (bad_by set state.seen objects are) ∙ ap (bad_in set) (sym seen) ∙ is }
stands_against files state set visible both objects are seen all stored (Astray target) is =
    record { objects = objects; stored = stored; is = (sym (bad_by set state.seen objects are) ∙ ap (bad_in set) (sym seen) ∙ is.0, is.1, ap (first_astray (repositories_in state)) (sym seen) ∙ is.2) }
stands_against files state set visible both objects are seen all stored Limit is =
    record { objects = objects; stored = stored; is = (sym (bad_by set state.seen objects are) ∙ ap (bad_in set) (sym seen) ∙ is.0, ap (first_astray (repositories_in state)) (sym seen) ∙ is.1, subst (λ o. state.limit < use_of o) all is.2) }

-- the reference whose target is reported
pub told_target : (found : Option (List ℕ × List ℕ)) (target : List ℕ) → Some target ≡ option_map target_of found → (reference : List ℕ) × (found ≡ Some (reference, target))
told_target None target is = absurd (cc)
told_target (Some (reference, found)) target is = (reference, ap (λ t. Some (reference, t)) (sym (same_target is)))
  where
    same_target : Some target ≡ Some found → target ≡ found
    same_target is = cc
