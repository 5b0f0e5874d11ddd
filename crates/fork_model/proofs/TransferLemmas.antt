-- A push accepts what is fetched from one view into another that holds what was excluded.
use Rattle.std.proofs.Common.{◌≡◌, ℕ, ◌&&◌, not, zero, suc, Bool, true, false, cond, List, [], ◌∷◌, Option, None, Some, refl, sym, ap, ◌∙◌, arith, is_some, inl, inr}
use Rattle.std.specs.Prelude.{Contains}
use Rattle.std.specs.List.{AllByRecursion}
use Rattle.std.specs.Ordering.{is_eq}
use Rattle.std.specs.FinMap.{contains_key, entries, get, get-entries, get-insert, insert, retain_keys}
use Rattle.std.proofs.lemmas.Bool.{and_from}
use Rattle.std.proofs.lemmas.Cmp.{tied_itself}
use Rattle.git_name.specs.Object.{Object, object_name}
use Rattle.git_name.proofs.Names.{name_total}
use Rattle.fork_reach.specs.Objects.{with_object, with_objects}
use Rattle.fork_reach.specs.Reach.{is_reached, linked_names}
use Rattle.fork_reach.specs.Source.{Objects}
use Rattle.fork_reach.proofs.KeptObjects.{kept_all}
use Rattle.fork_reach.proofs.ReachLemmas.{reached_there}
use Rattle.fork_model.specs.Sound.{IsRight}
use Rattle.fork_model.specs.Transfer.{HasPrerequisites, HoldTheSame, fetched_objects, received}
use Rattle.fork_model.specs.View.{View}
use Rattle.fork_model.proofs.ClosedLemmas.{each_of}
use Rattle.fork_model.proofs.FetchedLemmas.{each_value}
use Rattle.git_name.specs.Name.{name_cmp}
use Rattle.fork_model.proofs.KeptLemmas.{found_value, stays_at}
use Rattle.fork_model.proofs.ProvenanceLemmas.{among_both}

some_same : {X : Type 0} (a b : X) → Some a ≡ Some b → a ≡ b
some_same a b is = cc

pub none_there : {X : Type 0} (o : Option X) → o ≡ None → is_some o ≡ true → ⊥
none_there o is there = (let no : false ≡ true = ap is_some (sym is) ∙ there in cc)

-- an object that was added is found under its name
came_one : (objects : Objects) (object : Object) → contains_key (with_object objects object) (object_name object) ≡ true
came_one objects object = by (contains_key objects (object_name object)) refl
  where
    by : (b : Bool) → contains_key objects (object_name object) ≡ b → contains_key (cond b objects (insert objects (object_name object) object)) (object_name object) ≡ true
    by true there = there
    by false absent =
        ap is_some (get-insert name_total objects (object_name object) object (object_name object))
        ∙ ap (λ order. is_some (cond (is_eq order) (Some object) (get objects (object_name object)))) (tied_itself name_total (object_name object))

pub came : (objects : Objects) (sent : List Object) (object : Object) → Contains sent object → contains_key (with_objects objects sent) (object_name object) ≡ true
came objects [] object at = absurd (omega arith)
came objects (more ∷ sent) object (zero, few, is) =
    let there : contains_key (with_object objects more) (object_name object) ≡ true = ap (λ (o : Object). contains_key (with_object objects more) (object_name o)) (sym is) ∙ came_one objects more in
    ap is_some (kept_all (with_object objects more) sent (object_name object) there) ∙ there
came objects (more ∷ sent) object (suc k, few, is) = came (with_object objects more) sent object (k, omega arith, is)

-- under a name of the sender the sender's object is found, if the receiver's objects are the same
found_alike : (receiver sender : Objects) (sent : List Object)
    → HoldTheSame sender receiver
    → AllByRecursion (λ object. get sender (object_name object) ≡ Some object) sent
    → (name : List ℕ) (object other : Object) → get sender name ≡ Some object → get (with_objects receiver sent) name ≡ Some other → other ≡ object
found_alike receiver sender sent same theirs name object other here found =
    elim (among_both receiver sent name other found) [
      | inl was ↦ sym (same name object other here was)
      | inr among ↦ some_same other object (sym (each_of (λ o. get sender (object_name o) ≡ Some o) sent other theirs among.sent) ∙ ap (get sender) among.named ∙ here)
    ]

some_found : (receiver sender : Objects) (sent : List Object)
    → HoldTheSame sender receiver
    → AllByRecursion (λ object. get sender (object_name object) ≡ Some object) sent
    → (name : List ℕ) → contains_key sender name ≡ true → contains_key (with_objects receiver sent) name ≡ true → get (with_objects receiver sent) name ≡ get sender name
some_found receiver sender sent same theirs name there arrived = by (get sender name) (get (with_objects receiver sent) name) refl refl
  where
    by : (o p : Option Object) → get sender name ≡ o → get (with_objects receiver sent) name ≡ p → get (with_objects receiver sent) name ≡ get sender name
    by None p here found = absurd (none_there (get sender name) here there)
    by (Some object) None here found = absurd (none_there (get (with_objects receiver sent) name) found arrived)
    by (Some object) (Some other) here found = found ∙ ap (λ o. Some o) (found_alike receiver sender sent same theirs name object other here found) ∙ sym here

-- each fetched object is the sender's, under its name
fetched_theirs : (view : View) (wanted excluded : List (List ℕ)) → IsRight view
    → AllByRecursion (λ object. get view.objects (object_name object) ≡ Some object) (fetched_objects view.objects wanted excluded)
fetched_theirs view wanted excluded right = each_value _ view.objects _ (λ name object kept is. ap (get view.objects) (right.named name object is) ∙ is)

-- what the wanted names reach has arrived: it is fetched, or the receiver held it
arrives : (receiver : Objects) (view : View) (wanted excluded : List (List ℕ)) → IsRight view → HasPrerequisites receiver view.objects excluded
    → (name : List ℕ) → is_reached (linked_names view.objects) view.objects wanted name ≡ true → contains_key (received receiver view.objects wanted excluded) name ≡ true
arrives receiver view wanted excluded right has name reached = by (is_reached (linked_names view.objects) view.objects excluded name) refl (get view.objects name) refl
  where
    kept : List ℕ → Bool
    kept other = is_reached (linked_names view.objects) view.objects wanted other && not (is_reached (linked_names view.objects) view.objects excluded other)

    by : (b : Bool) → is_reached (linked_names view.objects) view.objects excluded name ≡ b → (o : Option Object) → get view.objects name ≡ o → contains_key (received receiver view.objects wanted excluded) name ≡ true
    by true held o is =
        let there = has.reached name held in
        ap is_some (kept_all receiver (fetched_objects view.objects wanted excluded) name there) ∙ there
    by false open_is None is = absurd (none_there (get view.objects name) is (reached_there (linked_names view.objects) view.objects wanted name reached))
    by false open_is (Some object) is =
        let beyond_is = stays_at view.objects kept name (and_from _ _ reached (ap not open_is)) ∙ is in
        let among = found_value name_cmp name object (entries (retain_keys view.objects kept)) (sym (get-entries (retain_keys view.objects kept) name) ∙ beyond_is) in
        ap (contains_key (received receiver view.objects wanted excluded)) (sym (right.named name object is)) ∙ came receiver (fetched_objects view.objects wanted excluded) object among

-- so under each name that the wanted names reach is the sender's object
pub arrived : (receiver : Objects) (view : View) (wanted excluded : List (List ℕ)) → IsRight view → HasPrerequisites receiver view.objects excluded
    → (name : List ℕ) → is_reached (linked_names view.objects) view.objects wanted name ≡ true → get (received receiver view.objects wanted excluded) name ≡ get view.objects name
arrived receiver view wanted excluded right has name reached =
    some_found receiver view.objects (fetched_objects view.objects wanted excluded) has.same (fetched_theirs view wanted excluded right) name
    (reached_there (linked_names view.objects) view.objects wanted name reached) (arrives receiver view wanted excluded right has name reached)
