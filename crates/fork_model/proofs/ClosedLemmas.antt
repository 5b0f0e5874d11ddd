-- Adding objects whose links are resolved keeps objects right and closed.
use Rattle.std.proofs.Common.{◌≡◌, ◌≢◌, ℕ, zero, suc, arith, Bool, true, false, cond, not, List, [], ◌∷◌, ◌++◌, Option, Some, None, refl, sym, ap, subst, ◌∙◌, is_some, inl, inr, ◌⊎◌}
use Rattle.std.specs.Prelude.{map, Contains}
use Rattle.std.specs.List.{AllByRecursion, find}
use Rattle.std.specs.Option.{option_map}
use Rattle.std.specs.Ordering.{eq_by_cmp}
use Rattle.std.specs.FinMap.{get, get-insert, insert, contains_key}
use Rattle.git_name.specs.declared.kind.Kind.{Kind}
use Rattle.git_name.specs.declared.kind.Kind.TheVariants.{Blob, Tree, Commit, Tag}
use Rattle.git_name.specs.Name.{name_cmp}
use Rattle.git_name.specs.Object.{Object, object_name}
use Rattle.git_name.proofs.Names.{name_total}
use Rattle.git_object.specs.declared.link.Link.{Link}
use Rattle.git_object.specs.ObjectIn.{object_in, links_in}
use Rattle.push_stream.specs.Stream.{AreObjects}
use Rattle.fork_reach.specs.Objects.{with_object, with_objects}
use Rattle.fork_reach.specs.Source.{Objects, kind_in}
use Rattle.fork_reach.proofs.KeptObjects.{at_key, kept_all, tied_names}
use Rattle.fork_reach.specs.Reach.{links_of_found}
use Rattle.fork_push.specs.Push.{links_under, same_kind, has_kind, is_wrong}
use Rattle.fork_model.specs.Sound.{AreRight, IsClosed, IsMet}

-- what holds of all elements of a list holds of those of its front and of its rest
front_of : {A : Type 0} (P : A → Type 0) (xs ys : List A) → AllByRecursion P (xs ++ ys) → AllByRecursion P xs
front_of P [] ys all = tt
front_of P (x ∷ xs) ys all = (all.0, front_of P xs ys all.1)

rest_of : {A : Type 0} (P : A → Type 0) (xs ys : List A) → AllByRecursion P (xs ++ ys) → AllByRecursion P ys
rest_of P [] ys all = all
rest_of P (x ∷ xs) ys all = rest_of P xs ys all.1

-- and what holds of all elements of both holds of all elements of the list
pub joined : {A : Type 0} (P : A → Type 0) (xs ys : List A) → AllByRecursion P xs → AllByRecursion P ys → AllByRecursion P (xs ++ ys)
joined P [] ys front rest = rest
joined P (x ∷ xs) ys front rest = (front.0, joined P xs ys front.1 rest)

-- and of each element
pub each_of : {A : Type 0} (P : A → Type 0) (xs : List A) (x : A) → AllByRecursion P xs → Contains xs x → P x
each_of P [] x all at = absurd (omega arith)
each_of P (first ∷ xs) x all (zero, few, is) = subst P is all.0
each_of P (first ∷ xs) x all (suc k, few, is) = each_of P xs x all.1 (k, omega arith, is)

-- and so does a weaker fact
pub each_weaker : {A : Type 0} (P Q : A → Type 0) (xs : List A) → ((x : A) → P x → Q x) → AllByRecursion P xs → AllByRecursion Q xs
each_weaker P Q [] weaker all = tt
each_weaker P Q (x ∷ xs) weaker all = (weaker x all.0, each_weaker P Q xs weaker all.1)

-- an object that is found once another was added was there before, or is under the name of the added one
pub of_one : (objects : Objects) (more : Object) (name : List ℕ) (object : Object) → get (with_object objects more) name ≡ Some object
    → (get objects name ≡ Some object) ⊎ ((object_name more ≡ name) × (more ≡ object))
of_one objects more name object = by (contains_key objects (object_name more))
  where
    by : (b : Bool) → get (cond b objects (insert objects (object_name more) more)) name ≡ Some object → (get objects name ≡ Some object) ⊎ ((object_name more ≡ name) × (more ≡ object))
    by true is = inl is
    by false is =
        elim (at_key (eq_by_cmp name_cmp name (object_name more)) more object (get objects name) (sym (get-insert name_total objects (object_name more) more name) ∙ is)) [
          | inl here ↦ inr (sym (tied_names name (object_name more) here.0), here.1)
          | inr there ↦ inl there
        ]

-- after several objects are added: what holds of all their names holds of this name
pub of_both : (Q : List ℕ → Type 0) (objects : Objects) (sent : List Object) (name : List ℕ) (object : Object) → AllByRecursion Q (map object_name sent)
    → get (with_objects objects sent) name ≡ Some object → (get objects name ≡ Some object) ⊎ Q name
of_both Q objects [] name object all is = inl is
of_both Q objects (more ∷ sent) name object all is =
    elim (of_both Q (with_object objects more) sent name object all.1 is) [
      | inl before ↦ elim (of_one objects more name object before) [
        | inl there ↦ inl there
        | inr came ↦ inr (subst Q came.0 all.0)
      ]
      | inr named ↦ inr named
    ]

-- and what holds of each object that was there and of each that was added holds of all
pub each_of_both : (P : Object → Type 0) (objects : Objects) (sent : List Object)
    → ((name : List ℕ) (object : Object) → get objects name ≡ Some object → P object) → AllByRecursion P sent
    → (name : List ℕ) (object : Object) → get (with_objects objects sent) name ≡ Some object → P object
each_of_both P objects [] there all name object is = there name object is
each_of_both P objects (more ∷ sent) there all name object is = each_of_both P (with_object objects more) sent with_more all.1 name object is
  where
    with_more : (name : List ℕ) (object : Object) → get (with_object objects more) name ≡ Some object → P object
    with_more name object is =
        elim (of_one objects more name object is) [
          | inl before ↦ there name object before
          | inr came ↦ subst P came.1 all.0
        ]

-- objects in their grammars, added to others
pub right_both : (objects : Objects) (sent : List Object) → AreRight objects → AreObjects sent → AreRight (with_objects objects sent)
right_both objects sent right are = each_of_both (λ object. object_in object.kind object.bytes ≢ None) objects sent right are

equal_kinds : (kind found : Kind) → same_kind kind found ≡ true → found ≡ kind
equal_kinds Blob Blob is = refl
equal_kinds Tree Tree is = refl
equal_kinds Commit Commit is = refl
equal_kinds Tag Tag is = refl
equal_kinds Blob Tree is = absurd (cc)
equal_kinds Blob Commit is = absurd (cc)
equal_kinds Blob Tag is = absurd (cc)
equal_kinds Tree Blob is = absurd (cc)
equal_kinds Tree Commit is = absurd (cc)
equal_kinds Tree Tag is = absurd (cc)
equal_kinds Commit Blob is = absurd (cc)
equal_kinds Commit Tree is = absurd (cc)
equal_kinds Commit Tag is = absurd (cc)
equal_kinds Tag Blob is = absurd (cc)
equal_kinds Tag Tree is = absurd (cc)
equal_kinds Tag Commit is = absurd (cc)

kind_found : (kind : Kind) (found : Option Kind) → has_kind kind found ≡ true → found ≡ Some kind
kind_found kind (Some found) is = ap (λ k. Some k) (equal_kinds kind found is)
kind_found kind None is = absurd (cc)

not_false : (b : Bool) → not b ≡ false → b ≡ true
not_false true is = refl
not_false false is = absurd (cc)

-- if no link is wrong, each is met
pub all_met : (both : Objects) (links : List Link) → find (is_wrong both) links ≡ None → AllByRecursion (IsMet both) links
all_met both [] none = tt
all_met both (link ∷ links) none = by (is_wrong both link) refl none (λ others. all_met both links others)
  where
    by : (b : Bool) → is_wrong both link ≡ b → cond b (Some link) (find (is_wrong both) links) ≡ None
        → (find (is_wrong both) links ≡ None → AllByRecursion (IsMet both) links) → AllByRecursion (IsMet both) (link ∷ links)
    by true wrong is rest = absurd (cc)
    by false right is rest = (kind_found link.kind (kind_in both link.name) (not_false (has_kind link.kind (kind_in both link.name)) right), rest is)

-- name by name
by_name : (both : Objects) (names : List (List ℕ)) → AllByRecursion (IsMet both) (links_under both names) → AllByRecursion (λ name. AllByRecursion (IsMet both) (links_of_found (get both name))) names
by_name both [] all = tt
by_name both (name ∷ names) all =
    (front_of (IsMet both) (links_of_found (get both name)) (links_under both names) all, by_name both names (rest_of (IsMet both) (links_of_found (get both name)) (links_under both names) all))

kind_there : (o : Option Object) (kind : Kind) → option_map (λ object. object.kind) o ≡ Some kind → is_some o ≡ true
kind_there None kind is = absurd (cc)
kind_there (Some object) kind is = refl

-- a link that is met stays met when objects are added
met_still : (objects : Objects) (sent : List Object) (link : Link) → IsMet objects link → IsMet (with_objects objects sent) link
met_still objects sent link met = ap (λ o. option_map (λ object. object.kind) o) (kept_all objects sent link.name (kind_there (get objects link.name) link.kind met)) ∙ met

-- objects whose links are met, added to closed ones
pub closed_both : (objects : Objects) (sent : List Object) → IsClosed objects
    → find (is_wrong (with_objects objects sent)) (links_under (with_objects objects sent) (map object_name sent)) ≡ None → IsClosed (with_objects objects sent)
closed_both objects sent closed none name object is =
    let both = with_objects objects sent in
    let met = by_name both (map object_name sent) (all_met both (links_under both (map object_name sent)) none) in
    elim (of_both (λ name. AllByRecursion (IsMet both) (links_of_found (get both name))) objects sent name object met is) [
      | inl before ↦ each_weaker (IsMet objects) (IsMet both) (links_in object.kind object.bytes) (met_still objects sent) (closed name object before)
      | inr sent_now ↦ subst (λ o. AllByRecursion (IsMet both) (links_of_found o)) is sent_now
    ]
