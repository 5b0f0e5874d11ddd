-- If the kept objects include all that their links lead to, they are as right as all objects were.
use Rattle.std.proofs.Common.{◌≡◌, ℕ, ◌+◌, ◌≤◌, Bool, true, false, cond, List, [], ◌∷◌, ◌++◌, Option, Some, None, refl, sym, ap, subst, ◌∙◌, arith, is_some, zero, suc}
use Rattle.std.specs.Prelude.{map, sum_by, Contains}
use Rattle.std.specs.List.{AllByRecursion, filter, flat_map}
use Rattle.std.specs.Option.{option_map}
use Rattle.std.specs.Ordering.{eq_by_cmp}
use Rattle.std.specs.declared.cmp.Ordering.{Ordering}
use Rattle.std.specs.declared.cmp.Ordering.TheVariants.{Equal}
use Rattle.std.specs.FinMap.{find, get, get-entries, get-retain_keys, get-from_sorted, entries-from_sorted, entries_sorted, from_sorted, same_map, retain_keys, contains_key, entries, values}
use Rattle.std.specs.FinMap.Entries.{find-where_key, is_sorted-where_key}
use Rattle.std.proofs.lemmas.List.Sums.{sum_by-cons}
use Rattle.git_name.specs.Name.{name_cmp}
use Rattle.git_name.specs.Object.{Object}
use Rattle.git_name.proofs.Names.{name_exact, name_total}
use Rattle.git_object.specs.declared.link.Link.{Link}
use Rattle.git_object.specs.ObjectIn.{links_in}
use Rattle.git_reftx.specs.Repository.{Repository}
use Rattle.git_reftx.specs.Transaction.{References, is_commit}
use Rattle.fork_reach.specs.Objects.{IsNamed, use_of, use_of_object}
use Rattle.fork_reach.specs.Reach.{linked_names, links_of_found}
use Rattle.fork_reach.specs.Source.{Objects}
use Rattle.fork_model.specs.Answer.{roots_of, targets_made, targets_of}
use Rattle.fork_model.specs.Offer.{Offer, Offers, Pair, pair_cmp}
use Rattle.fork_model.specs.Sound.{AreReferences, AreRight, IsClosed, IsMet}
use Rattle.fork_model.specs.View.{Repositories, View}

-- a look-up among the objects whose names pass a test
pub kept_at : (objects : Objects) (kept : List ℕ → Bool) (name : List ℕ) → get (retain_keys objects kept) name ≡ cond (kept name) (get objects name) None
kept_at objects kept name = get-retain_keys objects kept name (λ other same. ap kept (sym (name_exact name other same)))

pub stays_at : (objects : Objects) (kept : List ℕ → Bool) (name : List ℕ) → kept name ≡ true → get (retain_keys objects kept) name ≡ get objects name
stays_at objects kept name is = kept_at objects kept name ∙ ap (λ b. cond b (get objects name) None) is

passed : {X : Type 0} (b : Bool) (o : Option X) (x : X) → cond b o None ≡ Some x → (b ≡ true) × (o ≡ Some x)
passed true o x is = (refl, is)
passed false o x is = absurd (cc)

pub found_kept : (objects : Objects) (kept : List ℕ → Bool) (name : List ℕ) (object : Object) → get (retain_keys objects kept) name ≡ Some object → (kept name ≡ true) × (get objects name ≡ Some object)
found_kept objects kept name object is = passed (kept name) (get objects name) object (sym (kept_at objects kept name) ∙ is)

pub named_kept : (objects : Objects) (kept : List ℕ → Bool) → IsNamed objects → IsNamed (retain_keys objects kept)
named_kept objects kept named name object is = named name object (found_kept objects kept name object is).1

pub right_kept : (objects : Objects) (kept : List ℕ → Bool) → AreRight objects → AreRight (retain_keys objects kept)
right_kept objects kept right name object is = right name object (found_kept objects kept name object is).1

-- the head of a list is in it
pub here : {A : Type 0} (x : A) (xs : List A) → Contains (x ∷ xs) x
here x xs = (0, omega arith, refl)

pub there : {A : Type 0} (x y : A) (xs : List A) → Contains xs y → Contains (x ∷ xs) y
there x y xs (k, few, is) = (suc k, omega arith, is)

pub in_front : {A : Type 0} (x : A) (xs ys : List A) → Contains xs x → Contains (xs ++ ys) x
in_front x [] ys at = absurd (omega arith)
in_front x (y ∷ xs) ys (zero, few, is) = (0, omega arith, is)
in_front x (y ∷ xs) ys (suc k, few, is) = there y x (xs ++ ys) (in_front x xs ys (k, omega arith, is))

pub behind : {A : Type 0} (x : A) (xs ys : List A) → Contains ys x → Contains (xs ++ ys) x
behind x [] ys at = at
behind x (y ∷ xs) ys at = there y x (xs ++ ys) (behind x xs ys at)

-- what is found is among the values
pub found_value : {K X : Type 0} (R : K → K → Ordering) (q : K) (x : X) (es : List (K × X)) → find R q es ≡ Some x → Contains (map (λ e. e.1) es) x
found_value R q x [] is = absurd (cc)
found_value R q x (e ∷ es) is = by (eq_by_cmp R q e.0) is (found_value R q x es)
  where
    by : (b : Bool) → cond b (Some e.1) (find R q es) ≡ Some x → (find R q es ≡ Some x → Contains (map (λ f. f.1) es) x) → Contains (map (λ f. f.1) (e ∷ es)) x
    by true same rest = subst (λ y. Contains (e.1 ∷ map (λ f. f.1) es) y) (cc) (here e.1 (map (λ f. f.1) es))
    by false is_there rest = there e.1 x (map (λ f. f.1) es) (rest is_there)

pub among : {A B : Type 0} (f : A → List B) (x : A) (y : B) (xs : List A) → Contains xs x → Contains (f x) y → Contains (flat_map f xs) y
among f x y [] at is = absurd (omega arith)
among f x y (z ∷ xs) (zero, few, same) is = in_front y (f z) (flat_map f xs) (subst (λ w. Contains (f w) y) (sym same) is)
among f x y (z ∷ xs) (suc k, few, same) is = behind y (f z) (flat_map f xs) (among f x y xs (k, omega arith, same) is)

-- the target of a repository's reference is among the targets
pub target_among : (repositories : Repositories) (word : List ℕ) (repository : Repository) (reference target : List ℕ)
    → get repositories word ≡ Some repository → get repository.references reference ≡ Some target → Contains (targets_of repositories) target
target_among repositories word repository reference target there_is points =
    among (λ (r : Repository). values {X = List ℕ} {R = name_cmp} r.references) repository target (values repositories)
    (found_value name_cmp word repository (entries repositories) (sym (get-entries repositories word) ∙ there_is))
    (found_value name_cmp reference target (entries repository.references) (sym (get-entries repository.references reference) ∙ points))

-- and so is the target of an offer's reference
pub target_made : (made : Offers) (key : Pair) (offer : Offer) (reference target : List ℕ)
    → get made key ≡ Some offer → get offer.repository.references reference ≡ Some target → Contains (targets_made made) target
target_made made key offer reference target there_is points =
    among (λ (o : Offer). values {X = List ℕ} {R = name_cmp} o.repository.references) offer target (values made)
    (found_value pair_cmp key offer (entries made) (sym (get-entries made key) ∙ there_is))
    (found_value name_cmp reference target (entries offer.repository.references) (sym (get-entries offer.repository.references reference) ∙ points))

-- both are among the roots
pub target_rooted : (view : View) (word : List ℕ) (repository : Repository) (reference target : List ℕ)
    → get view.repositories word ≡ Some repository → get repository.references reference ≡ Some target → Contains (roots_of view) target
target_rooted view word repository reference target there_is points = in_front target (targets_of view.repositories) (targets_made view.made) (target_among view.repositories word repository reference target there_is points)

pub offer_rooted : (view : View) (key : Pair) (offer : Offer) (reference target : List ℕ)
    → get view.made key ≡ Some offer → get offer.repository.references reference ≡ Some target → Contains (roots_of view) target
offer_rooted view key offer reference target there_is points = behind target (targets_of view.repositories) (targets_made view.made) (target_made view.made key offer reference target there_is points)

pub kind_there : (o : Option Object) (kind : _) → option_map (λ object. object.kind) o ≡ Some kind → is_some o ≡ true
kind_there None kind is = absurd (cc)
kind_there (Some object) kind is = refl

-- what a met link names exists
pub there_by_link : (objects : Objects) (links : List Link) (name : List ℕ) → AllByRecursion (IsMet objects) links → Contains (map (λ link. link.name) links) name → contains_key objects name ≡ true
there_by_link objects [] name met at = absurd (omega arith)
there_by_link objects (link ∷ links) name met (zero, few, is) = subst (λ n. contains_key objects n ≡ true) is (kind_there (get objects link.name) link.kind met.0)
there_by_link objects (link ∷ links) name met (suc k, few, is) = there_by_link objects links name met.1 (k, omega arith, is)

-- links that are met stay met if what they name is found as before
pub met_alike : (objects others : Objects) (links : List Link)
    → ((name : List ℕ) → Contains (map (λ link. link.name) links) name → contains_key objects name ≡ true → get others name ≡ get objects name)
    → AllByRecursion (IsMet objects) links → AllByRecursion (IsMet others) links
met_alike objects others [] alike all = tt
met_alike objects others (link ∷ links) alike all =
    let same = alike link.name (here link.name (map (λ l. l.name) links)) (kind_there (get objects link.name) link.kind all.0) in (
      ap (λ o. option_map (λ object. object.kind) o) same ∙ all.0,
      met_alike objects others links (λ name at. alike name (there link.name name (map (λ l. l.name) links) at)) all.1,
    )

-- objects stay closed if links lead from what is kept to what is kept
pub closed_kept : (objects : Objects) (kept : List ℕ → Bool)
    → ((from name : List ℕ) → kept from ≡ true → Contains (linked_names objects from) name → contains_key objects name ≡ true → kept name ≡ true)
    → IsClosed objects → IsClosed (retain_keys objects kept)
closed_kept objects kept leads closed name object is =
    let found = found_kept objects kept name object is in
    met_alike objects (retain_keys objects kept) (links_in object.kind object.bytes)
    (λ other at is_there. stays_at objects kept other (leads name other found.0 (subst (λ o. Contains (map (λ link. link.name) (links_of_found o)) other) (sym found.1) at) is_there))
    (closed name object found.1)

-- references stay valid if their targets are kept
pub references_right : (objects : Objects) (kept : List ℕ → Bool) (references : References)
    → ((reference target : List ℕ) → get references reference ≡ Some target → contains_key objects target ≡ true → kept target ≡ true)
    → AreReferences objects references → AreReferences (retain_keys objects kept) references
references_right objects kept references leads right = record {
  each = λ reference target is.
      let at = right.each reference target is in
      let stays = stays_at objects kept target (leads reference target is at.there) in
      record {
        named = at.named;
        there = ap is_some stays ∙ at.there;
        commit = λ branch. ap (λ o. is_commit (option_map (λ object. object.kind) o)) stays ∙ at.commit branch;
      };
  apart = right.apart;
  few = right.few;
}

abbrev use_in : List (List ℕ × Object) → ℕ
use_in es = sum_by use_of_object (map (λ e. e.1) es)

use_in-cons : (e : List ℕ × Object) (es : List (List ℕ × Object)) → use_in (e ∷ es) ≡ use_of_object e.1 + use_in es
use_in-cons e es = sum_by-cons use_of_object e.1 (map (λ f. f.1) es)

use_in-kept : (kept : List ℕ → Bool) (es : List (List ℕ × Object)) → use_in (filter (λ e. kept e.0) es) ≤ use_in es
use_in-kept kept [] = omega arith
use_in-kept kept (e ∷ es) = by (kept e.0) (use_in-kept kept es)
  where
    by : (b : Bool) → use_in (filter (λ f. kept f.0) es) ≤ use_in es → use_in (cond b (e ∷ filter (λ f. kept f.0) es) (filter (λ f. kept f.0) es)) ≤ use_in (e ∷ es)
    by true rest = (let one = use_in-cons e (filter (λ f. kept f.0) es) in let all = use_in-cons e es in omega arith)
    by false rest = (let all = use_in-cons e es in omega arith)

-- the entries that are kept, in their order
entries_kept : (objects : Objects) (kept : List ℕ → Bool) → entries (retain_keys objects kept) ≡ filter (λ e. kept e.0) (entries objects)
entries_kept objects kept =
    let left = filter (λ e. kept e.0) (entries objects) in
    let alike : (q x : List ℕ) → name_cmp q x ≡ Equal → kept x ≡ kept q = λ q x same. ap kept (sym (name_exact q x same)) in
    let sorted = is_sorted-where_key name_cmp kept (entries objects) (entries_sorted objects) in
    ap entries (same_map name_total name_exact (retain_keys objects kept) (from_sorted left) (λ q.
    kept_at objects kept q ∙ ap (λ o. cond (kept q) o None) (get-entries objects q) ∙ sym (find-where_key name_cmp kept q (alike q) (entries objects)) ∙ sym (get-from_sorted name_cmp left q sorted)))
    ∙ entries-from_sorted name_cmp left sorted

-- what is kept uses no more
pub use_of-kept : (objects : Objects) (kept : List ℕ → Bool) → use_of (retain_keys objects kept) ≤ use_of objects
unfolding use_of
use_of-kept objects kept = subst (λ es. use_in es ≤ use_in (entries objects)) (sym (entries_kept objects kept)) (use_in-kept kept (entries objects))

-- what is kept uses as much only if all is kept, since each object uses something
use_in-all : (kept : List ℕ → Bool) (es : List (List ℕ × Object)) → use_in (filter (λ e. kept e.0) es) ≡ use_in es → filter (λ e. kept e.0) es ≡ es
use_in-all kept [] same = refl
use_in-all kept (e ∷ es) same = by (kept e.0) refl (use_in-all kept es)
  where
    by : (b : Bool) → kept e.0 ≡ b → (use_in (filter (λ f. kept f.0) es) ≡ use_in es → filter (λ f. kept f.0) es ≡ es) → filter (λ f. kept f.0) (e ∷ es) ≡ e ∷ es
    by true is rest =
        let left = filter (λ f. kept f.0) es in
        let first = ap (λ c. cond c (e ∷ left) left) is in
        let more : use_in left ≡ use_in es = (let one = use_in-cons e left in let all = use_in-cons e es in let here = sym (ap use_in first) ∙ same in omega (arith, one, all, here)) in
        first ∙ ap (λ fs. e ∷ fs) (rest more)
    by false is rest =
        let left = filter (λ f. kept f.0) es in
        let first = ap (λ c. cond c (e ∷ left) left) is in
        let no : ⊥ = (let all = use_in-cons e es in let here = sym (ap use_in first) ∙ same in let less = use_in-kept kept es in omega (arith, all, here, less)) in
        absurd no

pub all_kept : (objects : Objects) (kept : List ℕ → Bool) → use_of (retain_keys objects kept) ≡ use_of objects → retain_keys objects kept ≡ objects
unfolding use_of
all_kept objects kept same =
    let listed = entries_kept objects kept in
    let all = use_in-all kept (entries objects) (sym (ap use_in listed) ∙ same) in
    same_map name_total name_exact (retain_keys objects kept) objects (λ q. get-entries (retain_keys objects kept) q ∙ ap (find name_cmp q) (listed ∙ all) ∙ sym (get-entries objects q))
