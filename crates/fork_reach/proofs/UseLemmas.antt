-- What objects use, as they come one by one.
use Rattle.std.proofs.Common.{◌≡◌, ℕ, ◌+◌, ◌≤◌, Bool, true, false, cond, List, [], ◌∷◌, Option, Some, None, refl, sym, ap, subst, ◌∙◌, arith, is_some, length}
use Rattle.std.specs.Prelude.{sum_by, map}
use Rattle.std.proofs.lemmas.List.Sums.{sum_by-cons}
use Rattle.std.specs.declared.cmp.Ordering.{Ordering}
use Rattle.std.specs.declared.cmp.Ordering.TheVariants.{Less, Equal, Greater}
use Rattle.std.specs.Ordering.{is_eq}
use Rattle.std.specs.FinMap.{find, put, get, get-entries, insert, entries, entries-insert, empty, contains_key, len-entries, len-empty}
use Rattle.std.specs.FinMap.Entries.{by_order}
use Rattle.git_name.specs.Name.{name_cmp}
use Rattle.git_name.specs.Object.{Object, object_name}
use Rattle.git_name.proofs.Names.{name_total}
use Rattle.fork_reach.specs.Source.{Objects}
use Rattle.fork_reach.specs.Objects.{use_of, use_of_object, with_object, with_objects}

abbrev use_in : List (List ℕ × Object) → ℕ
use_in es = sum_by use_of_object (map (λ e. e.1) es)

use_in-cons : (e : List ℕ × Object) (es : List (List ℕ × Object)) → use_in (e ∷ es) ≡ use_of_object e.1 + use_in es
use_in-cons e es = sum_by-cons use_of_object e.1 (map (λ f. f.1) es)

add_last : (a b c d : ℕ) → a ≡ b + c → d + a ≡ d + b + c
add_last a b c d is = omega arith

-- one more entry under a new key
put_at : (k : List ℕ) (o : Object) (e : List ℕ × Object) (es : List (List ℕ × Object)) (r : Ordering) → cond (is_eq r) (Some e.1) (find name_cmp k es) ≡ None → (find name_cmp k es ≡ None → use_in (put name_cmp k o es) ≡ use_in es + use_of_object o)
    → use_in (by_order r ((k, o) ∷ e ∷ es) ((e.0, o) ∷ es) (e ∷ put name_cmp k o es)) ≡ use_in (e ∷ es) + use_of_object o
put_at k o e es Less absent rest = use_in-cons (k, o) (e ∷ es) ∙ swapped (use_of_object o) (use_in (e ∷ es))
  where
    swapped : (a b : ℕ) → a + b ≡ b + a
    swapped a b = omega arith
put_at k o e es Equal absent rest = absurd (cc)
put_at k o e es Greater absent rest =
    use_in-cons e (put name_cmp k o es) ∙ add_last (use_in (put name_cmp k o es)) (use_in es) (use_of_object o) (use_of_object e.1) (rest absent)
    ∙ ap (λ n. n + use_of_object o) (sym (use_in-cons e es))

use_in-put : (k : List ℕ) (o : Object) (es : List (List ℕ × Object)) → find name_cmp k es ≡ None → use_in (put name_cmp k o es) ≡ use_in es + use_of_object o
use_in-put k o [] absent = refl
use_in-put k o (e ∷ es) absent = put_at k o e es (name_cmp k e.0) absent (use_in-put k o es)

-- an object under a new name
pub use_of-insert : (objects : Objects) (name : List ℕ) (object : Object) → get objects name ≡ None → use_of (insert objects name object) ≡ use_of objects + use_of_object object
unfolding use_of
use_of-insert objects name object absent =
    ap use_in (entries-insert name_total objects name object) ∙ use_in-put name object (entries objects) (sym (get-entries objects name) ∙ absent)

none_left : {A : Type 0} (xs : List A) → length xs ≡ 0 → xs ≡ []
none_left [] is = refl
none_left (x ∷ xs) is = absurd (omega arith)

-- no objects
pub use_of-empty : use_of empty ≡ 0
unfolding use_of
use_of-empty = ap use_in (none_left (entries (empty {X = Object} {R = name_cmp})) (sym (len-entries (empty {X = Object} {R = name_cmp})) ∙ len-empty name_cmp Object))

absent_of : (o : Option Object) → is_some o ≡ false → o ≡ None
absent_of None is = refl
absent_of (Some x) is = absurd (cc)

-- an object that is not there
pub use_of-new : (objects : Objects) (object : Object) → contains_key objects (object_name object) ≡ false → use_of (with_object objects object) ≡ use_of objects + use_of_object object
use_of-new objects object absent =
    ap (λ b. use_of (cond b objects (insert objects (object_name object) object))) absent
    ∙ use_of-insert objects (object_name object) object (absent_of (get objects (object_name object)) absent)

grows : (objects : Objects) (object : Object) (b : Bool) → contains_key objects (object_name object) ≡ b → use_of objects ≤ use_of (with_object objects object)
grows objects object true here = subst (λ c. use_of objects ≤ use_of (cond c objects (insert objects (object_name object) object))) (sym here) (omega arith)
grows objects object false here = (let more = use_of-new objects object here in omega arith)

-- objects that come never use less
pub use_of-grows : (objects : Objects) (sent : List Object) → use_of objects ≤ use_of (with_objects objects sent)
use_of-grows objects [] = omega arith
use_of-grows objects (object ∷ sent) =
    let first = grows objects object (contains_key objects (object_name object)) refl in
    let rest = use_of-grows (with_object objects object) sent in
    omega arith

pub with_object-new : (objects : Objects) (object : Object) → contains_key objects (object_name object) ≡ false → with_object objects object ≡ insert objects (object_name object) object
with_object-new objects object absent = ap (λ b. cond b objects (insert objects (object_name object) object)) absent
