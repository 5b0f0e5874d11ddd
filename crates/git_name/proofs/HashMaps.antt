-- A hash map whose keys are names, seen as the finite map of its entries.
use Rattle.std.proofs.Common.{◌≡◌, ℕ, Bool, true, false, cond, List, [], ◌∷◌, Option, Some, None, refl, sym, ap, subst, ◌∙◌}
use Rattle.std.specs.Cmp.{eq_by_cmp_equiv}
use Rattle.std.specs.declared.cmp.Ordering.{Ordering}
use Rattle.std.specs.declared.cmp.Ordering.TheVariants.{Less, Equal, Greater}
use Rattle.std.specs.Ordering.{is_eq}
use Rattle.std.specs.BTreeMap.{is_at}
use Rattle.std.specs.List.{AllByRecursion, IsDistinct}
use Rattle.std.specs.Map.{lookup}
use Rattle.std.specs.FinMap.{from_entries, get, insert, remove}
use Rattle.std.proofs.lemmas.Bool.Decides.{Decides-eqb}
use Rattle.std.proofs.lemmas.Slice.Eq.{slice_eq-Decides}
use Rattle.std.proofs.lemmas.Cmp.{nat_list_eq_equiv}
use Rattle.git_name.specs.Name.{name_cmp}
use Rattle.git_name.specs.Same.{Sets, same_name}
use Rattle.git_name.proofs.Names.{name_total, name_exact}
use Rattle.git_name.proofs.TreeMaps.{entries_after_insert, entries_after_remove, get_of_entries}

pub one_name : (x y : List ℕ) → same_name x y ≡ true → x ≡ y
one_name x y e = (slice_eq-Decides Decides-eqb x y (same_name x y) refl).0 e

same_bool : (b c : Bool) → (b ≡ true → c ≡ true) → (c ≡ true → b ≡ true) → b ≡ c
same_bool true c f g = sym (f refl)
same_bool false true f g = g refl
same_bool false false f g = refl

is_equal : (o : Ordering) → is_eq o ≡ true → o ≡ Equal
is_equal Less e = cc
is_equal Equal e = refl
is_equal Greater e = cc

-- the two tests of names agree
pub one_test : (q k : List ℕ) → same_name q k ≡ is_at (name_cmp q) k
one_test q k = same_bool _ _
    (λ e. subst (λ x. is_at (name_cmp q) x ≡ true) (one_name q k e) ((eq_by_cmp_equiv name_total).refl q))
    (λ e. subst (λ x. same_name q x ≡ true) (name_exact q k (is_equal (name_cmp q k) e)) (nat_list_eq_equiv.refl q))

pub lookup_alike : {X : Type 0} (es : List (List ℕ × X)) (q : List ℕ) → lookup (same_name q) es ≡ lookup (is_at (name_cmp q)) es
lookup_alike [] q = refl
lookup_alike (e ∷ es) q = ap (λ b. cond b (Some e.1) (lookup (same_name q) es)) (one_test q e.0) ∙ ap (cond (is_at (name_cmp q) e.0) (Some e.1)) (lookup_alike es q)

-- what the finite map of the entries has at a name
pub get_of_hashed : {X : Type 0} (es : List (List ℕ × X)) (q : List ℕ) → get (from_entries {R = name_cmp} es) q ≡ lookup (same_name q) es
get_of_hashed es q = get_of_entries name_total es q ∙ sym (lookup_alike es q)

-- what is set by the one test is set by the other
pub sets_by_test : {X : Type 0} (es fs : List (List ℕ × X)) (k : List ℕ) (v : Option X) → ((q : List ℕ) → lookup (same_name q) fs ≡ cond (same_name k q) v (lookup (same_name q) es)) → Sets es fs k v
sets_by_test es fs k v at q = sym (lookup_alike fs q) ∙ at q ∙ ap (λ b. cond b v (lookup (same_name q) es)) (one_test k q) ∙ ap (cond (is_at (name_cmp k) q) v) (lookup_alike es q)

pub hashed_after_insert : {X : Type 0} (es fs : List (List ℕ × X)) (k : List ℕ) (v : X) → ((q : List ℕ) → lookup (same_name q) fs ≡ cond (same_name k q) (Some v) (lookup (same_name q) es))
    → from_entries {R = name_cmp} fs ≡ insert (from_entries es) k v
hashed_after_insert es fs k v at = entries_after_insert name_total name_exact es fs k v (sets_by_test es fs k (Some v) at)

pub hashed_after_remove : {X : Type 0} (es fs : List (List ℕ × X)) (k : List ℕ) → ((q : List ℕ) → lookup (same_name q) fs ≡ cond (same_name k q) None (lookup (same_name q) es))
    → from_entries {R = name_cmp} fs ≡ remove (from_entries es) k
hashed_after_remove es fs k at = entries_after_remove name_total name_exact es fs k (sets_by_test es fs k None at)

none_tied : (k : List ℕ) (ks : List (List ℕ)) → AllByRecursion (λ y. same_name k y ≡ false) ks → AllByRecursion (λ y. is_at (name_cmp k) y ≡ false) ks
none_tied k [] all = tt
none_tied k (y ∷ ys) all = (sym (one_test k y) ∙ all.0, none_tied k ys all.1)

-- names that differ by the one test differ by the other
pub distinct_by_order : (ks : List (List ℕ)) → IsDistinct same_name ks → IsDistinct (λ q k. is_at (name_cmp q) k) ks
unfolding IsDistinct
distinct_by_order [] all = tt
distinct_by_order (k ∷ ks) all = (none_tied k ks all.0, distinct_by_order ks all.1)
