-- Entries of a cache.
use Rattle.std.proofs.Common.{◌≡◌, ◌≢◌, ◌≤◌, ◌⊎◌, inl, inr, ℕ, length, zero, suc, List, [], ◌∷◌, Bool, true, false, cond, Contains, Option, Some, None, Result, Ok, Err, refl, sym, ap, subst, ◌∙◌, arith}
use Rattle.std.specs.Result.{OnOk, OnErr}
use Rattle.read_cache.specs.Cached.{AreFit}
use Rattle.std.specs.List.{IsDistinct, AllByRecursion}
use Rattle.std.specs.Map.{keys_of, lookup, remove_entry}
use Rattle.std.specs.Prelude.{IfSome}
use Rattle.std.proofs.lemmas.Map.Keys.{IsDistinct-head, IsDistinct-tail}
use Rattle.std.proofs.lemmas.Cmp.{nat_list_eq_equiv}
use Rattle.lru.specs.LruCache.{LruCache, put_entries}
use Rattle.lru.proofs.CallerLemmas.{Contains-lookup, Contains-put_entries}
use Rattle.std.proofs.lemmas.Bool.Decides.{Decides-eqb}
use Rattle.std.proofs.lemmas.Slice.Eq.{slice_eq-Decides}
use Rattle.git_name.specs.Object.{Object, object_name}
use Rattle.git_name.specs.Same.{same_name}

one_name : (x y : List ℕ) → same_name x y ≡ true → x ≡ y
one_name x y e = (slice_eq-Decides Decides-eqb x y (same_name x y) refl).0 e

-- a look-up finds only what is cached, under exactly this name
pub found_there : (es : List (List ℕ × Object)) (name : List ℕ) (o : Option Object) → o ≡ lookup (same_name name) es → IfSome o (λ object. Contains es (name, object))
found_there es name None e = tt
found_there es name (Some object) e =
    let f = Contains-lookup (same_name name) es object (sym e) in subst (λ k. Contains es (k, object)) (sym (one_name name f.0 f.2)) f.1

pub put_there : (c : LruCache (List ℕ) Object) (object : Object) (n : List ℕ) (o : Object) → Contains (put_entries same_name c (object_name object) object) (n, o) → Contains c.entries (n, o) ⊎ ((n ≡ object_name object) × (o ≡ object))
put_there c object n o there = by (Contains-put_entries same_name c (object_name object) object (n, o) there)
  where
    by : Contains c.entries (n, o) ⊎ ((o ≡ object) × ((n ≡ object_name object) ⊎ ((w : Object) × Contains c.entries (n, w) × (same_name (object_name object) n ≡ true))))
        → Contains c.entries (n, o) ⊎ ((n ≡ object_name object) × (o ≡ object))
    by (inl was) = inl was
    by (inr (is, inl key)) = inr (key, is)
    by (inr (is, inr old)) = inr (sym (one_name (object_name object) n old.2), is)

-- a name that equals no key equals the name of no entry
none_ties : (es : List (List ℕ × Object)) (k n : List ℕ) (o : Object) → AllByRecursion (λ y. same_name k y ≡ false) (keys_of es) → Contains es (n, o) → same_name k n ≡ false
none_ties [] k n o none there = absurd (omega (arith, there.1))
none_ties (e ∷ es) k n o none (zero, within, is) = ap (same_name k) (sym (ap (λ (p : List ℕ × Object). p.0) is)) ∙ none.0
none_ties (e ∷ es) k n o none (suc i, within, is) = none_ties es k n o none.1 (i, omega (arith, within), is)

true_false : (G : Type 0) → true ≡ false → G
true_false G e = let bad : ⊥ = cc in absurd bad

apart_of : (name n : List ℕ) → same_name name n ≡ false → n ≢ name
apart_of name n e is = true_false ⊥ (sym (nat_list_eq_equiv.refl name) ∙ ap (same_name name) (sym is) ∙ e)

pub removed_apart : (es : List (List ℕ × Object)) (name n : List ℕ) (o : Object) → IsDistinct same_name (keys_of es) → Contains (remove_entry (same_name name) es) (n, o) → n ≢ name
removed_apart [] name n o distinct there = absurd (omega (arith, there.1))
removed_apart (e ∷ es) name n o distinct there = by (same_name name e.0) refl there (λ later. removed_apart es name n o (IsDistinct-tail same_name e.0 (keys_of es) distinct) later)
  where
    head : same_name name e.0 ≡ true → Contains es (n, o) → n ≢ name
    head is later = apart_of name n (ap (λ k. same_name k n) (one_name name e.0 is) ∙ none_ties es e.0 n o (IsDistinct-head same_name e.0 (keys_of es) distinct) later)

    by : (b : Bool) → same_name name e.0 ≡ b → Contains (cond b es (e ∷ remove_entry (same_name name) es)) (n, o) → (Contains (remove_entry (same_name name) es) (n, o) → n ≢ name) → n ≢ name
    by true is later rest = head is later
    by false is (zero, within, same) rest = apart_of name n (ap (same_name name) (sym (ap (λ (p : List ℕ × Object). p.0) same)) ∙ is)
    by false is (suc i, within, same) rest = rest (i, omega (arith, within), same)

pub whichever : {T E P Q : Type 0} (G : Type 0) (r : Result T E) → OnOk r P → OnErr r Q → (P → G) → (Q → G) → G
whichever G (Ok x) p q f g = f p
whichever G (Err e) p q f g = g q

pub put_of : (c : LruCache (List ℕ) Object) (es : List (List ℕ × Object)) (object : Object) (n : List ℕ) (o : Object) → (es ≡ c.entries) ⊎ (es ≡ put_entries same_name c (object_name object) object) × (length object.bytes ≤ 65536) → Contains es (n, o)
    → Contains c.entries (n, o) ⊎ ((n ≡ object_name object) × (o ≡ object))
put_of c es object n o (inl same) there = inl (subst (λ l. Contains l (n, o)) same there)
put_of c es object n o (inr (is, small)) there = put_there c object n o (subst (λ l. Contains l (n, o)) is there)

-- a cache stays fit if a small object is put
pub fit_of : (c : LruCache (List ℕ) Object) (es : List (List ℕ × Object)) (object : Object) → (es ≡ c.entries) ⊎ (es ≡ put_entries same_name c (object_name object) object) × (length object.bytes ≤ 65536) → AreFit c.entries → AreFit es
fit_of c es object (inl same) fit n o there = fit n o (subst (λ l. Contains l (n, o)) same there)
fit_of c es object (inr (is, small)) fit n o there = by (put_there c object n o (subst (λ l. Contains l (n, o)) is there))
  where
    by : Contains c.entries (n, o) ⊎ ((n ≡ object_name object) × (o ≡ object)) → (object_name o ≡ n) × (length o.bytes ≤ 65536)
    by (inl was) = fit n o was
    by (inr (key, same)) = (ap object_name same ∙ sym key, subst (λ (x : Object). length x.bytes ≤ 65536) (sym same) small)

pub some_more : {A : Type 0} (P Q : A → Type 0) (o : Option A) → ((x : A) → P x → Q x) → IfSome o P → IfSome o Q
some_more P Q None f h = tt
some_more P Q (Some x) f h = f x h
