-- The keys of a finite map ascend, and its entries are known but for their order.
use Rattle.std.proofs.Common.{◌≡◌, ℕ, false, cond, List, [], ◌∷◌, None, Some, refl, sym, ap, subst, ◌∙◌, arith}
use Rattle.std.specs.declared.cmp.Ordering.{Ordering}
use Rattle.std.specs.declared.cmp.Ordering.TheVariants.{Less, Equal, Greater}
use Rattle.std.specs.Ordering.{is_eq}
use Rattle.std.specs.List.{AllByRecursion, IsDistinct}
use Rattle.std.specs.List.Sorted.{IsPermutation, IsStrictlySortedBy}
use Rattle.std.specs.Map.{keys_of}
use Rattle.std.specs.FinMap.{FinMap, entries, entries-insert, find, from_entries, get-entries, get-from_entries, keys, put}
use Rattle.std.specs.FinMap.Entries.{by_order}
use Rattle.std.proofs.lemmas.List.Sorted.{IsPermutation-cons, IsPermutation-refl, IsPermutation-swap, IsPermutation-sym, IsPermutation-trans}
use Rattle.std.proofs.lemmas.Map.Keys.{IsDistinct-head, IsDistinct-tail}
use Rattle.git_name.specs.Name.{name_cmp}
use Rattle.git_name.specs.Same.{same_name}
use Rattle.git_name.proofs.HashMaps.{one_test}
use Rattle.git_name.proofs.Names.{name_total}
use Rattle.git_name.proofs.SortedNames.{sorted_entries}
use Rattle.git_name.proofs.TreeMaps.{entries_of_ordered}

-- keys ascend
pub keys_ascend : {X : Type 0} (values : FinMap name_cmp X) → IsStrictlySortedBy name_cmp (keys values)
keys_ascend values = sorted_entries values

sorted_none : IsStrictlySortedBy name_cmp []
unfolding IsStrictlySortedBy
sorted_none = tt

put_moves : {X : Type 0} (k : List ℕ) (v : X) (es : List (List ℕ × X)) → find name_cmp k es ≡ None → IsPermutation ((k, v) ∷ es) (put name_cmp k v es)
put_moves k v [] absent = IsPermutation-refl ((k, v) ∷ [])
put_moves {X} k v (e ∷ es) absent = by (name_cmp k e.0) absent (put_moves k v es)
  where
    by : (order : Ordering) → cond (is_eq order) (Some e.1) (find name_cmp k es) ≡ None → (find name_cmp k es ≡ None → IsPermutation ((k, v) ∷ es) (put name_cmp k v es))
        → IsPermutation ((k, v) ∷ e ∷ es) (by_order order ((k, v) ∷ e ∷ es) ((e.0, v) ∷ es) (e ∷ put name_cmp k v es))
    by Less absent rest = IsPermutation-refl ((k, v) ∷ e ∷ es)
    by Equal absent rest = absurd (cc)
    by Greater absent rest = IsPermutation-trans _ _ _ (IsPermutation-swap ((k, v) ∷ e ∷ es) (e ∷ (k, v) ∷ es) 0 1 (omega arith) (omega arith) refl) (IsPermutation-cons e _ _ (rest absent))

lacks : {X : Type 0} (k : List ℕ) (es : List (List ℕ × X)) → AllByRecursion (λ name. same_name k name ≡ false) (keys_of es) → find name_cmp k es ≡ None
lacks k [] apart = refl
lacks k (e ∷ es) apart = ap (λ b. cond b (Some e.1) (find name_cmp k es)) (sym (one_test k e.0) ∙ apart.0) ∙ lacks k es apart.1

-- entries of which no two have one name are those of their map, in some order
pub entries_reordered : {X : Type 0} (es : List (List ℕ × X)) → IsDistinct same_name (keys_of es) → IsPermutation (entries (from_entries {R = name_cmp} es)) es
entries_reordered [] distinct = subst (λ none. IsPermutation none []) (sym (entries_of_ordered name_total [] sorted_none)) (IsPermutation-refl [])
entries_reordered (e ∷ es) distinct =
    let others = from_entries {R = name_cmp} es in
    let absent = sym (get-entries others e.0) ∙ get-from_entries name_total es e.0 ∙ lacks e.0 es (IsDistinct-head same_name e.0 (keys_of es) distinct) in
    IsPermutation-trans _ _ _ (subst (λ all. IsPermutation all (e ∷ entries others)) (sym (entries-insert name_total others e.0 e.1)) (IsPermutation-sym _ _ (put_moves e.0 e.1 (entries others) absent)))
    (IsPermutation-cons e _ _ (entries_reordered es (IsDistinct-tail same_name e.0 (keys_of es) distinct)))
