-- Objects that are lent, and their records in order.
use Rattle.std.proofs.Common.{◌≡◌, ◌+◌, ◌<◌, ◌++◌, ℕ, List, [], ◌∷◌, length, map, refl, sym, subst, ap, ◌∙◌, slice_index_or, arith}
use Rattle.std.specs.Ordering.{is_lt}
use Rattle.std.specs.List.{AllByRecursion, IsDistinct, flat_map}
use Rattle.std.specs.List.Sorted.{IsPermutation, IsSorted, IsSortedByKey}
use Rattle.std.proofs.lemmas.Cmp.{nat_list_eq_equiv}
use Rattle.std.proofs.lemmas.List.{get_or-map, length-map}
use Rattle.std.proofs.lemmas.List.Elements.{All-from_recursion, recursion_from_All}
use Rattle.std.proofs.lemmas.List.Folds.{flat_map-map}
use Rattle.std.proofs.lemmas.List.Sorted.{All-permutation, IsPermutation-map, list_any-IsPermutation}
use Rattle.std.proofs.lemmas.Map.Keys.{IsDistinct-IsPermutation}
use Rattle.git_name.specs.Name.{name_cmp}
use Rattle.git_name.specs.Same.{same_name}
use Rattle.git_name.proofs.SortedNames.{strictly_sorted}
use Rattle.push_stream.specs.Record.{record_of}
use Rattle.fork_reach.specs.Reach.{is_among}
use Rattle.fork_reach.specs.Source.{SourceState}
use Rattle.fork_query.specs.Fetch.{record_named, record_or_none}
use Rattle.fork_query.specs.declared.lent.Lent.{Lent}
use Rattle.fork_query.specs.Lent.{HasOwnName, IsLent, object_lent, record_lent}
use Rattle.fork_query.specs.Objects.{AreRecords}
use Rattle.fork_query.specs.Sent.{IsSent}

-- each is under its own name
all_named : {Base Rest : Type 0} (state : SourceState Base Rest) (lent : List Lent) → AllByRecursion (IsLent state) lent → AllByRecursion HasOwnName lent
all_named state [] all = tt
all_named state (one ∷ rest) all = (all.0.2, all_named state rest all.1)

-- their records are those of what stands under their names
records_at : {Base Rest : Type 0} (state : SourceState Base Rest) (lent : List Lent) → AllByRecursion (IsLent state) lent → flat_map record_lent lent ≡ flat_map (record_named state.objects) (map (λ one. one.name) lent)
records_at state [] all = refl
records_at state (one ∷ rest) all = ap (λ text. record_lent one ++ text) (records_at state rest all.1) ∙ ap (λ found. record_or_none found ++ flat_map (record_named state.objects) (map (λ o. o.name) rest)) (sym all.0.1)

-- what stands still stands when it is moved
still_lent : {Base Rest : Type 0} (state : SourceState Base Rest) (lent sorted : List Lent) → AllByRecursion (IsLent state) lent → IsPermutation lent sorted → AllByRecursion (IsLent state) sorted
still_lent state lent sorted all moved = recursion_from_All (IsLent state) sorted (All-permutation (IsLent state) lent sorted moved (All-from_recursion (IsLent state) lent all))

-- what is lent is written as records of objects
pub lent_are_records : {Base Rest : Type 0} (state : SourceState Base Rest) (lent sorted : List Lent) (text : List ℕ) → AllByRecursion (IsLent state) lent → IsPermutation lent sorted
    → (AllByRecursion HasOwnName sorted → text ≡ flat_map record_lent sorted) → AreRecords text
lent_are_records state lent sorted text all moved written =
    (map object_lent sorted, written (all_named state sorted (still_lent state lent sorted all moved)) ∙ sym (flat_map-map record_of object_lent sorted))

sorted_names : (lent : List Lent) → IsSortedByKey (λ one. one.name) name_cmp lent → IsSorted name_cmp (map (λ one. one.name) lent)
sorted_names [] up k d low below = absurd (omega arith)
sorted_names (first ∷ rest) up k d low below =
    let all = first ∷ rest in
    let inside : k + 1 < length all = subst (λ n. k + 1 < n) (length-map all (λ one. one.name)) below in
    let names = map (λ (one : Lent). one.name) all in
    let at : (i : ℕ) → i < length all → slice_index_or names i d ≡ (slice_index_or all i first).name = λ i is. get_or-map (λ one. one.name) all i first d is in
    ap (λ n. is_lt (name_cmp n (slice_index_or names k d))) (at (k + 1) inside) ∙ ap (λ n. is_lt (name_cmp (slice_index_or all (k + 1) first).name n)) (at k (omega arith)) ∙ up k first low inside

-- what is lent of distinct names, sorted, is sent
pub lent_is_sent : {Base Rest : Type 0} (state : SourceState Base Rest) (names : List (List ℕ)) (lent sorted : List Lent) (text : List ℕ)
    → map (λ one. one.name) lent ≡ names → IsDistinct same_name names → AllByRecursion (IsLent state) lent → IsPermutation lent sorted → IsSortedByKey (λ one. one.name) name_cmp sorted
    → (AllByRecursion HasOwnName sorted → text ≡ flat_map record_lent sorted) → IsSent state.objects (is_among names) text
lent_is_sent state names lent sorted text are distinct all moved up written =
    let listed = map (λ (one : Lent). one.name) sorted in
    let same : IsPermutation names listed = subst (λ ns. IsPermutation ns listed) are (IsPermutation-map (λ one. one.name) lent sorted moved) in
    let still = still_lent state lent sorted all moved in (
      listed,
      strictly_sorted listed (sorted_names sorted up) (IsDistinct-IsPermutation same_name nat_list_eq_equiv.symm names listed same distinct),
      (λ name. sym (list_any-IsPermutation (same_name name) names listed same)),
      written (all_named state sorted still) ∙ records_at state sorted still,
    )
