-- The dates of a history, sorted.
use Rattle.std.proofs.Common.{◌≡◌, ℕ, zero, suc, ◌+◌, List, [], ◌∷◌, ◌++◌, Some, length, map, refl, slice_get, sym, subst, take, ap, ◌∙◌, false}
use Rattle.std.specs.Cmp.{IsTotalOrder, back_total, on_total, then_total}
use Rattle.std.specs.declared.cmp.Ordering.{Ordering}
use Rattle.std.specs.declared.cmp.Ordering.TheVariants.{Less, Equal, Greater}
use Rattle.std.specs.Ordering.{eq_by_cmp, is_eq, nat_cmp, ordering_then}
use Rattle.std.specs.FinMap.{IsAntisymmetric, entries, nat_cmp-IsAntisymmetric}
use Rattle.std.specs.List.{AllByRecursion, IsDistinct, zip}
use Rattle.std.specs.List.Sorted.{IsPermutation, IsSorted, IsStrictlySortedBy}
use Rattle.std.proofs.lemmas.Cmp.{nat_cmp_total}
use Rattle.std.proofs.lemmas.List.{map-append, take_more}
use Rattle.std.proofs.lemmas.List.Sorted.{IsPermutation-map, IsPermutation-trans}
use Rattle.std.proofs.lemmas.Option.{get_or_from_slice_get, slice_get_within}
use Rattle.git_name.specs.Name.{name_cmp}
use Rattle.git_name.proofs.Names.{name_total, name_exact}
use Rattle.fork_reach.specs.History.{Note, Notes}
use Rattle.fork_reach.proofs.KeyLemmas.{keys_ascend}
use Rattle.fork_query.specs.Dates.{by_date, newest_first, noted_date}
use Rattle.fork_query.specs.declared.dated.Dated.{Dated}
use Rattle.fork_query.proofs.SortLemmas.{sorted_is_put}

date_total : IsTotalOrder by_date
date_total = then_total (back_total (on_total (λ (date : Dated). date.seconds.0) nat_cmp_total)) (on_total (λ (date : Dated). date.name) name_total)

first_equal : (a b : Ordering) → ordering_then a b ≡ Equal → a ≡ Equal
first_equal Less b is = absurd (cc)
first_equal Equal b is = refl
first_equal Greater b is = absurd (cc)

second_equal : (a b : Ordering) → ordering_then a b ≡ Equal → b ≡ Equal
second_equal Less b is = absurd (cc)
second_equal Equal b is = is
second_equal Greater b is = absurd (cc)

date_exact : IsAntisymmetric by_date
date_exact a b is =
    let seconds = nat_cmp-IsAntisymmetric b.seconds.0 a.seconds.0 (first_equal (nat_cmp b.seconds.0 a.seconds.0) (name_cmp a.name b.name) is) in
    let name = name_exact a.name b.name (second_equal (nat_cmp b.seconds.0 a.seconds.0) (name_cmp a.name b.name) is) in
    λ i. record { seconds = record { 0 = sym seconds i }; name = name i }

then_less : (a : Ordering) → is_eq (ordering_then a Less) ≡ false
then_less Less = refl
then_less Equal = refl
then_less Greater = refl

dates_apart : (e : List ℕ × Note) (es : List (List ℕ × Note)) → AllByRecursion (λ name. name_cmp e.0 name ≡ Less) (map (λ f. f.0) es) → AllByRecursion (λ date. eq_by_cmp by_date (noted_date e) date ≡ false) (map noted_date es)
dates_apart e [] below = tt
dates_apart e (f ∷ es) below = (ap (λ order. is_eq (ordering_then (nat_cmp f.1.seconds e.1.seconds) order)) below.0 ∙ then_less (nat_cmp f.1.seconds e.1.seconds), dates_apart e es below.1)

dates_differ : (es : List (List ℕ × Note)) → IsStrictlySortedBy name_cmp (map (λ e. e.0) es) → IsDistinct (eq_by_cmp by_date) (map noted_date es)
unfolding IsStrictlySortedBy IsDistinct
dates_differ [] ascend = tt
dates_differ (e ∷ es) ascend = (dates_apart e es ascend.0, dates_differ es ascend.1)

-- the dates of a history in some order, sorted
pub sorted_dates : (history : Notes) (found dates : List Dated) → IsPermutation (map noted_date (entries history)) found → IsPermutation found dates → IsSorted by_date dates → dates ≡ newest_first (map noted_date (entries history))
sorted_dates history found dates are moved sorted =
    let all = map noted_date (entries history) in
    sorted_is_put date_total date_exact all dates (dates_differ (entries history) (keys_ascend history)) (IsPermutation-trans all found dates are moved) sorted

-- what stands beside what at a place
both_at : (names : List (List ℕ)) (notes : List Note) (at : ℕ) (name : List ℕ) (note : Note) → slice_get names at ≡ Some name → slice_get notes at ≡ Some note → slice_get (zip names notes) at ≡ Some (name, note)
both_at [] notes at name note named noted = absurd (cc)
both_at (first ∷ names) [] at name note named noted = absurd (cc)
both_at (first ∷ names) (other ∷ notes) zero name note named noted = cc
both_at (first ∷ names) (other ∷ notes) (suc at) name note named noted = both_at names notes at name note named noted

-- one date more
pub one_more : (names : List (List ℕ)) (notes : List Note) (at : ℕ) (name : List ℕ) (note : Note) → slice_get names at ≡ Some name → slice_get notes at ≡ Some note
    → map noted_date (take (at + 1) (zip names notes)) ≡ map noted_date (take at (zip names notes)) ++ noted_date (name, note) ∷ []
one_more names notes at name note named noted =
    let found = both_at names notes at name note named noted in
    let inside = slice_get_within (zip names notes) at (name, note) found in
    ap (map noted_date) (take_more (zip names notes) at (name, note) inside ∙ ap (λ e. take at (zip names notes) ++ e ∷ []) (get_or_from_slice_get (zip names notes) at (name, note) (name, note) found))
    ∙ map-append noted_date (take at (zip names notes)) ((name, note) ∷ [])

-- as many as names, where there are as many notes
all_taken : (names : List (List ℕ)) (notes : List Note) → length notes ≡ length names → take (length names) (zip names notes) ≡ zip names notes
all_taken [] notes each = refl
all_taken (name ∷ names) [] each = absurd (cc)
all_taken (name ∷ names) (note ∷ notes) each = ap (λ rest. (name, note) ∷ rest) (all_taken names notes (cc each))

-- the dates of all commits, sorted
pub sorted_found : (history : Notes) (names : List (List ℕ)) (notes : List Note) (found dates : List Dated) → IsPermutation (entries history) (zip names notes) → length notes ≡ length names → found ≡ map noted_date (take (length names) (zip names notes)) → IsPermutation found dates → IsSorted by_date dates
    → dates ≡ newest_first (map noted_date (entries history))
sorted_found history names notes found dates are each all moved sorted =
    sorted_dates history found dates
    (subst (IsPermutation (map noted_date (entries history))) (sym (all ∙ ap (map noted_date) (all_taken names notes each))) (IsPermutation-map noted_date (entries history) (zip names notes) are)) moved sorted
