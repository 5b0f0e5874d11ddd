-- What records tell once a number is renewed.
use Rattle.std.proofs.Common.{◌≡◌, ◌≢◌, ◌⊎◌, ℕ, ◌+◌, ◌<◌, ◌≤◌, Bool, true, false, cond, nat_eq, nat_le, List, [], Some, None, All, length, length-set, set, map, get_or, refl, sym, ap, subst, ◌∙◌, arith, inl, inr}
use Rattle.std.specs.List.{Contains}
use Rattle.std.proofs.lemmas.Bool.{cases_eq, cases_lt, eqb-false, leb-true}
use Rattle.std.proofs.lemmas.List.{get_or-set_other, get_or-set_same, get_or_past}
use Rattle.std.proofs.lemmas.List.Elements.{All-contains, All-nil}
use Rattle.number_links.specs.Known.{known}
use Rattle.number_links.specs.Records.{AreRecords, IsRecord, are_still, numbers_at, told, told_at}
use Rattle.number_links.proofs.RecordLemmas.{known_told, told_none}
use Rattle.number_links.proofs.SeeingLemmas.{none_there}
use Rattle.number_links.proofs.TestLemmas.{all_from_each, each_from_all}

-- the numbers that a record tells were not renewed since
still_told : (renewed : List ℕ) (learned : ℕ) (numbers ms : List ℕ) → told_at renewed learned numbers ≡ Some ms → (are_still renewed learned numbers ≡ true) × (numbers ≡ ms)
still_told renewed learned numbers ms = by (are_still renewed learned numbers)
  where
    by : (b : Bool) → cond b (Some numbers) None ≡ Some ms → (b ≡ true) × (numbers ≡ ms)
    by true is = (refl, cc)
    by false is = absurd (cc)

-- and their renewals are noted
pub told_below : (clock : ℕ) (renewed pool : List ℕ) (begin : ℕ) (ms : List ℕ) → (begin ≢ 4294967295 → begin ≢ 4294967294 → IsRecord clock (length renewed) pool begin) → told renewed pool begin ≡ Some ms → All (λ m. m < length renewed) ms
unfolding told
told_below clock renewed pool begin ms there = by (nat_eq begin 4294967295) (nat_eq begin 4294967294) refl refl
  where
    by : (one other : Bool) → nat_eq begin 4294967295 ≡ one → nat_eq begin 4294967294 ≡ other → cond one None (cond other (Some []) (told_at renewed (get_or pool begin 0) (numbers_at pool begin))) ≡ Some ms → All (λ m. m < length renewed) ms
    by true other is_one is_other is = absurd (cc)
    by false true is_one is_other is = (let none : [] ≡ ms = cc in subst (All (λ m. m < length renewed)) none (All-nil (λ m. m < length renewed)))
    by false false is_one is_other is =
        subst (All (λ m. m < length renewed)) (still_told renewed (get_or pool begin 0) (numbers_at pool begin) ms is).1 (there (eqb-false begin 4294967295 is_one) (eqb-false begin 4294967294 is_other)).below

-- the number that is renewed is none of them
not_renewed : (clock n : ℕ) (renewed : List ℕ) (learned : ℕ) (numbers : List ℕ) → learned ≤ clock → All (λ m. m < length renewed) numbers → are_still (set renewed n (clock + 1)) learned numbers ≡ true → Contains numbers n → ⊥
not_renewed clock n renewed learned numbers before below still among =
    let inside : n < length renewed = All-contains (λ m. m < length renewed) numbers n below among in
    let stamp : get_or (set renewed n (clock + 1)) n 0 ≡ clock + 1 = get_or-set_same renewed n (clock + 1) 0 inside in
    let old : get_or (set renewed n (clock + 1)) n 0 ≤ learned = leb-true (get_or (set renewed n (clock + 1)) n 0) learned (each_from_all (λ m. nat_le (get_or (set renewed n (clock + 1)) m 0) learned) numbers n still among) in
    omega arith

-- so what it tells it told before
was_still : (clock n : ℕ) (renewed : List ℕ) (learned : ℕ) (numbers : List ℕ) → (Contains numbers n → ⊥) → are_still (set renewed n (clock + 1)) learned numbers ≡ true → are_still renewed learned numbers ≡ true
was_still clock n renewed learned numbers apart still =
    all_from_each (λ m. nat_le (get_or renewed m 0) learned) numbers (λ m among.
    (let other : m ≢ n = (λ same. apart (subst (Contains numbers) same among)) in
    ap (λ t. nat_le t learned) (sym (get_or-set_other renewed n m (clock + 1) 0 other)) ∙ each_from_all (λ k. nat_le (get_or (set renewed n (clock + 1)) k 0) learned) numbers m still among))

told_before : (clock n : ℕ) (renewed : List ℕ) (learned : ℕ) (numbers ms : List ℕ) → learned ≤ clock → All (λ m. m < length renewed) numbers → told_at (set renewed n (clock + 1)) learned numbers ≡ Some ms
    → (told_at renewed learned numbers ≡ Some ms) × (Contains ms n → ⊥)
told_before clock n renewed learned numbers ms before below is =
    let still = still_told (set renewed n (clock + 1)) learned numbers ms is in
    let apart = not_renewed clock n renewed learned numbers before below still.0 in (
      ap (λ b. cond b (Some numbers) None) (was_still clock n renewed learned numbers apart still.0) ∙ ap Some still.1,
      λ among. apart (subst (λ ns. Contains ns n) (sym still.1) among),
    )

-- the same of a place
pub told_renewed : (clock n : ℕ) (renewed pool : List ℕ) (begin : ℕ) (ms : List ℕ) → (begin ≢ 4294967295 → begin ≢ 4294967294 → IsRecord clock (length renewed) pool begin) → told (set renewed n (clock + 1)) pool begin ≡ Some ms
    → (told renewed pool begin ≡ Some ms) × (Contains ms n → ⊥)
unfolding told
told_renewed clock n renewed pool begin ms there = by (nat_eq begin 4294967295) (nat_eq begin 4294967294) refl refl
  where
    by : (one other : Bool) → nat_eq begin 4294967295 ≡ one → nat_eq begin 4294967294 ≡ other
        → cond one None (cond other (Some []) (told_at (set renewed n (clock + 1)) (get_or pool begin 0) (numbers_at pool begin))) ≡ Some ms
        → (cond one None (cond other (Some []) (told_at renewed (get_or pool begin 0) (numbers_at pool begin))) ≡ Some ms) × (Contains ms n → ⊥)
    by true other is_one is_other is = absurd (cc)
    by false true is_one is_other is = (is, λ among. (let none : [] ≡ ms = cc in none_there n (subst (λ ns. Contains ns n) (sym none) among)))
    by false false is_one is_other is =
        (let here = there (eqb-false begin 4294967295 is_one) (eqb-false begin 4294967294 is_other) in
        told_before clock n renewed (get_or pool begin 0) (numbers_at pool begin) ms here.learned here.below is)

-- a place that is cleared is the place of no record
unset : (begins : List ℕ) (n : ℕ) → get_or (set begins n 4294967295) n 4294967295 ≡ 4294967295
unset begins n = elim (cases_lt n (length begins)) [
  | inl inside ↦ get_or-set_same begins n 4294967295 4294967295 inside
  | inr beyond ↦ (let long : length (set begins n 4294967295) ≡ length begins = length-set begins n 4294967295 in get_or_past (set begins n 4294967295) n 4294967295 (omega arith))
]

-- what is known was known, and the number is not among it
pub known_before : (clock n : ℕ) (renewed begins pool : List ℕ) → AreRecords clock renewed begins pool
    → (q : ℕ) (ms : List ℕ) → known (map (told (set renewed n (clock + 1)) pool) (set begins n 4294967295)) q ≡ Some ms → (known (map (told renewed pool) begins) q ≡ Some ms) × (q ≢ n) × (Contains ms n → ⊥)
known_before clock n renewed begins pool are q ms is = by (cases_eq q n)
  where
    now : told (set renewed n (clock + 1)) pool (get_or (set begins n 4294967295) q 4294967295) ≡ Some ms
    now = sym (known_told (set renewed n (clock + 1)) pool (set begins n 4294967295) q) ∙ is

    by : (q ≡ n) ⊎ (q ≡ n → ⊥) → (known (map (told renewed pool) begins) q ≡ Some ms) × (q ≢ n) × (Contains ms n → ⊥)
    by (inl same) = (let nothing : None ≡ Some ms = sym (ap (told (set renewed n (clock + 1)) pool) (ap (λ k. get_or (set begins n 4294967295) k 4294967295) same ∙ unset begins n) ∙ told_none (set renewed n (clock + 1)) pool) ∙ now in absurd (cc))
    by (inr apart) =
        (let place : get_or (set begins n 4294967295) q 4294967295 ≡ get_or begins q 4294967295 = get_or-set_other begins n q 4294967295 4294967295 apart in
        let before = told_renewed clock n renewed pool (get_or begins q 4294967295) ms (are.records q) (ap (told (set renewed n (clock + 1)) pool) (sym place) ∙ now) in (
          known_told renewed pool begins q ∙ before.0,
          apart,
          before.1,
        ))

-- ---- and what leads elsewhere is told still
still_after : (clock n : ℕ) (renewed : List ℕ) (learned : ℕ) (numbers : List ℕ) → (Contains numbers n → ⊥) → are_still renewed learned numbers ≡ true → are_still (set renewed n (clock + 1)) learned numbers ≡ true
still_after clock n renewed learned numbers apart still =
    all_from_each (λ m. nat_le (get_or (set renewed n (clock + 1)) m 0) learned) numbers (λ m among.
    (let other : m ≢ n = (λ same. apart (subst (Contains numbers) same among)) in
    ap (λ t. nat_le t learned) (get_or-set_other renewed n m (clock + 1) 0 other) ∙ each_from_all (λ k. nat_le (get_or renewed k 0) learned) numbers m still among))

told_after : (clock n : ℕ) (renewed : List ℕ) (learned : ℕ) (numbers ms : List ℕ) → (Contains ms n → ⊥) → told_at renewed learned numbers ≡ Some ms → told_at (set renewed n (clock + 1)) learned numbers ≡ Some ms
told_after clock n renewed learned numbers ms apart is =
    let still = still_told renewed learned numbers ms is in
    ap (λ b. cond b (Some numbers) None) (still_after clock n renewed learned numbers (λ among. apart (subst (λ ns. Contains ns n) still.1 among)) still.0) ∙ ap Some still.1

told_beside : (clock n : ℕ) (renewed pool : List ℕ) (begin : ℕ) (ms : List ℕ) → (Contains ms n → ⊥) → told renewed pool begin ≡ Some ms → told (set renewed n (clock + 1)) pool begin ≡ Some ms
unfolding told
told_beside clock n renewed pool begin ms apart = by (nat_eq begin 4294967295) (nat_eq begin 4294967294)
  where
    by : (one other : Bool) → cond one None (cond other (Some []) (told_at renewed (get_or pool begin 0) (numbers_at pool begin))) ≡ Some ms
        → cond one None (cond other (Some []) (told_at (set renewed n (clock + 1)) (get_or pool begin 0) (numbers_at pool begin))) ≡ Some ms
    by true other is = is
    by false true is = is
    by false false is = told_after clock n renewed (get_or pool begin 0) (numbers_at pool begin) ms apart is

-- what is known of another number that does not lead to the renewed one is known still
pub known_after : (clock n : ℕ) (renewed begins pool : List ℕ) (q : ℕ) (ms : List ℕ) → known (map (told renewed pool) begins) q ≡ Some ms → q ≢ n → (Contains ms n → ⊥)
    → known (map (told (set renewed n (clock + 1)) pool) (set begins n 4294967295)) q ≡ Some ms
known_after clock n renewed begins pool q ms is other apart =
    known_told (set renewed n (clock + 1)) pool (set begins n 4294967295) q ∙ ap (told (set renewed n (clock + 1)) pool) (get_or-set_other begins n q 4294967295 4294967295 other)
    ∙ told_beside clock n renewed pool (get_or begins q 4294967295) ms apart (sym (known_told renewed pool begins q) ∙ is)
