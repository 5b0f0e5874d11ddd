-- What records tell as a pool grows, and as numbers are renewed.
use Rattle.std.proofs.Common.{◌≡◌, ◌≢◌, ℕ, ◌+◌, ◌-◌, ◌<◌, ◌≤◌, Bool, true, false, cond, nat_eq, nat_le, List, [], ◌∷◌, ◌++◌, Some, None, All, length, take, drop, map, get_or, length-append, length-drop, refl, sym, ap, subst, ◌∙◌, arith, inl, inr}
use Rattle.std.proofs.lemmas.Bool.{cases_lt, cond-true, cond-false, eqb-false, le-leb, ne_eqb}
use Rattle.std.proofs.lemmas.List.{append-nil, drop-append-le, drop-drop, drop_at, get_or-append-add, get_or-map, get_or_append_left, get_or_at, get_or_past, length-map, take-append-le, take_all}
use Rattle.std.proofs.lemmas.List.Elements.{All-weaker}
use Rattle.number_links.specs.Known.{known}
use Rattle.number_links.specs.Records.{IsRecord, IsWritten, are_still, numbers_at, told, told_at}
use Rattle.number_links.proofs.TestLemmas.{all_alike, all_from_each, second_way}

-- no record tells nothing
pub told_none : (renewed pool : List ℕ) → told renewed pool 4294967295 ≡ None
unfolding told
told_none renewed pool = refl

-- one of no numbers
pub told_empty : (renewed pool : List ℕ) → told renewed pool 4294967294 ≡ Some []
unfolding told
told_empty renewed pool = refl

-- and another what stands in the pool
pub told_there : (renewed pool : List ℕ) (begin : ℕ) → begin ≢ 4294967295 → begin ≢ 4294967294 → told renewed pool begin ≡ told_at renewed (get_or pool begin 0) (numbers_at pool begin)
unfolding told
told_there renewed pool begin one other =
    let first : nat_eq begin 4294967295 ≡ false = ne_eqb begin 4294967295 one in
    let second : nat_eq begin 4294967294 ≡ false = ne_eqb begin 4294967294 other in
    ap (λ b. cond b None (cond (nat_eq begin 4294967294) (Some []) (told_at renewed (get_or pool begin 0) (numbers_at pool begin)))) first
    ∙ ap (λ b. cond b (Some []) (told_at renewed (get_or pool begin 0) (numbers_at pool begin))) second

-- what is known of a number is what its record tells
pub known_told : (renewed pool begins : List ℕ) (n : ℕ) → known (map (told renewed pool) begins) n ≡ told renewed pool (get_or begins n 4294967295)
known_told renewed pool begins n = elim (cases_lt n (length begins)) [
  | inl inside ↦ get_or-map (told renewed pool) begins n 4294967295 None inside
  | inr beyond ↦
      (let long : length begins ≡ length (map (told renewed pool) begins) = sym (length-map begins (told renewed pool)) in
      get_or_past (map (told renewed pool) begins) n None (omega arith) ∙ sym (ap (told renewed pool) (get_or_past begins n 4294967295 beyond) ∙ told_none renewed pool))
]

-- a place tells the same where a record there does
pub told_alike : (renewed pool now_renewed now_pool : List ℕ) (begin : ℕ)
    → (begin ≢ 4294967295 → begin ≢ 4294967294 → told_at now_renewed (get_or now_pool begin 0) (numbers_at now_pool begin) ≡ told_at renewed (get_or pool begin 0) (numbers_at pool begin))
    → told now_renewed now_pool begin ≡ told renewed pool begin
unfolding told
told_alike renewed pool now_renewed now_pool begin same =
    second_way (nat_eq begin 4294967295) None _ _ (λ one. second_way (nat_eq begin 4294967294) (Some []) _ _ (λ other. same (eqb-false begin 4294967295 one) (eqb-false begin 4294967294 other)))

-- the numbers of a record stay as more comes after it
pub numbers_kept : (pool more : List ℕ) (begin : ℕ) → begin + 2 + get_or pool (begin + 1) 0 ≤ length pool → numbers_at (pool ++ more) begin ≡ numbers_at pool begin
numbers_kept pool more begin within =
    let count : get_or (pool ++ more) (begin + 1) 0 ≡ get_or pool (begin + 1) 0 = get_or_append_left pool more 0 (begin + 1) (omega arith) in
    let long : length (drop (begin + 2) pool) ≡ length pool - (begin + 2) = length-drop (begin + 2) pool in
    ap (λ n. take n (drop (begin + 2) (pool ++ more))) count
    ∙ ap (take (get_or pool (begin + 1) 0)) (drop-append-le (begin + 2) pool more (omega arith))
    ∙ take-append-le (get_or pool (begin + 1) 0) (drop (begin + 2) pool) more (omega arith)

-- and so does what it tells
pub told_grown : (clock room : ℕ) (renewed pool more : List ℕ) (begin : ℕ) → (begin ≢ 4294967295 → begin ≢ 4294967294 → IsRecord clock room pool begin) → told renewed (pool ++ more) begin ≡ told renewed pool begin
told_grown clock room renewed pool more begin record_there =
    told_alike renewed pool renewed (pool ++ more) begin (λ one other.
    (let within = (record_there one other).within in
    let learned : get_or (pool ++ more) begin 0 ≡ get_or pool begin 0 = get_or_append_left pool more 0 begin (omega arith) in
    ap (λ t. told_at renewed t (numbers_at (pool ++ more) begin)) learned ∙ ap (told_at renewed (get_or pool begin 0)) (numbers_kept pool more begin within)))

-- a record stays one
pub record_grown : (clock room : ℕ) (pool more : List ℕ) (begin : ℕ) → IsRecord clock room pool begin → IsRecord clock room (pool ++ more) begin
record_grown clock room pool more begin is =
    let within = is.within in
    let count : get_or (pool ++ more) (begin + 1) 0 ≡ get_or pool (begin + 1) 0 = get_or_append_left pool more 0 (begin + 1) (omega arith) in
    let learned : get_or (pool ++ more) begin 0 ≡ get_or pool begin 0 = get_or_append_left pool more 0 begin (omega arith) in
    let long : length (pool ++ more) ≡ length pool + length more = length-append pool more in
    let before = is.learned in record {
      within = omega arith;
      learned = omega arith;
      below = subst (All (λ n. n < room)) (sym (numbers_kept pool more begin within)) is.below;
    }

-- also later, and as more renewals are noted
pub record_later : (clock now room more : ℕ) (pool : List ℕ) (begin : ℕ) → clock ≤ now → room ≤ more → IsRecord clock room pool begin → IsRecord now more pool begin
record_later clock now room more pool begin later longer is =
    let before = is.learned in record {
      within = is.within;
      learned = omega arith;
      below = All-weaker (λ n. n < room) (λ n. n < more) (λ n inside. omega arith) (numbers_at pool begin) is.below;
    }

-- what a record tells goes by when numbers were renewed
pub told_noted : (renewed now pool : List ℕ) (begin : ℕ) → ((n : ℕ) → get_or now n 0 ≡ get_or renewed n 0) → told now pool begin ≡ told renewed pool begin
told_noted renewed now pool begin same =
    told_alike renewed pool now pool begin (λ one other.
    (let numbers = numbers_at pool begin in
    let learned = get_or pool begin 0 in
    ap (λ b. cond b (Some numbers) None) (all_alike (λ n. nat_le (get_or now n 0) learned) (λ n. nat_le (get_or renewed n 0) learned) numbers (λ n. ap (λ t. nat_le t learned) (same n)))))

-- no number was renewed after now
pub still_by_now : (renewed : List ℕ) (clock : ℕ) (numbers : List ℕ) → ((n : ℕ) → get_or renewed n 0 ≤ clock) → are_still renewed clock numbers ≡ true
still_by_now renewed clock numbers by_now = all_from_each (λ n. nat_le (get_or renewed n 0) clock) numbers (λ n among. le-leb (get_or renewed n 0) clock (by_now n))

-- a record that is written now tells its numbers
told_new : (renewed : List ℕ) (clock : ℕ) (to : List ℕ) → ((n : ℕ) → get_or renewed n 0 ≤ clock) → told_at renewed clock to ≡ Some to
told_new renewed clock to by_now = cond-true (are_still renewed clock to) (Some to) None (still_by_now renewed clock to by_now)

-- where a record stands last, these are its words
last_numbers : (old : List ℕ) (clock : ℕ) (to : List ℕ) → numbers_at (old ++ clock ∷ length to ∷ to) (length old) ≡ to
last_numbers old clock to =
    let pool = old ++ clock ∷ length to ∷ to in
    let count : get_or pool (length old + 1) 0 ≡ length to = get_or-append-add old (clock ∷ length to ∷ to) 1 0 in
    let rest : drop (length old + 2) pool ≡ to = sym (drop-drop 2 (length old) pool) ∙ ap (drop 2) (drop_at old (clock ∷ length to ∷ to) (length old) refl) in
    ap (λ n. take n (drop (length old + 2) pool)) count ∙ ap (take (length to)) rest ∙ take_all (length to) to (omega arith)

last_learned : (old : List ℕ) (clock : ℕ) (to : List ℕ) → get_or (old ++ clock ∷ length to ∷ to) (length old) 0 ≡ clock
last_learned old clock to = get_or_at old clock (length to ∷ to) 0 (length old) refl

told_last : (renewed old : List ℕ) (clock : ℕ) (to : List ℕ) → length old < 4294967294 → ((n : ℕ) → get_or renewed n 0 ≤ clock) → told renewed (old ++ clock ∷ length to ∷ to) (length old) ≡ Some to
told_last renewed old clock to small by_now =
    let pool = old ++ clock ∷ length to ∷ to in
    told_there renewed pool (length old) (λ e. omega arith) (λ e. omega arith)
    ∙ ap (λ t. told_at renewed t (numbers_at pool (length old))) (last_learned old clock to)
    ∙ ap (told_at renewed clock) (last_numbers old clock to)
    ∙ told_new renewed clock to by_now

pub told_written : (renewed : List ℕ) (clock : ℕ) (to old new : List ℕ) (begin : ℕ) → IsWritten clock to old new begin → ((n : ℕ) → get_or renewed n 0 ≤ clock) → told renewed new begin ≡ Some to
told_written renewed clock to old new begin written by_now = elim written.place [
  | inl none ↦ ap (told renewed new) none.1 ∙ told_empty renewed new ∙ ap Some (sym none.0)
  | inr some ↦ ap (told renewed new) some.0 ∙ ap (λ pool. told renewed pool (length old)) some.2 ∙ told_last renewed old clock to (subst (λ b. b < 4294967294) some.0 some.1) by_now
]

-- and is a record
record_last : (old : List ℕ) (clock room : ℕ) (to : List ℕ) → All (λ n. n < room) to → IsRecord clock room (old ++ clock ∷ length to ∷ to) (length old)
record_last old clock room to below =
    let pool = old ++ clock ∷ length to ∷ to in
    let count : get_or pool (length old + 1) 0 ≡ length to = get_or-append-add old (clock ∷ length to ∷ to) 1 0 in
    let long : length pool ≡ length old + length (clock ∷ length to ∷ to) = length-append old (clock ∷ length to ∷ to) in
    let learned = last_learned old clock to in record {
      within = omega arith;
      learned = omega arith;
      below = subst (All (λ n. n < room)) (sym (last_numbers old clock to)) below;
    }

pub record_written : (clock room : ℕ) (to old new : List ℕ) (begin : ℕ) → IsWritten clock to old new begin → All (λ n. n < room) to → begin ≢ 4294967294 → IsRecord clock room new begin
record_written clock room to old new begin written below there = elim written.place [
  | inl none ↦ absurd (there none.1)
  | inr some ↦ subst (λ pool. IsRecord clock room pool begin) (sym some.2) (subst (IsRecord clock room (old ++ clock ∷ length to ∷ to)) (sym some.0) (record_last old clock room to below))
]

-- what is written comes after what was there
pub written_after : (clock : ℕ) (to old new : List ℕ) (begin : ℕ) → IsWritten clock to old new begin → (more : List ℕ) × (new ≡ old ++ more)
written_after clock to old new begin written = elim written.place [
  | inl none ↦ ([], none.2 ∙ sym (append-nil old))
  | inr some ↦ (clock ∷ length to ∷ to, some.2)
]

-- what is read of a record, where the slice ends as its count says
read_is : (renewed pool : List ℕ) (begin : ℕ) (still : Bool) → begin ≢ 4294967295 → begin ≢ 4294967294
    → still ≡ are_still renewed (get_or pool begin 0) (take (begin + 2 + get_or pool (begin + 1) 0 - (begin + 2)) (drop (begin + 2) pool))
    → told renewed pool begin ≡ cond still (Some (take (begin + 2 + get_or pool (begin + 1) 0 - (begin + 2)) (drop (begin + 2) pool))) None
read_is renewed pool begin still one other is =
    let count : get_or pool (begin + 1) 0 ≡ begin + 2 + get_or pool (begin + 1) 0 - (begin + 2) = omega arith in
    told_there renewed pool begin one other ∙ ap (λ k. told_at renewed (get_or pool begin 0) (take k (drop (begin + 2) pool))) count
    ∙ ap (λ b. cond b (Some (take (begin + 2 + get_or pool (begin + 1) 0 - (begin + 2)) (drop (begin + 2) pool))) None) (sym is)

pub read_none : (renewed pool : List ℕ) (begin : ℕ) (still : Bool) → begin ≢ 4294967295 → begin ≢ 4294967294
    → still ≡ are_still renewed (get_or pool begin 0) (take (begin + 2 + get_or pool (begin + 1) 0 - (begin + 2)) (drop (begin + 2) pool)) → still ≡ false → told renewed pool begin ≡ None
read_none renewed pool begin still one other is renewed_since = read_is renewed pool begin still one other is ∙ cond-false still (Some (take (begin + 2 + get_or pool (begin + 1) 0 - (begin + 2)) (drop (begin + 2) pool))) None renewed_since

pub read_some : (renewed pool : List ℕ) (begin : ℕ) (still : Bool) → begin ≢ 4294967295 → begin ≢ 4294967294
    → still ≡ are_still renewed (get_or pool begin 0) (take (begin + 2 + get_or pool (begin + 1) 0 - (begin + 2)) (drop (begin + 2) pool)) → still ≡ true
    → told renewed pool begin ≡ Some (take (begin + 2 + get_or pool (begin + 1) 0 - (begin + 2)) (drop (begin + 2) pool))
read_some renewed pool begin still one other is valid = read_is renewed pool begin still one other is ∙ cond-true still (Some (take (begin + 2 + get_or pool (begin + 1) 0 - (begin + 2)) (drop (begin + 2) pool))) None valid
