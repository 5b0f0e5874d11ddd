-- The test of a name, and what it tests.
use Rattle.std.proofs.Common.{◌≡◌, ℕ, ◌≤◌, Bool, true, false, List, length, slice_index, refl, arith}
use Rattle.std.specs.Prelude.{nat_le, ◌&&◌}
use Rattle.std.specs.List.{list_all}
use Rattle.std.proofs.lemmas.Bool.Decides.{nat_tests}
use Rattle.std.proofs.lemmas.List.Sums.{AllPass-from_list_all, list_all-from_AllPass}
use Rattle.fork_request.specs.Names.{IsPlainName, is_plain_name, starts_a_name, stands_in_a_name}

both : (a b : Bool) → a && b ≡ true → (a ≡ true) × (b ≡ true)
both true true is = (refl, refl)
both true false is = absurd (cc)
both false b is = absurd (cc)

some_bytes : (a b : ℕ) → nat_le a b ≡ true → a ≤ b
some_bytes a b is = grind (arith, nat_tests)

fits : (a b : ℕ) → a ≤ b → nat_le a b ≡ true
fits a b is = grind (arith, nat_tests)

all_true : (a b c d : Bool) → a ≡ true → b ≡ true → c ≡ true → d ≡ true → a && b && c && d ≡ true
all_true a b c d p q r s = rw (p, q, r, s) refl

-- what passes is a name
pub plain_name : (most : ℕ) (name : List ℕ) → is_plain_name most name ≡ true → IsPlainName most name
unfolding is_plain_name
plain_name most name is =
    let last = both (nat_le 1 (length name) && nat_le (length name) most && starts_a_name (slice_index name 0)) (list_all stands_in_a_name name) is in
    let third = both (nat_le 1 (length name) && nat_le (length name) most) (starts_a_name (slice_index name 0)) last.0 in
    let second = both (nat_le 1 (length name)) (nat_le (length name) most) third.0 in
    record {
      some = some_bytes 1 (length name) second.0;
      few = some_bytes (length name) most second.1;
      starts = third.1;
      bytes = AllPass-from_list_all stands_in_a_name name last.1;
    }

-- and a name passes
pub plain_test : (most : ℕ) (name : List ℕ) → IsPlainName most name → is_plain_name most name ≡ true
unfolding is_plain_name
plain_test most name plain =
    all_true (nat_le 1 (length name)) (nat_le (length name) most) (starts_a_name (slice_index name 0)) (list_all stands_in_a_name name)
    (fits 1 (length name) plain.some) (fits (length name) most plain.few) plain.starts (list_all-from_AllPass stands_in_a_name name plain.bytes)

false_of : (b : Bool) → (b ≡ true → ⊥) → b ≡ false
false_of true never = absurd (never refl)
false_of false never = refl

-- what is no name does not pass
pub no_plain_test : (most : ℕ) (name : List ℕ) → ¬ IsPlainName most name → is_plain_name most name ≡ false
no_plain_test most name never = false_of (is_plain_name most name) (λ is. never (plain_name most name is))
