-- Totals that stay at a greatest number.
use Rattle.std.proofs.Common.{◌≡◌, ℕ, ◌+◌, ◌<◌, ◌≤◌, ◌^◌, Bool, true, false, refl, sym, ap, ◌∙◌, arith, zero-add, add-zero, add_assoc}
use Rattle.std.specs.Prelude.{min, nat_le}
use Rattle.std.proofs.lemmas.Bool.Decides.{nat_tests}
use Rattle.std.proofs.Math.Nat.{min-eq_left, min-eq_right}
use Rattle.object_table.specs.Totals.{capped}

below : (u most : ℕ) → nat_le u most ≡ true → u ≤ most
below u most is = grind (arith, nat_tests)

above : (u most : ℕ) → nat_le u most ≡ false → most ≤ u
above u most is = grind (arith, nat_tests)

more : (m s : ℕ) → m ≤ m + s
more m s = omega arith

still_above : (most u s : ℕ) → most ≤ u → most ≤ u + s
still_above most u s is = omega arith

-- a total and what comes to it
pub capped_more : (most used u s : ℕ) → used ≡ min u most → min (used + s) most ≡ min (u + s) most
capped_more most used u s is = by (nat_le u most) refl
  where
    by : (b : Bool) → nat_le u most ≡ b → min (used + s) most ≡ min (u + s) most
    by true low = ap (λ n. min (n + s) most) (is ∙ min-eq_left (below u most low))
    by false high =
        ap (λ n. min (n + s) most) (is ∙ min-eq_right (above u most high))
        ∙ min-eq_right (more most s) ∙ sym (min-eq_right (still_above most u s (above u most high)))

-- a total of what came so far, where this much is still to come
pub record CountsTo (all rest total : ℕ) : Type 0 where
  pub so_far : ℕ
  pub is_capped : total ≡ capped so_far
  pub is_part : so_far + rest ≡ all

pub counts_none : (all : ℕ) → CountsTo all all 0
counts_none all = record { so_far = 0; is_capped = refl; is_part = zero-add all }

-- one more comes
pub counts_more : (all rest left total size : ℕ) → rest ≡ size + left → CountsTo all rest total → CountsTo all left (capped (total + size))
counts_more all rest left total size is counts = record {
  so_far = counts.so_far + size;
  is_capped = capped_more 340282366920938463463374607431768211455 total counts.so_far size counts.is_capped;
  is_part = add_assoc counts.so_far size left ∙ ap (λ n. counts.so_far + n) (sym is) ∙ counts.is_part;
}

-- nothing is to come
pub counts_all : (all total : ℕ) → CountsTo all 0 total → total ≡ capped all
counts_all all total counts = counts.is_capped ∙ ap capped (sym (add-zero counts.so_far) ∙ counts.is_part)

-- nothing is within every limit
pub nothing_within : (limit used : ℕ) → used ≡ 0 → true ≡ nat_le used limit
nothing_within limit used is = grind (arith, nat_tests)

-- a total that is capped above a limit is within it where the whole one is
within_most : (most u limit : ℕ) → limit < most → nat_le (min u most) limit ≡ nat_le u limit
within_most most u limit low = by (nat_le u most) refl
  where
    too_many : (n : ℕ) → most ≤ n → nat_le n limit ≡ false
    too_many n is = grind (arith, nat_tests)

    by : (b : Bool) → nat_le u most ≡ b → nat_le (min u most) limit ≡ nat_le u limit
    by true is = ap (λ n. nat_le n limit) (min-eq_left (below u most is))
    by false is = ap (λ n. nat_le n limit) (min-eq_right (above u most is)) ∙ too_many most (omega arith) ∙ sym (too_many u (above u most is))

pub capped_within : (u limit : ℕ) → limit < 2 ^ 64 → nat_le (capped u) limit ≡ nat_le u limit
capped_within u limit low = within_most 340282366920938463463374607431768211455 u limit (omega arith)
