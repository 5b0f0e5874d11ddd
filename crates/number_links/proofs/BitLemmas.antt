-- Bits of one word.
use Rattle.std.proofs.Common.{◌≡◌, ℕ, zero, suc, ◌+◌, ◌%◌, ◌^◌, ◌<◌, min, max, Bool, true, false, not, ◌&&◌, ◌||◌, nat_eq, bit_and, bit_or, bit_xor, ◌*◌, refl, ap, ◌∙◌, arith}
use Rattle.std.specs.Int.{bit_at}
use Rattle.std.proofs.lemmas.Nat.{one_shl}
use Rattle.std.proofs.lemmas.Nat.Bits.{bit_at-lt, bit_at-pow_other, bit_at-pow_same, bit_at_and, bit_at_or, bit_at_xor}
use Rattle.number_links.specs.Numbers.{has_bit}

max_bits : (x y : ℕ) → x < 2 → y < 2 → nat_eq (max x y) 1 ≡ nat_eq x 1 || nat_eq y 1
max_bits zero zero a b = refl
max_bits zero (suc zero) a b = refl
max_bits (suc zero) zero a b = refl
max_bits (suc zero) (suc zero) a b = refl
max_bits (suc (suc x)) y a b = absurd (omega arith)
max_bits zero (suc (suc y)) a b = absurd (omega arith)
max_bits (suc zero) (suc (suc y)) a b = absurd (omega arith)

less_bits : (x y : ℕ) → x < 2 → y < 2 → nat_eq ((x + min x y) % 2) 1 ≡ not (nat_eq y 1) && nat_eq x 1
less_bits zero zero a b = refl
less_bits zero (suc zero) a b = refl
less_bits (suc zero) zero a b = refl
less_bits (suc zero) (suc zero) a b = refl
less_bits (suc (suc x)) y a b = absurd (omega arith)
less_bits zero (suc (suc y)) a b = absurd (omega arith)
less_bits (suc zero) (suc (suc y)) a b = absurd (omega arith)

-- the bits of an `|`
pub or_has : (a b q : ℕ) → has_bit (bit_or a b) q ≡ has_bit a q || has_bit b q
or_has a b q = ap (λ n. nat_eq n 1) (bit_at_or a b q) ∙ max_bits (bit_at a q) (bit_at b q) (bit_at-lt a q) (bit_at-lt b q)

-- the bits of the first that the second has not
pub less_has : (a b q : ℕ) → has_bit (bit_xor a (bit_and a b)) q ≡ not (has_bit b q) && has_bit a q
less_has a b q = ap (λ n. nat_eq n 1) (bit_at_xor a (bit_and a b) q ∙ ap (λ n. (bit_at a q + n) % 2) (bit_at_and a b q)) ∙ less_bits (bit_at a q) (bit_at b q) (bit_at-lt a q) (bit_at-lt b q)

-- the bit of a power of two
pub pow_has : (k q : ℕ) → has_bit (2 ^ k) q ≡ nat_eq q k
pow_has k q = by (nat_eq q k) refl
  where
    by : (b : Bool) → nat_eq q k ≡ b → has_bit (2 ^ k) q ≡ b
    by true is = (let same : q ≡ k = search arith in ap (λ n. has_bit (2 ^ k) n) same ∙ ap (λ n. nat_eq n 1) (bit_at-pow_same k))
    by false is = ap (λ n. nat_eq n 1) (bit_at-pow_other k q (λ same. search arith))

or_swap : (a b : Bool) → a || b ≡ b || a
or_swap true true = refl
or_swap true false = refl
or_swap false true = refl
or_swap false false = refl

pub with_has : (word k : ℕ) → k < 64 → (q : ℕ) → has_bit (bit_or word ((1 * 2 ^ k) % 2 ^ 64)) q ≡ nat_eq q k || has_bit word q
with_has word k small q =
    ap (λ n. has_bit (bit_or word n) q) (one_shl k 64 small) ∙ or_has word (2 ^ k) q ∙ or_swap (has_bit word q) (has_bit (2 ^ k) q) ∙ ap (λ b. b || has_bit word q) (pow_has k q)

pub without_has : (word k : ℕ) → k < 64 → (q : ℕ) → has_bit (bit_xor word (bit_and word ((1 * 2 ^ k) % 2 ^ 64))) q ≡ not (nat_eq q k) && has_bit word q
without_has word k small q =
    ap (λ n. has_bit (bit_xor word (bit_and word n)) q) (one_shl k 64 small) ∙ less_has word (2 ^ k) q ∙ ap (λ b. not b && has_bit word q) (pow_has k q)
