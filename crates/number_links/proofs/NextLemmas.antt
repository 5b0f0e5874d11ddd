-- The first number at one or after it, part by part.
use Rattle.std.proofs.Common.{◌≡◌, ℕ, ◌+◌, ◌*◌, ◌/◌, ◌%◌, ◌<◌, ◌≤◌, Bool, true, false, nat_lt, refl, ap, ◌∙◌, arith}
use Rattle.std.proofs.lemmas.Bool.{ltb-true, ltb-false}

module _ (all part : ℕ → Bool) (from begin : ℕ) (low : from ≤ begin) (before : (q : ℕ) → from ≤ q → q < begin → all q ≡ false) (here : (q : ℕ) → q / 64 ≡ begin / 64 → all q ≡ part (q % 64)) where
  pub word_found : (k : ℕ) → k < 64 → begin % 64 ≤ k → part k ≡ true → (from ≤ begin / 64 * 64 + k) × (all (begin / 64 * 64 + k) ≡ true)
  word_found k small after is = (omega (arith, low, after), here (begin / 64 * 64 + k) (omega (arith, small)) ∙ ap part (let r : (begin / 64 * 64 + k) % 64 ≡ k = omega (arith, small) in r) ∙ is)

  pub word_first : (k : ℕ) → k ≤ 64 → ((r : ℕ) → begin % 64 ≤ r → r < k → part r ≡ false) → (q : ℕ) → from ≤ q → q < begin / 64 * 64 + k → all q ≡ false
  word_first k small none q high lower = by (nat_lt q begin) refl
    where
      by : (b : Bool) → nat_lt q begin ≡ b → all q ≡ false
      by true is = before q high (ltb-true q begin is)
      by false is =
          (let past : begin ≤ q = ltb-false q begin is in
          let same : q / 64 ≡ begin / 64 = omega (arith, past, lower, small) in
          here q same ∙ none (q % 64) (omega (arith, past, same)) (omega (arith, same, lower)))

module _ (all part : ℕ → Bool) (from begin : ℕ) (low : from ≤ begin) (before : (q : ℕ) → from ≤ q → q < begin → all q ≡ false) (here : (q : ℕ) → q / 4096 ≡ begin / 4096 → all q ≡ part (q % 4096)) where
  pub page_found : (k : ℕ) → k < 4096 → begin % 4096 ≤ k → part k ≡ true → (from ≤ begin / 4096 * 4096 + k) × (all (begin / 4096 * 4096 + k) ≡ true)
  page_found k small after is = (omega (arith, low, after), here (begin / 4096 * 4096 + k) (omega (arith, small)) ∙ ap part (let r : (begin / 4096 * 4096 + k) % 4096 ≡ k = omega (arith, small) in r) ∙ is)

  pub page_first : (k : ℕ) → k ≤ 4096 → ((r : ℕ) → begin % 4096 ≤ r → r < k → part r ≡ false) → (q : ℕ) → from ≤ q → q < begin / 4096 * 4096 + k → all q ≡ false
  page_first k small none q high lower = by (nat_lt q begin) refl
    where
      by : (b : Bool) → nat_lt q begin ≡ b → all q ≡ false
      by true is = before q high (ltb-true q begin is)
      by false is =
          (let past : begin ≤ q = ltb-false q begin is in
          let same : q / 4096 ≡ begin / 4096 = omega (arith, past, lower, small) in
          here q same ∙ none (q % 4096) (omega (arith, past, same)) (omega (arith, same, lower)))
