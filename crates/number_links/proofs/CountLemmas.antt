-- How many numbers below a bound pass a test.
use Rattle.std.proofs.Common.{◌≡◌, ◌≢◌, ℕ, zero, suc, ◌+◌, ◌<◌, ◌≤◌, Bool, true, false, cond, nat_eq, refl, sym, ap, ◌∙◌, arith}
use Rattle.number_links.specs.Seeing.{count_below}

counts_less : (old now : Bool) → (now ≡ true → old ≡ true) → cond now 1 0 ≤ cond old 1 0
counts_less true true kept = omega arith
counts_less true false kept = omega arith
counts_less false true kept = (let no : ⊥ = cc (kept refl) in absurd no)
counts_less false false kept = omega arith

-- a test that passes fewer counts no more
pub count_no_more : (bound : ℕ) (old now : ℕ → Bool) → ((n : ℕ) → now n ≡ true → old n ≡ true) → count_below bound now ≤ count_below bound old
unfolding count_below
count_no_more zero old now kept = omega arith
count_no_more (suc n) old now kept =
    let here = counts_less (old n) (now n) (kept n) in
    let rest = count_no_more n old now kept in
    omega arith

-- and less, where one that passed does not any more
pub count_less : (bound : ℕ) (old now : ℕ → Bool) → ((n : ℕ) → now n ≡ true → old n ≡ true) → (n : ℕ) → n < bound → old n ≡ true → now n ≡ false → count_below bound now + 1 ≤ count_below bound old
unfolding count_below
count_less zero old now kept n inside before behind = absurd (omega arith)
count_less (suc m) old now kept n inside before behind = by (nat_eq n m) refl (λ below. count_less m old now kept n below before behind)
  where
    by : (b : Bool) → nat_eq n m ≡ b → (n < m → count_below m now + 1 ≤ count_below m old) → count_below (suc m) now + 1 ≤ count_below (suc m) old
    by true is lower =
        (let same : n ≡ m = search arith in
        let old_counts : cond {A = ℕ} (old m) 1 0 ≡ 1 = ap (λ b. cond b 1 0) (ap old (sym same) ∙ before) in
        let now_counts : cond {A = ℕ} (now m) 1 0 ≡ 0 = ap (λ b. cond b 1 0) (ap now (sym same) ∙ behind) in
        let rest : count_below m now ≤ count_below m old = count_no_more m old now kept in
        omega arith)
    by false is lower =
        (let apart : n ≢ m = (λ e. search arith) in
        let here = counts_less (old m) (now m) (kept m) in
        let rest = lower (omega arith) in
        omega arith)
