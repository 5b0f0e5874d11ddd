-- How many names a test leaves out.
use Rattle.std.proofs.Common.{◌≡◌, ℕ, zero, suc, ◌+◌, ◌<◌, ◌≤◌, Bool, true, false, not, cond, List, [], ◌∷◌, length, get_or, refl, arith}
use Rattle.std.specs.List.{count_by}
use Rattle.std.proofs.lemmas.List.Sums.{sum_by-cons}

-- whether a name counts
abbrev counts : Bool → ℕ
counts seen = cond (not seen) 1 0

-- how many of these names a test leaves out
abbrev pub left_out : (List ℕ → Bool) → List (List ℕ) → ℕ
left_out seen names = count_by (λ name. not (seen name)) names

left_out-cons : (seen : List ℕ → Bool) (name : List ℕ) (names : List (List ℕ)) → left_out seen (name ∷ names) ≡ counts (seen name) + left_out seen names
left_out-cons seen name names = sum_by-cons (λ x. counts (seen x)) name names

counts_less : (old now : Bool) → (old ≡ true → now ≡ true) → counts now ≤ counts old
counts_less true true kept = omega arith
counts_less true false kept = (let no : ⊥ = cc (kept refl) in absurd no)
counts_less false true kept = omega arith
counts_less false false kept = omega arith

-- a test that passes more leaves out no more
pub left_out_no_more : (old now : List ℕ → Bool) → ((name : List ℕ) → old name ≡ true → now name ≡ true) → (names : List (List ℕ)) → left_out now names ≤ left_out old names
left_out_no_more old now kept [] = omega arith
left_out_no_more old now kept (name ∷ names) =
    let here = counts_less (old name) (now name) (kept name) in
    let rest = left_out_no_more old now kept names in
    omega (arith, left_out-cons old name names, left_out-cons now name names)

-- and less, where it passes one of the names that did not pass before
pub left_out_less : (old now : List ℕ → Bool) → ((name : List ℕ) → old name ≡ true → now name ≡ true) → (names : List (List ℕ)) (name : List ℕ) (k : ℕ) → k < length names → get_or names k name ≡ name → old name ≡ false → now name ≡ true
    → left_out now names + 1 ≤ left_out old names
left_out_less old now kept [] name k inside is before behind = absurd (omega arith)
left_out_less old now kept (first ∷ names) name zero inside is before behind =
    let old_counts : counts (old first) ≡ 1 = rw (is, before) refl in
    let now_counts : counts (now first) ≡ 0 = rw (is, behind) refl in
    let rest = left_out_no_more old now kept names in
    omega (arith, left_out-cons old first names, left_out-cons now first names)
left_out_less old now kept (first ∷ names) name (suc k) inside is before behind =
    let here = counts_less (old first) (now first) (kept first) in
    let rest = left_out_less old now kept names name k (omega arith) is before behind in
    omega (arith, left_out-cons old first names, left_out-cons now first names)
