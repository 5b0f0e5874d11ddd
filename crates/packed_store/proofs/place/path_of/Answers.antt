use Rattle.std.proofs.Common.{◌≡◌, ◌∷◌, ◌++◌, ◌+◌, ◌-◌, [], List, ℕ, codes, decimal, length, replicate, ap, ◌∙◌, append_assoc, arith}
use Rattle.std.proofs.lemmas.List.{replicate_more}
use Rattle.packed_store.proofs.place.path_of.Goals as goal

-- one zero more
zero_more : (front old new : List ℕ) (n : ℕ) → old ≡ front ++ replicate n 48 → new ≡ old ++ 48 ∷ [] → new ≡ front ++ replicate (n + 1) 48
zero_more front old new n before is =
    is ∙ ap (λ (bytes : List ℕ). bytes ++ 48 ∷ []) before ∙ append_assoc front (replicate n 48) (48 ∷ []) ∙ ap (λ (bytes : List ℕ). front ++ bytes) (replicate_more n 48)

-- all zeros, and the digits
zeros_done : (front old new digits : List ℕ) (n segment : ℕ) → digits ≡ decimal segment → n ≡ 8 - length digits → old ≡ front ++ replicate n 48 → new ≡ old ++ digits
    → new ≡ front ++ (replicate (8 - length (decimal segment)) 48 ++ decimal segment)
zeros_done front old new digits n segment text count before is =
    is ∙ ap (λ (bytes : List ℕ). bytes ++ digits) before ∙ append_assoc front (replicate n 48) digits
    ∙ ap (λ (k : ℕ). front ++ (replicate k 48 ++ digits)) count
    ∙ ap (λ (d : List ℕ). front ++ (replicate (8 - length d) 48 ++ d)) text

pub loop-preserved : goal.loop-preserved
loop-preserved c = zero_more (codes "segments/") _ _ c.loop.counter c.loop.invariant c.in_ok-push_str-2.ensures.bytes

pub returns : goal.returns
returns c =
    let count : c.loop.counter ≡ 8 - length c.format-digits.result.now = omega (arith, c.saturating_sub-end.ensures) in
    zeros_done (codes "segments/") _ _ c.format-digits.result.now c.loop.counter c.args.segment c.format-digits.ensures.text count c.loop.invariant c.in_ok-push_str-3.ensures.bytes
