-- Bytes read into their final place.
use Rattle.std.proofs.Common.{◌≡◌, ℕ, ◌+◌, ◌≤◌, List, ◌++◌, length, take, drop, ap, sym, ◌∙◌, arith, length-append, length-take}
use Rattle.std.proofs.lemmas.List.{take_all, take-append-drop, take-append-le}
use Rattle.std.proofs.Math.Seq.{take-append-add, take-append_seam}

-- the front of a front
pub front_of : (k n : ℕ) (xs : List ℕ) → k ≤ n → k ≤ length xs → take k (take n xs) ≡ take k xs
front_of k n xs short inside =
    let most : k ≤ length (take n xs) = (let is = length-take n xs in omega (arith, is)) in
    sym (ap (take k) (sym (take-append-drop n xs)) ∙ take-append-le k (take n xs) (drop n xs) most)

-- what is kept of a text whose last part was read, and of that part
pub kept_of_read : (text old buf post rest : List ℕ) (at n len : ℕ) → length old ≡ at → take at text ≡ old → n ≤ length buf → at + length buf ≤ len
    → take (at + n) (take len ((take at text ++ (buf ++ post)) ++ rest)) ≡ old ++ take n buf
kept_of_read text old buf post rest at n len size front few fits =
    let whole = old ++ (buf ++ post) in
    let long : at + n ≤ length whole = simp (length-append) (omega arith) in
    let most : at + n ≤ length (whole ++ rest) = (let is = length-append whole rest in omega (arith, is, long)) in
    ap (λ t. take (at + n) (take len ((t ++ (buf ++ post)) ++ rest))) front ∙ front_of (at + n) len (whole ++ rest) (omega arith) most ∙ take-append-le (at + n) whole rest long
    ∙ ap (λ k. take (k + n) whole) (sym size) ∙ take-append-add old (buf ++ post) n ∙ ap (λ t. old ++ t) (take-append-le n buf post few)

-- a text that was made longer begins with what it was
pub grown_begins : (old more : List ℕ) (at most : ℕ) → length old ≡ at → take at (take (at + most) old ++ more) ≡ old
grown_begins old more at most size = ap (λ t. take at (t ++ more)) (take_all (at + most) old (omega (arith, size))) ∙ ap (λ k. take k (old ++ more)) (sym size) ∙ take-append_seam old more
