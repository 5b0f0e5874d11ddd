-- What is left, taken apart as it is looked at.
use Rattle.std.proofs.Common.{◌≡◌, ℕ, ◌+◌, ◌<◌, ◌≤◌, ◌^◌, List, [], ◌++◌, length, take, drop, refl, sym, ap, ap₂, ◌∙◌, arith, append_assoc, append-nil}
use Rattle.std.proofs.lemmas.List.{take-append-drop, take_all}
use Rattle.chained_log.specs.Log.{SumKind, Fits, head_sum, length_bytes, piece_bytes, sum_after}
use Rattle.chained_log.proofs.SumLemmas.{length-length_bytes, length-head_sum}
use Rattle.chained_log.proofs.NextLemmas.{length-piece_bytes, meets}

-- a length, and what follows
pub after_length : (left rest : List ℕ) (n : ℕ) → 4 ≤ length left → take 4 left ≡ take (length left) (length_bytes n) → rest ≡ drop 4 left → left ≡ length_bytes n ++ rest
after_length left rest n enough agrees is =
    let all : take (length left) (length_bytes n) ≡ length_bytes n = take_all (length left) (length_bytes n) (let four = length-length_bytes n in omega (arith, four)) in
    sym (take-append-drop 4 left) ∙ ap₂ (λ (a b : List ℕ). a ++ b) (agrees ∙ all) (sym is)

-- a head, and what follows
pub after_head : (before left rest behind : List ℕ) (n : ℕ) → left ≡ length_bytes n ++ rest → 32 ≤ length rest → take 32 rest ≡ take (length rest) (head_sum before n) → behind ≡ drop 32 rest
    → left ≡ length_bytes n ++ (head_sum before n ++ behind)
after_head before left rest behind n parts enough agrees is =
    let all : take (length rest) (head_sum before n) ≡ head_sum before n = take_all (length rest) (head_sum before n) (let size = length-head_sum before n in omega (arith, size)) in
    parts ∙ ap (λ l. length_bytes n ++ l) (sym (take-append-drop 32 rest) ∙ ap₂ (λ (a b : List ℕ). a ++ b) (agrees ∙ all) (sym is))

-- a piece's contents, and what follows
pub after_piece : (before left behind piece rest : List ℕ) (n : ℕ) → left ≡ length_bytes n ++ (head_sum before n ++ behind) → piece ≡ take n behind → rest ≡ drop n behind
    → left ≡ length_bytes n ++ (head_sum before n ++ (piece ++ rest))
after_piece before left behind piece rest n parts one two =
    parts ∙ ap (λ l. length_bytes n ++ (head_sum before n ++ l)) (sym (take-append-drop n behind) ∙ ap₂ (λ (a b : List ℕ). a ++ b) (sym one) (sym two))

-- a piece that was put together
pub put_together : (kind : SumKind) (before piece none one two three all len head sum : List ℕ) → none ≡ [] → one ≡ none ++ len → two ≡ one ++ head → three ≡ two ++ piece → all ≡ three ++ sum
    → len ≡ length_bytes (length piece) → head ≡ head_sum before (length piece) → sum ≡ sum_after kind before piece → all ≡ piece_bytes kind before piece
put_together kind before piece none one two three all len head sum empty a b c d is_len is_head is_sum =
    let whole : all ≡ (((([] ++ length_bytes (length piece)) ++ head_sum before (length piece)) ++ piece) ++ sum_after kind before piece) = cc in
    whole ∙ regroup (length_bytes (length piece)) (head_sum before (length piece)) (sum_after kind before piece)
  where
    regroup : (l h s : List ℕ) → ((l ++ h) ++ piece) ++ s ≡ l ++ (h ++ (piece ++ s))
    regroup l h s = simp append_assoc

-- the length of the piece that begins so
pub length_of_front : (kind : SumKind) (before front piece lost : List ℕ) (n : ℕ) → n < 2 ^ 32 → Fits piece → 4 ≤ length front → take 4 front ≡ take (length front) (length_bytes n) → front ++ lost ≡ piece_bytes kind before piece
    → length (piece_bytes kind before piece) ≡ 68 + n
length_of_front kind before front piece lost n small fits enough agrees is =
    let parts = after_length front (drop 4 front) n enough agrees refl in
    let both = meets kind before front lost [] (drop 4 front) piece n parts small fits (is ∙ sym (append-nil _)) in
    length-piece_bytes kind before piece ∙ ap (λ k. 68 + k) (sym both.0)
