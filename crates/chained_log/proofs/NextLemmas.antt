-- What is left in a log is a whole piece, the front of one, or neither.
use Rattle.std.proofs.Common.{◌≡◌, ℕ, ◌+◌, ◌-◌, ◌<◌, ◌≤◌, ◌^◌, List, ◌++◌, length, take, drop, replicate, sym, ap, ◌∙◌, arith, append_assoc, length-append, length-drop}
use Rattle.std.proofs.lemmas.List.{length-replicate}
use Rattle.chained_log.specs.Log.{SumKind, OfDigest, Fits, head_sum, length_bytes, piece_bytes, sum_after}
use Rattle.chained_log.specs.Next.{BeginsPiece, IsCut, IsAltered}
use Rattle.chained_log.proofs.SumLemmas.{agree, fronts, joined, length-head_sum, length-length_bytes, length-sum_after, one_length}

-- a piece's parts, and what follows
pub grouped : (kind : SumKind) (before piece rest : List ℕ) → piece_bytes kind before piece ++ rest ≡ length_bytes (length piece) ++ (head_sum before (length piece) ++ (piece ++ (sum_after kind before piece ++ rest)))
grouped kind before piece rest = simp append_assoc

pub length-piece_bytes : (kind : SumKind) (before piece : List ℕ) → length (piece_bytes kind before piece) ≡ 68 + length piece
length-piece_bytes kind before piece =
    let one = length-append (length_bytes (length piece)) (head_sum before (length piece) ++ (piece ++ sum_after kind before piece)) in
    let two = length-append (head_sum before (length piece)) (piece ++ sum_after kind before piece) in
    let three = length-append piece (sum_after kind before piece) in
    let a = length-length_bytes (length piece) in
    let b = length-head_sum before (length piece) in
    let d = length-sum_after kind before piece in
    omega (arith, one, two, three, a, b, d)

-- any piece that agrees with what is left has the length given there
pub meets : (kind : SumKind) (before left more rest r piece : List ℕ) (n : ℕ) → left ≡ length_bytes n ++ r → n < 2 ^ 32 → Fits piece → left ++ more ≡ piece_bytes kind before piece ++ rest
    → (n ≡ length piece) × (r ++ more ≡ head_sum before (length piece) ++ (piece ++ (sum_after kind before piece ++ rest)))
meets kind before left more rest r piece n parts small fits is =
    let whole = sym (append_assoc (length_bytes n) r more) ∙ (ap (λ l. l ++ more) (sym parts) ∙ (is ∙ grouped kind before piece rest)) in
    let two = fronts (length_bytes n) (length_bytes (length piece)) (r ++ more) _ (length-length_bytes n ∙ sym (length-length_bytes (length piece))) whole in
    (one_length n (length piece) small fits two.0, two.1)

-- the front of a length
pub cut_in_length : (before left : List ℕ) (n : ℕ) → n < 2 ^ 32 → length left < 4 → take 4 left ≡ take (length left) (length_bytes n) → IsCut before left
cut_in_length before left n small short agrees =
    let piece : List ℕ = replicate n 0 in
    let long : length piece ≡ n = length-replicate {A = ℕ} n 0 in
    let four = length-length_bytes n in
    let front = joined left (length_bytes n) (omega (arith, four)) (ap (λ k. take k left) four ∙ agrees) in
    let tail = head_sum before (length piece) ++ (piece ++ sum_after OfDigest before piece) in
    let lost = drop (length left) (length_bytes n) ++ tail in
    record {
      kind = OfDigest;
      piece = piece;
      lost = lost;
      fits = omega (arith, long);
      some = (let one = length-append (drop (length left) (length_bytes n)) tail in let two = length-drop (length left) (length_bytes n) in omega (arith, one, two, four));
      parts = sym (append_assoc left (drop (length left) (length_bytes n)) tail) ∙ ap (λ l. l ++ tail) (front ∙ ap length_bytes (sym long));
    }

-- the front of a head
pub cut_in_head : (before left r : List ℕ) (n : ℕ) → n < 2 ^ 32 → left ≡ length_bytes n ++ r → length r < 32 → take 32 r ≡ take (length r) (head_sum before n) → IsCut before left
cut_in_head before left r n small parts short agrees =
    let piece : List ℕ = replicate n 0 in
    let long : length piece ≡ n = length-replicate {A = ℕ} n 0 in
    let size = length-head_sum before n in
    let front = joined r (head_sum before n) (omega (arith, size)) (ap (λ k. take k r) size ∙ agrees) in
    let tail = piece ++ sum_after OfDigest before piece in
    let rest = drop (length r) (head_sum before n) in
    record {
      kind = OfDigest;
      piece = piece;
      lost = rest ++ tail;
      fits = omega (arith, long);
      some = (let one = length-append rest tail in let two = length-drop (length r) (head_sum before n) in omega (arith, one, two, size));
      parts = ap (λ l. l ++ (rest ++ tail)) parts ∙ (append_assoc (length_bytes n) r (rest ++ tail) ∙ (ap (λ l. length_bytes n ++ l) (sym (append_assoc r rest tail) ∙ ap (λ l. l ++ tail) front) ∙ ap (λ k. length_bytes k ++ (head_sum before k ++ tail)) (sym long)));
    }

-- the front of a piece's contents
pub cut_in_piece : (before left r : List ℕ) (n : ℕ) → n < 2 ^ 32 → left ≡ length_bytes n ++ (head_sum before n ++ r) → length r < n → IsCut before left
cut_in_piece before left r n small parts short =
    let more : List ℕ = replicate (n - length r) 0 in
    let piece = r ++ more in
    let long : length piece ≡ n = (let one = length-append r more in let two = length-replicate {A = ℕ} (n - length r) 0 in omega (arith, one, two)) in
    let sum = sum_after OfDigest before piece in
    record {
      kind = OfDigest;
      piece = piece;
      lost = more ++ sum;
      fits = omega (arith, long);
      some = (let one = length-append more sum in let two = length-replicate {A = ℕ} (n - length r) 0 in omega (arith, one, two));
      parts = ap (λ l. l ++ (more ++ sum)) parts ∙ (regroup (length_bytes n) (head_sum before n) r more sum ∙ ap (λ k. length_bytes k ++ (head_sum before k ++ (piece ++ sum))) (sym long));
    }
  where
    regroup : (a b r m s : List ℕ) → (a ++ (b ++ r)) ++ (m ++ s) ≡ a ++ (b ++ ((r ++ m) ++ s))
    regroup a b r m s = simp append_assoc

-- the front of the last sum
pub cut_in_sum : (kind : SumKind) (before left piece r : List ℕ) (n : ℕ) → n < 2 ^ 32 → length piece ≡ n → left ≡ length_bytes n ++ (head_sum before n ++ (piece ++ r)) → length r < 32
    → take 32 r ≡ take (length r) (sum_after kind before piece) → IsCut before left
cut_in_sum kind before left piece r n small long parts short agrees =
    let size = length-sum_after kind before piece in
    let front = joined r (sum_after kind before piece) (omega (arith, size)) (ap (λ k. take k r) size ∙ agrees) in
    let rest = drop (length r) (sum_after kind before piece) in
    record {
      kind = kind;
      piece = piece;
      lost = rest;
      fits = omega (arith, long);
      some = (let two = length-drop (length r) (sum_after kind before piece) in omega (arith, two, size));
      parts = ap (λ l. l ++ rest) parts ∙ (regroup (length_bytes n) (head_sum before n) piece r rest ∙ (ap (λ l. length_bytes n ++ (head_sum before n ++ (piece ++ l))) front ∙ ap (λ k. length_bytes k ++ (head_sum before k ++ (piece ++ sum_after kind before piece))) (sym long)));
    }
  where
    regroup : (a b p r m : List ℕ) → (a ++ (b ++ (p ++ r))) ++ m ≡ a ++ (b ++ (p ++ (r ++ m)))
    regroup a b p r m = simp append_assoc

-- a whole piece
pub begins_piece : (kind : SumKind) (before left piece r : List ℕ) (n : ℕ) → n < 2 ^ 32 → length piece ≡ n → left ≡ length_bytes n ++ (head_sum before n ++ (piece ++ r)) → 32 ≤ length r
    → take 32 r ≡ take (length r) (sum_after kind before piece) → BeginsPiece before left n
begins_piece kind before left piece r n small long parts enough agrees =
    let size = length-sum_after kind before piece in
    let sum = sum_after kind before piece in
    let rest = drop (length sum) r in
    let front : sum ++ rest ≡ r = joined sum r (omega (arith, size)) (sym (ap (λ k. take k r) size ∙ agrees)) in
    record {
      kind = kind;
      piece = piece;
      rest = rest;
      fits = omega (arith, long);
      long = long;
      parts = parts ∙ (ap (λ l. length_bytes n ++ (head_sum before n ++ (piece ++ l))) (sym front) ∙ (ap (λ k. length_bytes k ++ (head_sum before k ++ (piece ++ (sum ++ rest)))) (sym long) ∙ sym (grouped kind before piece rest)));
    }

-- a head that differs
pub altered_head : (before left r : List ℕ) (n : ℕ) → n < 2 ^ 32 → left ≡ length_bytes n ++ r → (take 32 r ≡ take (length r) (head_sum before n) → ⊥) → IsAltered before left
altered_head before left r n small parts differs kind piece more rest fits is =
    let both = meets kind before left more rest r piece n parts small fits is in
    let tail = piece ++ (sum_after kind before piece ++ rest) in
    let same : r ++ more ≡ head_sum before n ++ tail = both.1 ∙ ap (λ k. head_sum before k ++ tail) (sym both.0) in
    differs (ap (λ k. take k r) (sym (length-head_sum before n)) ∙ agree r more (head_sum before n) tail same)

-- a last sum that differs
pub altered_sum : (before left contents r : List ℕ) (n : ℕ) → n < 2 ^ 32 → length contents ≡ n → left ≡ length_bytes n ++ (head_sum before n ++ (contents ++ r))
    → ((kind : SumKind) → take 32 r ≡ take (length r) (sum_after kind before contents) → ⊥) → IsAltered before left
altered_sum before left contents r n small long parts differs kind piece more rest fits is =
    let both = meets kind before left more rest (head_sum before n ++ (contents ++ r)) piece n parts small fits is in
    let heads = length-head_sum before n ∙ sym (length-head_sum before (length piece)) in
    let after = fronts (head_sum before n) (head_sum before (length piece)) ((contents ++ r) ++ more) (piece ++ (sum_after kind before piece ++ rest)) heads (sym (append_assoc (head_sum before n) (contents ++ r) more) ∙ both.1) in
    let two = fronts contents piece (r ++ more) (sum_after kind before piece ++ rest) (long ∙ both.0) (sym (append_assoc contents r more) ∙ after.1) in
    let same : r ++ more ≡ sum_after kind before contents ++ rest = two.1 ∙ ap (λ p. sum_after kind before p ++ rest) (sym two.0) in
    differs kind (ap (λ k. take k r) (sym (length-sum_after kind before contents)) ∙ agree r more (sum_after kind before contents) rest same)
