-- The contents of a log, piece by piece.
use Rattle.std.proofs.Common.{◌≡◌, ℕ, zero, suc, ◌+◌, ◌<◌, ◌≤◌, ◌^◌, Bool, true, false, if◌then◌else◌, List, [], ◌∷◌, ◌++◌, length, take, drop, nat_eq, refl, sym, ap, ap₂, ◌∙◌, arith, append_assoc, append-nil, length-append, length-take, length-drop}
use Rattle.std.proofs.lemmas.List.{take-append-drop, take-append-le, take_all}
use Rattle.std.proofs.lemmas.List.Elements.{All-head, All-tail}
use Rattle.std.specs.List.{concat}
use Rattle.std.proofs.Math.Seq.{take-append_seam, drop-append_seam}
use Rattle.std.specs.Int.{from_be_bytes, to_be_bytes, w32}
use Rattle.std.specs.Cmp.Lexicographic.{pointwise, same_text, other_text}
use Rattle.std.proofs.lemmas.Nat.{from_be_bytes-to_be_bytes_4}
use Rattle.chained_log.specs.declared.fault.Ended.{Ended}
use Rattle.chained_log.specs.declared.fault.Ended.TheVariants.{Whole, Cut, Altered}
use Rattle.chained_log.specs.Laws.{ContentsAreRead, WrittenContents, FrontContents, SyncedContents}
use Rattle.chained_log.specs.Log.{SumKind, OfDigest, OfContents, Fits, contents, head_sum, length_bytes, log_bytes, piece_bytes, sum_after}
use Rattle.chained_log.specs.Next.{EndsAs, IsCut, IsAltered}
use Rattle.chained_log.specs.Reading.{length_told, contents_at, begins, first_contents, log_contents}
use Rattle.chained_log.proofs.SumLemmas.{fronts, length-length_bytes, length-head_sum}
use Rattle.chained_log.proofs.NextLemmas.{grouped, length-piece_bytes}
use Rattle.chained_log.proofs.LawLemmas.{front_is_read, log_is_read, not_cut_piece, one_piece}
use Rattle.chained_log.proofs.ReadingLemmas.{front_of}

pub same_bytes : (xs ys : List ℕ) → xs ≡ ys → pointwise nat_eq xs ys ≡ true
same_bytes xs ys e = told (pointwise nat_eq xs ys) refl
  where
    told : (b : Bool) → b ≡ pointwise nat_eq xs ys → pointwise nat_eq xs ys ≡ true
    told true is = sym is
    told false is = absurd (other_text xs ys is e)

-- four bytes of any number give a length that fits
told_fits : (n : ℕ) → from_be_bytes w32 (to_be_bytes w32 n) < 2 ^ 32
told_fits n = omega arith

-- a piece's first four bytes give its length
pub told_of : (kind : SumKind) (before left piece rest : List ℕ) → Fits piece → left ≡ piece_bytes kind before piece ++ rest → length_told left ≡ length piece
unfolding length_told length_bytes
told_of kind before left piece rest fits is =
    let tail = head_sum before (length piece) ++ (piece ++ (sum_after kind before piece ++ rest)) in
    ap (λ l. from_be_bytes w32 (take 4 l)) (is ∙ grouped kind before piece rest)
    ∙ ap (from_be_bytes w32) (take-append_seam (to_be_bytes w32 (length piece)) tail)
    ∙ from_be_bytes-to_be_bytes_4 (length piece) fits

-- behind a piece's head are its contents
pub contents_of : (kind : SumKind) (before left piece rest : List ℕ) → Fits piece → left ≡ piece_bytes kind before piece ++ rest → contents_at left ≡ piece
contents_of kind before left piece rest fits is =
    let head = length_bytes (length piece) ++ head_sum before (length piece) in
    let tail = sum_after kind before piece ++ rest in
    let size : length head ≡ 36 = (let one = length-append (length_bytes (length piece)) (head_sum before (length piece)) in let a = length-length_bytes (length piece) in let b = length-head_sum before (length piece) in omega (arith, one, a, b)) in
    let parts : left ≡ head ++ (piece ++ tail) = is ∙ grouped kind before piece rest ∙ sym (append_assoc (length_bytes (length piece)) (head_sum before (length piece)) (piece ++ tail)) in
    ap₂ (λ (n : ℕ) (l : List ℕ). take n (drop 36 l)) (told_of kind before left piece rest fits is) parts
    ∙ ap (λ k. take (length piece) (drop k (head ++ (piece ++ tail)))) (sym size)
    ∙ ap (take (length piece)) (drop-append_seam head (piece ++ tail))
    ∙ take-append_seam piece tail

-- the length of a whole piece, as its front gives it
pub whole_told : (kind : SumKind) (before left piece rest : List ℕ) → Fits piece → left ≡ piece_bytes kind before piece ++ rest → length_told left + 68 ≡ length (piece_bytes kind before piece)
whole_told kind before left piece rest fits is =
    let told = told_of kind before left piece rest fits is in
    let size = length-piece_bytes kind before piece in
    omega (arith, told, size)

-- bytes that begin with a piece are found to begin with it
pub begun : (kind : SumKind) (before left piece rest : List ℕ) → Fits piece → left ≡ piece_bytes kind before piece ++ rest → begins kind before left ≡ true
begun kind before left piece rest fits is =
    same_bytes _ _ (
    ap₂ (λ (n : ℕ) (l : List ℕ). take n l) (whole_told kind before left piece rest fits is) is
    ∙ take-append_seam (piece_bytes kind before piece) rest
    ∙ ap (piece_bytes kind before) (sym (contents_of kind before left piece rest fits is))
    )

-- what is found to begin with a piece is that piece, and what follows
pub parts_begun : (kind : SumKind) (before left : List ℕ) → begins kind before left ≡ true
    → Fits (contents_at left) × (left ≡ piece_bytes kind before (contents_at left) ++ drop (length_told left + 68) left)
unfolding length_told length_bytes
parts_begun kind before left is =
    let n = from_be_bytes w32 (take 4 left) in
    let p = take n (drop 36 left) in
    let same : take (n + 68) left ≡ piece_bytes kind before p = same_text _ _ (sym is) in
    let size : length (take (n + 68) left) ≡ 68 + length p = ap (λ (l : List ℕ). length l) same ∙ length-piece_bytes kind before p in
    let short = length-take (n + 68) left in
    let few = length-take n (drop 36 left) in
    let tail = head_sum before (length p) ++ (p ++ sum_after kind before p) in
    let four : take 4 left ≡ to_be_bytes w32 (length p) = sym (front_of 4 (n + 68) left (omega arith) (omega (arith, size, short))) ∙ ap (take 4) same ∙ take-append_seam (to_be_bytes w32 (length p)) tail in
    let told : n < 2 ^ 32 = (let bound = told_fits (length p) in let at : n ≡ from_be_bytes w32 (to_be_bytes w32 (length p)) = ap (from_be_bytes w32) four in omega (arith, bound, at)) in
    (omega (arith, few, told), sym (take-append-drop (n + 68) left) ∙ ap (λ l. l ++ drop (n + 68) left) same)

-- what a piece gives, and what is behind it
abbrev behind : SumKind → ℕ → List ℕ → List ℕ → List ℕ
behind kind most before left = contents_at left ++ first_contents most (sum_after kind before (contents_at left)) (drop (length_told left + 68) left)

-- a piece is found in one way only
found_once : (k kind : SumKind) (most : ℕ) (before left piece rest : List ℕ) → Fits piece → left ≡ piece_bytes kind before piece ++ rest → begins k before left ≡ true
    → behind k most before left ≡ piece ++ first_contents most (sum_after kind before piece) rest
found_once k kind most before left piece rest fits is begun =
    let parts = parts_begun k before left begun in
    let one = one_piece k kind before (contents_at left) piece (drop (length_told left + 68) left) rest parts.0 fits (sym parts.1 ∙ is) in
    ap₂ (λ (a b : List ℕ). a ++ b) one.0 (ap₂ (λ (s l : List ℕ). first_contents most s l) one.1 one.2)

either : (a b : Bool) (x y z : List ℕ) → (a ≡ true → x ≡ z) → (b ≡ true → y ≡ z) → (a ≡ false → b ≡ true) → (if a then x else if b then y else []) ≡ z
either true b x y z first second one = first refl
either false true x y z first second one = second refl
either false false x y z first second one = (let no : ⊥ = (let bad : false ≡ true = one refl in cc) in absurd no)

pub one_begins : (kind : SumKind) (before left : List ℕ) → begins kind before left ≡ true → begins OfDigest before left ≡ false → begins OfContents before left ≡ true
one_begins OfDigest before left is other = (let bad : ⊥ = (let both : true ≡ false = sym is ∙ other in cc) in absurd bad)
one_begins OfContents before left is other = is

-- the contents of a piece, and then of those that follow
first_step : (kind : SumKind) (most : ℕ) (before left piece rest : List ℕ) → Fits piece → left ≡ piece_bytes kind before piece ++ rest
    → first_contents (suc most) before left ≡ piece ++ first_contents most (sum_after kind before piece) rest
first_step kind most before left piece rest fits is =
    either (begins OfDigest before left) (begins OfContents before left) (behind OfDigest most before left) (behind OfContents most before left) _
    (found_once OfDigest kind most before left piece rest fits is) (found_once OfContents kind most before left piece rest fits is)
    (one_begins kind before left (begun kind before left piece rest fits is))

neither : (a b : Bool) (x y : List ℕ) → (a ≡ true → ⊥) → (b ≡ true → ⊥) → (if a then x else if b then y else []) ≡ []
neither true b x y first second = absurd (first refl)
neither false true x y first second = absurd (second refl)
neither false false x y first second = refl

-- where no piece begins, there are no contents
first_none : (most : ℕ) (before left : List ℕ) → ((kind : SumKind) → begins kind before left ≡ true → ⊥) → first_contents most before left ≡ []
first_none zero before left none = refl
first_none (suc most) before left none = neither (begins OfDigest before left) (begins OfContents before left) (behind OfDigest most before left) (behind OfContents most before left) (none OfDigest) (none OfContents)

pub none_in_nothing : (kind : SumKind) (before left : List ℕ) → length left ≤ 0 → begins kind before left ≡ true → ⊥
none_in_nothing kind before left short is =
    let parts = (parts_begun kind before left is).1 in
    let whole = ap (λ (l : List ℕ). length l) parts in
    let both = length-append (piece_bytes kind before (contents_at left)) (drop (length_told left + 68) left) in
    let size = length-piece_bytes kind before (contents_at left) in
    omega (arith, whole, both, size)

-- a bound as great as the length is enough
first_enough : (a b : ℕ) (before left : List ℕ) → length left ≤ a → length left ≤ b → first_contents a before left ≡ first_contents b before left
first_enough zero b before left p q = sym (first_none b before left (λ kind is. none_in_nothing kind before left p is))
first_enough (suc a) zero before left p q = first_none (suc a) before left (λ kind is. none_in_nothing kind before left q is)
first_enough (suc a) (suc b) before left p q =
    let rest = drop (length_told left + 68) left in
    let fewer = length-drop (length_told left + 68) left in
    let one : length rest ≤ a = omega (arith, fewer, p) in
    let two : length rest ≤ b = omega (arith, fewer, q) in
    ap₂ (λ (x y : List ℕ). if begins OfDigest before left then contents_at left ++ x else if begins OfContents before left then contents_at left ++ y else [])
    (first_enough a b (sum_after OfDigest before (contents_at left)) rest one two) (first_enough a b (sum_after OfContents before (contents_at left)) rest one two)

-- the contents of a log are those of its first piece, and then those of what follows
pub contents_step : (kind : SumKind) (before left piece rest : List ℕ) → Fits piece → left ≡ piece_bytes kind before piece ++ rest
    → log_contents before left ≡ piece ++ log_contents (sum_after kind before piece) rest
unfolding log_contents
contents_step kind before left piece rest fits is =
    let whole : length left ≡ length (piece_bytes kind before piece ++ rest) = ap (λ (l : List ℕ). length l) is in
    let both = length-append (piece_bytes kind before piece) rest in
    let fewer : length rest ≤ length left = omega (arith, whole, both) in
    first_enough (length left) (suc (length left)) before left (omega arith) (omega arith) ∙ first_step kind (length left) before left piece rest fits is
    ∙ ap (λ l. piece ++ l) (first_enough (length left) (length rest) (sum_after kind before piece) rest fewer (omega arith))

-- there are none where no piece begins
contents_none : (before left : List ℕ) → ((kind : SumKind) → begins kind before left ≡ true → ⊥) → log_contents before left ≡ []
unfolding log_contents
contents_none before left none = first_none (length left) before left none

pub none_altered : (before left : List ℕ) → IsAltered before left → log_contents before left ≡ []
none_altered before left altered =
    contents_none before left (λ kind is. let parts = parts_begun kind before left is in altered kind (contents_at left) [] (drop (length_told left + 68) left) parts.0 (append-nil left ∙ parts.1))

pub none_cut : (before left : List ℕ) → IsCut before left → log_contents before left ≡ []
none_cut before left cut =
    contents_none before left (λ kind is. let parts = parts_begun kind before left is in not_cut_piece kind before left (contents_at left) (drop (length_told left + 68) left) cut parts.0 parts.1)

pub none_empty : (before left : List ℕ) → left ≡ [] → log_contents before left ≡ []
none_empty before left none =
    contents_none before left (λ kind is. let empty : length left ≡ 0 = ap (λ (l : List ℕ). length l) none in none_in_nothing kind before left (omega (arith, empty)) is)

-- after the last piece there are none
none_at_end : (before left : List ℕ) (ended : Ended) → EndsAs before left ended → log_contents before left ≡ []
none_at_end before left Whole ends = none_empty before left ends
none_at_end before left Cut ends = none_cut before left ends.1
none_at_end before left Altered ends = none_altered before left ends

pub contents_read : ContentsAreRead
contents_read before left [] ended read = none_at_end before left ended read
contents_read before left (piece ∷ pieces) ended read =
    contents_step read.0 before left piece read.1 read.2 read.3 ∙ ap (λ l. piece ++ l) (contents_read (sum_after read.0 before piece) read.1 pieces ended read.4)

pub written_contents : WrittenContents
written_contents before pieces fits = contents_read before (log_bytes before pieces) (contents pieces) Whole (log_is_read before pieces fits)

pub front_contents : FrontContents
front_contents before pieces front rest fits is =
    let read = front_is_read before pieces front rest fits is in
    record { found = read.found; lost = read.lost; parts = read.parts; given = contents_read before front read.found read.ended read.read }

pub synced_contents : SyncedContents
synced_contents before [] others more rest fits fit is =
    let first = front_contents before others more rest fit is in
    record { found = first.found; lost = first.lost; parts = first.parts; given = first.given }
synced_contents before (piece ∷ pieces) others more rest fits fit is =
    let whole = piece_bytes piece.0 before piece.1 in
    let sum = sum_after piece.0 before piece.1 in
    let behind = log_bytes sum pieces in
    let tail = (fronts whole whole (log_bytes sum (pieces ++ others)) (behind ++ (more ++ rest)) refl (is ∙ append_assoc whole behind (more ++ rest))).1 in
    let later = synced_contents sum pieces others more rest (All-tail Fits piece.1 (contents pieces) fits) fit tail in
    record {
      found = later.found;
      lost = later.lost;
      parts = later.parts;
      given = contents_step piece.0 before ((whole ++ behind) ++ more) piece.1 (behind ++ more) (All-head Fits piece.1 (contents pieces) fits) (append_assoc whole behind more)
          ∙ ap (λ (l : List ℕ). piece.1 ++ l) later.given ∙ sym (append_assoc piece.1 (concat (contents pieces)) (concat later.found));
    }

-- the length that four bytes give
pub told_at : (front : List ℕ) (n : ℕ) → n < 2 ^ 32 → 4 ≤ length front → take 4 front ≡ take (length front) (length_bytes n) → length_told front ≡ n
unfolding length_told length_bytes
told_at front n small enough agrees =
    let all : take (length front) (to_be_bytes w32 n) ≡ to_be_bytes w32 n = take_all (length front) (to_be_bytes w32 n) enough in
    ap (from_be_bytes w32) (agrees ∙ all) ∙ from_be_bytes-to_be_bytes_4 n small

-- more bytes behind the first four change nothing of it
pub told_more : (front more : List ℕ) → 4 ≤ length front → length_told (front ++ more) ≡ length_told front
unfolding length_told
told_more front more enough = ap (from_be_bytes w32) (take-append-le 4 front more enough)
