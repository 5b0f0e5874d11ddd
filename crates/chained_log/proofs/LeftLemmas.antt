-- What a reader has left to give, as it reads, opens and gives pieces.
use Rattle.std.proofs.Common.{◌≡◌, ℕ, zero, suc, ◌+◌, ◌-◌, ◌≤◌, ◌⊎◌, inl, inr, max, Option, Some, None, IfSome, List, [], ◌∷◌, ◌++◌, length, take, drop, slice_range, refl, sym, ap, ap₂, ◌∙◌, subst, arith, append_assoc, append-nil, length-append, length-drop}
use Rattle.std.specs.Option.{option_map}
use Rattle.std.specs.Io.KnownBytes.{Consumes, IsAtEnd, Keeps}
use Rattle.std.proofs.KnownBytes.{Keeps-trans}
use Rattle.std.proofs.Math.Seq.{drop-append_seam, drop-drop, take-add, take-append_seam}
use Rattle.chained_log.specs.declared.fault.Ended.{Ended}
use Rattle.chained_log.specs.declared.next.Found.{Found}
use Rattle.chained_log.specs.declared.next.Found.TheVariants.{Piece, Cut, Altered}
use Rattle.chained_log.specs.Log.{SumKind, head_sum, length_bytes, piece_bytes, sum_after}
use Rattle.chained_log.specs.Next.{BeginsPiece, IsNextOf}
use Rattle.chained_log.specs.Reading.{IsOnePiece, length_told, log_contents, received, following, log_left}
use Rattle.chained_log.proofs.SumLemmas.{length-length_bytes, length-head_sum, length-sum_after}
use Rattle.chained_log.proofs.NextLemmas.{length-piece_bytes}
use Rattle.chained_log.proofs.ReadingLemmas.{front_of}
use Rattle.chained_log.proofs.ContentsLemmas.{contents_step, none_altered, none_cut, told_more, told_of}

nothing : (xs : List ℕ) → length xs ≤ 0 → xs ≡ []
nothing [] short = refl
nothing (x ∷ xs) short = absurd (omega arith)

-- what was received stays at most one piece, if no more is read than that
pub stays_one : (old more came : List ℕ) (most : ℕ) → came ≡ old ++ more → length came ≤ max (length old) most → length old ≤ length_told old + 68 → (most ≤ 36) ⊎ ((4 ≤ length old) × (most ≤ length_told old + 68))
    → length came ≤ length_told came + 68
stays_one old [] came most is bound one way = subst (λ l. length l ≤ length_told l + 68) (sym (is ∙ append-nil old)) one
stays_one old (x ∷ more) came most is bound one (inl few) =
    let both : length came ≡ length old + length (x ∷ more) = ap (λ (l : List ℕ). length l) is ∙ length-append old (x ∷ more) in
    omega (arith, both, bound, few)
stays_one old (x ∷ more) came most is bound one (inr told) =
    let both : length came ≡ length old + length (x ∷ more) = ap (λ (l : List ℕ). length l) is ∙ length-append old (x ∷ more) in
    let stays : length_told came ≡ length_told old = ap length_told is ∙ told_more old (x ∷ more) told.0 in
    let few = told.1 in
    omega (arith, both, bound, stays, few)

-- so it does, if its head is read first, and then the whole of it
pub stays_whole : (old some first more came : List ℕ) (whole : ℕ) → first ≡ old ++ some → length first ≤ max (length old) 36 → 36 ≤ length first → came ≡ first ++ more → length came ≤ max (length first) whole
    → (4 ≤ length first → whole ≡ length_told first + 68) → length old ≤ length_told old + 68 → length came ≤ length_told came + 68
stays_whole old some first more came whole is_first first_bound enough is bound told one =
    let size = told (omega (arith, enough)) in
    stays_one first more came whole is bound (stays_one old some first 36 is_first first_bound one (inl (omega arith))) (inr (omega (arith, enough), omega (arith, size)))

received_none : (came : List ℕ) (end : ℕ) → 1 ≤ end → received came end ≡ []
received_none came zero some = absurd (omega arith)
received_none came (suc end) some = refl

-- a piece that was received whole, with nothing behind it
exact : (sum came : List ℕ) (len : ℕ) → length came ≤ length_told came + 68 → (piece : BeginsPiece sum came len) → came ≡ piece_bytes piece.kind sum piece.piece
exact sum came len one piece =
    let told = told_of piece.kind sum came piece.piece piece.rest piece.fits piece.parts in
    let size = length-piece_bytes piece.kind sum piece.piece in
    let both : length came ≡ length (piece_bytes piece.kind sum piece.piece) + length piece.rest = ap (λ (l : List ℕ). length l) piece.parts ∙ length-append (piece_bytes piece.kind sum piece.piece) piece.rest in
    piece.parts ∙ ap (λ l. piece_bytes piece.kind sum piece.piece ++ l) (nothing piece.rest (omega (arith, told, size, both, one))) ∙ append-nil _

-- a piece is received with its head and its last sum
pub room_of : (sum came : List ℕ) (len : ℕ) → BeginsPiece sum came len → len + 68 ≤ length came
room_of sum came len piece =
    let size = length-piece_bytes piece.kind sum piece.piece in
    let long = piece.long in
    let both : length came ≡ length (piece_bytes piece.kind sum piece.piece) + length piece.rest = ap (λ (l : List ℕ). length l) piece.parts ∙ length-append (piece_bytes piece.kind sum piece.piece) piece.rest in
    omega (arith, size, long, both)

-- the contents of a piece, and its last sum
split_piece : (kind : SumKind) (sum came piece : List ℕ) → came ≡ piece_bytes kind sum piece
    → (take (length piece) (drop 36 came) ≡ piece) × (drop (36 + length piece) came ≡ sum_after kind sum piece)
split_piece kind sum came piece is =
    let head = length_bytes (length piece) ++ head_sum sum (length piece) in
    let last = sum_after kind sum piece in
    let size : length head ≡ 36 = (let one = length-append (length_bytes (length piece)) (head_sum sum (length piece)) in let a = length-length_bytes (length piece) in let b = length-head_sum sum (length piece) in omega (arith, one, a, b)) in
    let parts : came ≡ head ++ (piece ++ last) = is ∙ sym (append_assoc (length_bytes (length piece)) (head_sum sum (length piece)) (piece ++ last)) in
    let front : came ≡ (head ++ piece) ++ last = parts ∙ sym (append_assoc head piece last) in
    let long : length (head ++ piece) ≡ 36 + length piece = (let one = length-append head piece in omega (arith, one, size)) in (
      ap (λ l. take (length piece) (drop 36 l)) parts ∙ ap (λ k. take (length piece) (drop k (head ++ (piece ++ last)))) (sym size) ∙ ap (take (length piece)) (drop-append_seam head (piece ++ last)) ∙ take-append_seam piece last,
      ap (λ l. drop (36 + length piece) l) front ∙ ap (λ k. drop k ((head ++ piece) ++ last)) (sym long) ∙ drop-append_seam (head ++ piece) last,
    )

open_one : (a : Option (List ℕ)) (sum next came : List ℕ) (len : ℕ) → length came ≤ length_told came + 68 → BeginsPiece sum came len → next ≡ slice_range came (36 + len) (36 + len + 32)
    → log_left a next came 36 (36 + len) None ≡ log_left a sum came 0 0 None
open_one None sum next came len one piece is = refl
open_one (Some left) sum next came len one piece is =
    let all = exact sum came len one piece in
    let parts = split_piece piece.kind sum came piece.piece all in
    let long = piece.long in
    let given : slice_range came 36 (36 + len) ≡ piece.piece = (let k : (36 + len) - 36 ≡ length piece.piece = omega (arith, long) in ap (λ n. take n (drop 36 came)) k ∙ parts.0) in
    let last : drop (36 + len) came ≡ sum_after piece.kind sum piece.piece = ap (λ n. drop (36 + n) came) (sym long) ∙ parts.1 in
    let sums : next ≡ sum_after piece.kind sum piece.piece = (
    let k : (36 + len + 32) - (36 + len) ≡ length (sum_after piece.kind sum piece.piece) = (let size = length-sum_after piece.kind sum piece.piece in omega (arith, size)) in
    is ∙ ap₂ (λ (n : ℕ) (l : List ℕ). take n l) k last ∙ ap (take (length (sum_after piece.kind sum piece.piece))) (sym (append-nil _)) ∙ take-append_seam (sum_after piece.kind sum piece.piece) []
    )
    in
    let after : log_contents next (received came (36 + len) ++ left) ≡ log_contents (sum_after piece.kind sum piece.piece) left = ap₂ (λ (s l : List ℕ). log_contents s l) sums (ap (λ l. l ++ left) (received_none came (36 + len) (omega arith))) in
    let whole = contents_step piece.kind sum (came ++ left) piece.piece left piece.fits (ap (λ l. l ++ left) all) in
    ap Some (ap₂ (λ (x y : List ℕ). x ++ y) given after ∙ sym whole)

-- what is left where no piece is given
at_start : (a : Option (List ℕ)) (sum came : List ℕ) (at end : ℕ) (ended : Option Ended) → at ≡ 0 → end ≡ 0 → ended ≡ None → log_left a sum came at end ended ≡ log_left a sum came 0 0 None
at_start a sum came at end ended is_at is_end is_ended =
    ap (λ k. log_left a sum came k end ended) is_at ∙ ap (λ k. log_left a sum came 0 k ended) is_end ∙ ap (λ (e : Option Ended). log_left a sum came 0 0 e) is_ended

-- to open a piece changes nothing of what is left
pub opened : (a : Option (List ℕ)) (sum next came : List ℕ) (len at end : ℕ) (ended : Option Ended) → IsOnePiece came end ended → at ≡ 0 → end ≡ 0 → ended ≡ None → BeginsPiece sum came len → next ≡ slice_range came (36 + len) (36 + len + 32)
    → log_left a next came 36 (36 + len) ended ≡ log_left a sum came at end ended
opened a sum next came len at end ended one is_at is_end is_ended piece is =
    ap (λ (e : Option Ended). log_left a next came 36 (36 + len) e) is_ended ∙ open_one a sum next came len (one is_end is_ended) piece is ∙ sym (at_start a sum came at end ended is_at is_end is_ended)

-- nothing is left where no whole piece follows
none_follows : (a : Option (List ℕ)) (sum old : List ℕ) (found : Found) → IfSome a (λ left. IsNextOf sum (old ++ left) found) → (found ≡ Cut) ⊎ (found ≡ Altered) → log_left a sum old 0 0 None ≡ option_map (λ _. []) a
none_follows None sum old found next end = refl
none_follows (Some left) sum old (Piece len) next (inl is) = absurd (let no : ⊥ = cc in no)
none_follows (Some left) sum old (Piece len) next (inr is) = absurd (let no : ⊥ = cc in no)
none_follows (Some left) sum old Cut next end = ap Some (none_cut sum (old ++ left) next)
none_follows (Some left) sum old Altered next end = ap Some (none_altered sum (old ++ left) next)

slice_none : (came : List ℕ) (at end : ℕ) → end ≤ at → slice_range came at end ≡ []
slice_none came at end none = (let k : end - at ≡ 0 = omega arith in ap (λ n. take n (drop at came)) k)

-- nothing is left behind the end
pub none_behind : (a b : Option (List ℕ)) (sum came more : List ℕ) (at end : ℕ) (ended : Ended) → end ≤ at → Consumes a b more → Keeps (option_map (λ _. []) a) (log_left b sum came at end (Some ended))
none_behind None b sum came more at end ended none taken = tt
none_behind (Some left) None sum came more at end ended none taken = absurd taken
none_behind (Some left) (Some rest) sum came more at end ended none taken = append-nil _ ∙ slice_none came at end none

pub at_end : (a : Option (List ℕ)) (sum came : List ℕ) (at end : ℕ) (ended : Option Ended) (how : Ended) → ended ≡ Some how → end ≤ at → IsAtEnd (log_left a sum came at end ended)
at_end a sum came at end ended how is none = subst (λ (e : Option Ended). IsAtEnd (log_left a sum came at end e)) (sym is) (nothing_left a)
  where
    nothing_left : (a : Option (List ℕ)) → IsAtEnd (log_left a sum came at end (Some how))
    nothing_left None = tt
    nothing_left (Some left) = append-nil _ ∙ slice_none came at end none

pub kept_then_consumed : (a b now : Option (List ℕ)) (part : List ℕ) → Keeps a b → Consumes b now part → Consumes a now part
kept_then_consumed None b now part kept taken = tt
kept_then_consumed (Some x) None now part kept taken = absurd kept
kept_then_consumed (Some x) (Some y) None part kept taken = absurd taken
kept_then_consumed (Some x) (Some y) (Some z) part kept taken = sym kept ∙ taken

none_still : (a b : Option (List ℕ)) (more : List ℕ) → Consumes a b more → Keeps (option_map {U = List ℕ} (λ _. []) a) (option_map (λ _. []) b)
none_still None b more taken = tt
none_still (Some left) None more taken = absurd taken
none_still (Some left) (Some rest) more taken = refl

-- a log that ends where no whole piece follows had nothing left
pub ends : (a b was now : Option (List ℕ)) (sum old more : List ℕ) (at end : ℕ) (ended : Option Ended) (found : Found) → log_left a sum old at end ended ≡ was → at ≡ 0 → end ≡ 0 → ended ≡ None
    → IfSome a (λ left. IsNextOf sum (old ++ left) found) → (found ≡ Cut) ⊎ (found ≡ Altered) → Consumes a b more → Keeps (option_map (λ _. []) b) now → Keeps was now
ends a b was now sum old more at end ended found is_was is_at is_end is_ended next way taken kept =
    let before : option_map (λ _. []) a ≡ was = sym (none_follows a sum old found next way) ∙ sym (at_start a sum old at end ended is_at is_end is_ended) ∙ is_was in
    subst (λ x. Keeps x now) before (Keeps-trans (option_map (λ _. []) a) (option_map (λ _. []) b) now (none_still a b more taken) kept)

-- what is given is taken from the front of what is left
pub gives : (a : Option (List ℕ)) (sum came part : List ℕ) (at end n : ℕ) (ended : Option Ended) → at + n ≤ end → end ≤ length came → part ≡ take n (slice_range came at end) → Consumes (log_left a sum came at end ended) (log_left a sum came (at + n) end ended) part
gives None sum came part at end n ended within inside is = tt
gives (Some left) sum came part at end n ended within inside is =
    let rest = following sum came end ended left in
    let size : end - at ≡ n + (end - (at + n)) = omega arith in
    let parts : slice_range came at end ≡ take n (drop at came) ++ take (end - (at + n)) (drop n (drop at came)) = ap (λ k. take k (drop at came)) size ∙ take-add n (end - (at + n)) (drop at came) in
    let first : take n (drop at came) ≡ part = sym (front_of n (end - at) (drop at came) (omega arith) (let rest = length-drop at came in omega (arith, rest))) ∙ sym is in
    let behind : take (end - (at + n)) (drop n (drop at came)) ≡ slice_range came (at + n) end = ap (take (end - (at + n))) (drop-drop n at came) in
    let whole = parts ∙ ap₂ (λ (x y : List ℕ). x ++ y) first behind in
    ap (λ l. l ++ rest) whole ∙ append_assoc part (slice_range came (at + n) end) rest

-- so many bytes, written at the front of others
pub front_written : (part post source : List ℕ) (n : ℕ) → part ≡ source → length part ≡ n → take n (part ++ post) ≡ source
front_written part post source n is size = ap (λ k. take k (part ++ post)) (sym size) ∙ take-append_seam part post ∙ is
