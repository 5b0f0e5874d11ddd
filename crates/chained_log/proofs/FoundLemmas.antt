-- What was found in the bytes received is so in all that is left.
use Rattle.std.proofs.Common.{◌≡◌, ◌≢◌, ℕ, ◌+◌, ◌≤◌, ◌⊎◌, inl, inr, Option, Some, None, IfSome, List, [], ◌∷◌, ◌++◌, length, refl, sym, ap, ◌∙◌, subst, arith, append_assoc, append-nil, length-append}
use Rattle.std.specs.Io.KnownBytes.{Consumes, IsAtEnd}
use Rattle.chained_log.specs.declared.next.Found.{Found}
use Rattle.chained_log.specs.declared.next.Found.TheVariants.{Piece, Cut, Altered}
use Rattle.chained_log.specs.Log.{SumKind, Fits, piece_bytes}
use Rattle.chained_log.specs.Next.{IsNextOf, IsCut}

-- the whole length of the piece that begins so
abbrev pub IsWholeLength : List ℕ → ℕ → Type 0
IsWholeLength front whole = (kind : SumKind) (before piece lost : List ℕ) → Fits piece → 4 ≤ length front → front ++ lost ≡ piece_bytes kind before piece → whole ≡ length (piece_bytes kind before piece)

-- what was found stays, whatever follows, unless it is `Cut`
pub stays : (before came rest : List ℕ) (found : Found) → found ≢ Cut → IsNextOf before came found → IsNextOf before (came ++ rest) found
stays before came rest (Piece len) right is = record {
  kind = is.kind;
  piece = is.piece;
  rest = is.rest ++ rest;
  fits = is.fits;
  long = is.long;
  parts = ap (λ l. l ++ rest) is.parts ∙ append_assoc (piece_bytes is.kind before is.piece) is.rest rest;
}
stays before came rest Cut right is = absurd (right refl)
stays before came rest Altered right is = λ kind piece more after fits same. is kind piece (rest ++ more) after fits (sym (append_assoc came rest more) ∙ same)

-- all that is left, as it was before a read
pub before_read : (old came more left rest : List ℕ) → came ≡ old ++ more → left ≡ more ++ rest → came ++ rest ≡ old ++ left
before_read old came more left rest is parts = ap (λ l. l ++ rest) is ∙ (append_assoc old more rest ∙ ap (λ l. old ++ l) (sym parts))

pub found_early : (before old came more : List ℕ) (a b : Option (List ℕ)) (found : Found) → found ≢ Cut → came ≡ old ++ more → Consumes a b more → IsNextOf before came found
    → IfSome a (λ left. IsNextOf before (old ++ left) found)
found_early before old came more None b found right is taken next = tt
found_early before old came more (Some left) None found right is taken next = absurd taken
found_early before old came more (Some left) (Some rest) found right is taken next = subst (λ l. IsNextOf before l found) (before_read old came more left rest is taken) (stays before came rest found right next)

-- no cut is as long as the piece
not_cut : (before first more came : List ℕ) (whole : ℕ) → 36 ≤ length first → came ≡ first ++ more → IsWholeLength first whole → whole ≤ length came → IsCut before came → ⊥
not_cut before first more came whole enough is size long cut =
    let all : first ++ (more ++ cut.lost) ≡ piece_bytes cut.kind before cut.piece = sym (append_assoc first more cut.lost) ∙ (ap (λ l. l ++ cut.lost) (sym is) ∙ cut.parts) in
    let same : whole ≡ length (piece_bytes cut.kind before cut.piece) = size cut.kind before cut.piece (more ++ cut.lost) cut.fits (omega (arith, enough)) all in
    let parts : length (piece_bytes cut.kind before cut.piece) ≡ length came + length cut.lost = ap (λ (l : List ℕ). length l) (sym cut.parts) ∙ length-append came cut.lost in
    let some = cut.some in
    omega (arith, same, parts, some, long)

found_whole : (before first more came rest : List ℕ) (whole : ℕ) (found : Found) → 36 ≤ length first → came ≡ first ++ more → IsWholeLength first whole → whole ≤ length came → IsNextOf before came found
    → IsNextOf before (came ++ rest) found
found_whole before first more came rest whole (Piece len) enough is size long next = stays before came rest (Piece len) (λ e. let no : ⊥ = cc in no) next
found_whole before first more came rest whole Cut enough is size long next = absurd (not_cut before first more came whole enough is size long next)
found_whole before first more came rest whole Altered enough is size long next = stays before came rest Altered (λ e. let no : ⊥ = cc in no) next

found_at_end : (before came rest : List ℕ) (found : Found) → rest ≡ [] → IsNextOf before came found → IsNextOf before (came ++ rest) found
found_at_end before came rest found none next = subst (λ l. IsNextOf before l found) (sym (append-nil came) ∙ ap (λ l. came ++ l) (sym none)) next

none_after : (left more rest : List ℕ) → left ≡ [] → left ≡ more ++ rest → rest ≡ []
none_after left [] rest none is = sym is ∙ none
none_after left (x ∷ more) rest none is = absurd (let all : 0 ≡ length (x ∷ (more ++ rest)) = ap (λ (l : List ℕ). length l) (sym none ∙ is) in omega (arith, all))

found_last : (before first more came left rest : List ℕ) (whole : ℕ) (found : Found) → came ≡ first ++ more → left ≡ more ++ rest → (36 ≤ length first) ⊎ (left ≡ []) → (whole ≤ length came) ⊎ (rest ≡ [])
    → IsWholeLength first whole → IsNextOf before came found → IsNextOf before (came ++ rest) found
found_last before first more came left rest whole found is taken one (inr none) size next = found_at_end before came rest found none next
found_last before first more came left rest whole found is taken (inr none) (inl long) size next = found_at_end before came rest found (none_after left more rest none taken) next
found_last before first more came left rest whole found is taken (inl enough) (inl long) size next = found_whole before first more came rest whole found enough is size long next

pub found_late : (before old first came some more : List ℕ) (a b d : Option (List ℕ)) (whole : ℕ) (found : Found) → first ≡ old ++ some → came ≡ first ++ more → Consumes a b some → Consumes b d more
    → (36 ≤ length first) ⊎ IsAtEnd b → (whole ≤ length came) ⊎ IsAtEnd d → IsWholeLength first whole → IsNextOf before came found → IfSome a (λ left. IsNextOf before (old ++ left) found)
found_late before old first came some more None b d whole found one two p q e f size next = tt
found_late before old first came some more (Some left) None d whole found one two p q e f size next = absurd p
found_late before old first came some more (Some left) (Some mid) None whole found one two p q e f size next = absurd q
found_late before old first came some more (Some left) (Some mid) (Some rest) whole found one two p q e f size next =
    let all : came ++ rest ≡ old ++ left = before_read first came more mid rest two q ∙ before_read old first some left mid one p in
    subst (λ l. IsNextOf before l found) all (found_last before first more came mid rest whole found two q e f size next)
