-- A log is read in one way only, and as what was written.
use Rattle.std.proofs.Common.{◌≡◌, ℕ, ◌<◌, ◌≤◌, ◌⊎◌, inl, inr, List, [], ◌∷◌, ◌++◌, length, refl, sym, ap, ap₂, ◌∙◌, subst, arith, append_assoc, append-nil, length-append}
use Rattle.std.proofs.lemmas.List.Elements.{All-head, All-tail}
use Rattle.chained_log.specs.declared.fault.Ended.{Ended}
use Rattle.chained_log.specs.declared.fault.Ended.TheVariants.{Whole, Cut, Altered}
use Rattle.chained_log.specs.Log.{SumKind, OfDigest, Fits, contents, head_sum, log_bytes, piece_bytes, sum_after}
use Rattle.chained_log.specs.Next.{EndsAs, IsCut, IsAltered, IsReadAs}
use Rattle.chained_log.specs.Laws.{OneReading, LogIsRead, FrontIsRead, IsReadAsFront}
use Rattle.chained_log.proofs.SumLemmas.{fronts, length-head_sum, length-sum_after}
use Rattle.chained_log.proofs.NextLemmas.{grouped, length-piece_bytes, meets}

-- bytes begin with at most one piece, and it has one sum
pub one_piece : (k l : SumKind) (before p q r s : List ℕ) → Fits p → Fits q → piece_bytes k before p ++ r ≡ piece_bytes l before q ++ s → (p ≡ q) × (sum_after k before p ≡ sum_after l before q) × (r ≡ s)
one_piece k l before p q r s small other is =
    let left = piece_bytes k before p ++ r in
    let both = meets l before left [] s _ q (length p) (grouped k before p r) small other (append-nil left ∙ is) in
    let after : head_sum before (length p) ++ (p ++ (sum_after k before p ++ r)) ≡ head_sum before (length q) ++ (q ++ (sum_after l before q ++ s)) = sym (append-nil _) ∙ both.1 in
    let one = fronts (head_sum before (length p)) (head_sum before (length q)) _ _ (length-head_sum before (length p) ∙ sym (length-head_sum before (length q))) after in
    let two = fronts p q _ _ both.0 one.1 in
    let three = fronts (sum_after k before p) (sum_after l before q) r s (length-sum_after k before p ∙ sym (length-sum_after l before q)) two.1 in
    (two.0, three.0, three.1)

some_bytes : (kind : SumKind) (before p rest : List ℕ) → piece_bytes kind before p ++ rest ≡ [] → ⊥
some_bytes kind before p rest is =
    let whole : length (piece_bytes kind before p ++ rest) ≡ 0 = ap (λ (l : List ℕ). length l) is in
    let parts = length-append (piece_bytes kind before p) rest in
    let long = length-piece_bytes kind before p in
    omega (arith, whole, parts, long)

nothing_lost : (s lost : List ℕ) → s ++ lost ≡ [] → 1 ≤ length lost → ⊥
nothing_lost s lost is some =
    let whole : length (s ++ lost) ≡ 0 = ap (λ (l : List ℕ). length l) is in
    let parts = length-append s lost in
    omega (arith, whole, parts)

-- what begins with a whole piece is not cut
pub not_cut_piece : (kind : SumKind) (before left p rest : List ℕ) → IsCut before left → Fits p → left ≡ piece_bytes kind before p ++ rest → ⊥
not_cut_piece kind before left p rest cut fits is =
    let whole : piece_bytes kind before p ++ (rest ++ cut.lost) ≡ piece_bytes cut.kind before cut.piece ++ [] =
    sym (append_assoc (piece_bytes kind before p) rest cut.lost) ∙ (ap (λ l. l ++ cut.lost) (sym is) ∙ (cut.parts ∙ sym (append-nil _))) in
    nothing_lost rest cut.lost (one_piece kind cut.kind before p cut.piece (rest ++ cut.lost) [] fits cut.fits whole).2 cut.some

-- no whole piece follows where a log ends
no_more : (kind : SumKind) (before left p rest : List ℕ) (ended : Ended) → EndsAs before left ended → Fits p → left ≡ piece_bytes kind before p ++ rest → ⊥
no_more kind before left p rest Whole ends fits is = some_bytes kind before p rest (sym is ∙ ends)
no_more kind before left p rest Cut ends fits is = not_cut_piece kind before left p rest ends.1 fits is
no_more kind before left p rest Altered ends fits is = ends kind p [] rest fits (append-nil left ∙ is)

nothing_is_right : (before left : List ℕ) → left ≡ [] → IsAltered before left → ⊥
nothing_is_right before left none altered =
    let size : length {A = ℕ} [] < 4294967296 = omega arith in
    altered OfDigest [] (piece_bytes OfDigest before []) [] size (ap (λ l. l ++ piece_bytes OfDigest before []) none ∙ sym (append-nil _))

nothing_is_cut : (left : List ℕ) → left ≡ [] → 1 ≤ length left → ⊥
nothing_is_cut left none some = (let is : length left ≡ 0 = ap (λ (l : List ℕ). length l) none in omega (arith, is))

cut_is_right : (before left : List ℕ) → IsCut before left → IsAltered before left → ⊥
cut_is_right before left cut altered = altered cut.kind cut.piece cut.lost [] cut.fits (cut.parts ∙ sym (append-nil _))

one_end : (before left : List ℕ) (a b : Ended) → EndsAs before left a → EndsAs before left b → a ≡ b
one_end before left Whole Whole p q = refl
one_end before left Whole Cut p q = absurd (nothing_is_cut left p q.0)
one_end before left Whole Altered p q = absurd (nothing_is_right before left p q)
one_end before left Cut Whole p q = absurd (nothing_is_cut left q p.0)
one_end before left Cut Cut p q = refl
one_end before left Cut Altered p q = absurd (cut_is_right before left p.1 q)
one_end before left Altered Whole p q = absurd (nothing_is_right before left q p)
one_end before left Altered Cut p q = absurd (cut_is_right before left q.1 p)
one_end before left Altered Altered p q = refl

pub one_reading : OneReading
one_reading before left [] [] a b p q = (refl, one_end before left a b p q)
one_reading before left [] (y ∷ qs) a b p q = absurd (no_more q.0 before left y q.1 a p q.2 q.3)
one_reading before left (x ∷ ps) [] a b p q = absurd (no_more p.0 before left x p.1 b q p.2 p.3)
one_reading before left (x ∷ ps) (y ∷ qs) a b p q =
    let first = one_piece p.0 q.0 before x y p.1 q.1 p.2 q.2 (sym p.3 ∙ q.3) in
    let second : IsReadAs (sum_after p.0 before x) p.1 qs b = subst (λ s. IsReadAs s p.1 qs b) (sym first.1) (subst (λ r. IsReadAs (sum_after q.0 before y) r qs b) (sym first.2) q.4) in
    let more = one_reading (sum_after p.0 before x) p.1 ps qs a b p.4 second in
    (ap₂ (λ (h : List ℕ) (t : List (List ℕ)). h ∷ t) first.0 more.0, more.1)

pub log_is_read : LogIsRead
log_is_read before [] fits = refl
log_is_read before (piece ∷ pieces) fits =
    let sum = sum_after piece.0 before piece.1 in
    (piece.0, log_bytes sum pieces, All-head Fits piece.1 (contents pieces) fits, refl, log_is_read sum pieces (All-tail Fits piece.1 (contents pieces) fits))

-- of two fronts of the same bytes, one begins with the other
split : (a l front rest : List ℕ) → a ++ l ≡ front ++ rest
    → ((more : List ℕ) × (front ≡ a ++ more) × (l ≡ more ++ rest)) ⊎ ((lost : List ℕ) × (1 ≤ length lost) × (front ++ lost ≡ a))
split [] l front rest e = inl (front, refl, e)
split (x ∷ a) l [] rest e = inr (x ∷ a, omega arith, refl)
split (x ∷ a) l (y ∷ front) rest e =
    let head : x ≡ y = cc in
    let tail : a ++ l ≡ front ++ rest = cc in
    longer head (split a l front rest tail)
  where
    longer : x ≡ y → ((more : List ℕ) × (front ≡ a ++ more) × (l ≡ more ++ rest)) ⊎ ((lost : List ℕ) × (1 ≤ length lost) × (front ++ lost ≡ a))
        → ((more : List ℕ) × (y ∷ front ≡ x ∷ (a ++ more)) × (l ≡ more ++ rest)) ⊎ ((lost : List ℕ) × (1 ≤ length lost) × (y ∷ (front ++ lost) ≡ x ∷ a))
    longer head (inl p) = inl (p.0, ap₂ (λ (h : ℕ) (t : List ℕ). h ∷ t) (sym head) p.1, p.2)
    longer head (inr p) = inr (p.0, p.1, ap₂ (λ (h : ℕ) (t : List ℕ). h ∷ t) (sym head) p.2)

none_in_front : (front rest : List ℕ) → [] ≡ front ++ rest → front ≡ []
none_in_front [] rest e = refl
none_in_front (x ∷ front) rest e = absurd (let is : 0 ≡ length (x ∷ (front ++ rest)) = ap (λ (l : List ℕ). length l) e in omega (arith, is))

-- the front of one piece is read as nothing but a cut
read_short : (kind : SumKind) (before front lost piece : List ℕ) (pieces : List (List ℕ)) → Fits piece → 1 ≤ length lost → front ++ lost ≡ piece_bytes kind before piece → IsReadAsFront before front (piece ∷ pieces)
read_short kind before [] lost piece pieces fits some is = record { found = []; lost = piece ∷ pieces; ended = Whole; parts = refl; right = (λ e. let no : ⊥ = cc in no); read = refl }
read_short kind before (x ∷ front) lost piece pieces fits some is = record {
  found = [];
  lost = piece ∷ pieces;
  ended = Cut;
  parts = refl;
  right = (λ e. let no : ⊥ = cc in no);
  read = (omega arith, record { kind = kind; piece = piece; lost = lost; fits = fits; some = some; parts = is });
}

-- a piece received whole, and then a front of the others
read_more : (kind : SumKind) (before front more piece : List ℕ) (pieces : List (List ℕ)) → Fits piece → front ≡ piece_bytes kind before piece ++ more → IsReadAsFront (sum_after kind before piece) more pieces
    → IsReadAsFront before front (piece ∷ pieces)
read_more kind before front more piece pieces fits is read = record {
  found = piece ∷ read.found;
  lost = read.lost;
  ended = read.ended;
  parts = ap (λ (t : List (List ℕ)). piece ∷ t) read.parts;
  right = read.right;
  read = (kind, more, fits, is, read.read);
}

-- a front of a piece and what follows it, by where it ends
read_either : (kind : SumKind) (before front rest tail piece : List ℕ) (pieces : List (List ℕ)) → Fits piece
    → ((more : List ℕ) → tail ≡ more ++ rest → IsReadAsFront (sum_after kind before piece) more pieces)
    → ((more : List ℕ) × (front ≡ piece_bytes kind before piece ++ more) × (tail ≡ more ++ rest)) ⊎ ((lost : List ℕ) × (1 ≤ length lost) × (front ++ lost ≡ piece_bytes kind before piece))
    → IsReadAsFront before front (piece ∷ pieces)
read_either kind before front rest tail piece pieces fits later (inl p) = read_more kind before front p.0 piece pieces fits p.1 (later p.0 p.2)
read_either kind before front rest tail piece pieces fits later (inr p) = read_short kind before front p.0 piece pieces fits p.1 p.2

pub front_is_read : FrontIsRead
front_is_read before [] front rest fits is = record { found = []; lost = []; ended = Whole; parts = refl; right = (λ e. let no : ⊥ = cc in no); read = none_in_front front rest is }
front_is_read before (piece ∷ pieces) front rest fits is =
    let sum = sum_after piece.0 before piece.1 in
    let behind = log_bytes sum pieces in
    read_either piece.0 before front rest behind piece.1 (contents pieces) (All-head Fits piece.1 (contents pieces) fits)
    (λ more whole. front_is_read sum pieces more rest (All-tail Fits piece.1 (contents pieces) fits) whole)
    (split (piece_bytes piece.0 before piece.1) behind front rest is)
