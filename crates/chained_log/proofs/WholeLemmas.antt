-- A log that is whole stays so where pieces are appended, and its contents grow by theirs.
use Rattle.std.proofs.Common.{◌≡◌, ℕ, zero, suc, ◌≤◌, Bool, true, false, ◌&&◌, cond, if◌then◌else◌, All, Option, Some, None, List, [], ◌∷◌, ◌++◌, length, drop, nat_le, refl, sym, ap, ap₂, ◌∙◌, subst, arith, append_assoc, length-append}
use Rattle.std.proofs.lemmas.Bool.{and_from, leb-true, le-leb}
use Rattle.std.proofs.lemmas.List.{drop-append-le}
use Rattle.std.proofs.lemmas.List.Elements.{All-append, All-cons, All-head, All-tail, All-nil}
use Rattle.std.specs.List.{concat}
use Rattle.std.specs.Cmp.Lexicographic.{same_text}
use Rattle.std.specs.Io.KnownBytes.{Appends}
use Rattle.chained_log.specs.Laws.{IsWholeLog, KnownContents}
use Rattle.chained_log.specs.Log.{SumKind, OfDigest, OfContents, Fits, Pieces, contents, last_sum, log_bytes, piece_bytes, sum_after}
use Rattle.chained_log.specs.Reading.{begins, behind_piece, contents_at, log_contents}
use Rattle.chained_log.specs.Writing.{AppendsPieces, by_digest, first_whole, has_log, is_end, is_whole, log_known}
use Rattle.chained_log.proofs.NextLemmas.{length-piece_bytes}
use Rattle.chained_log.proofs.LawLemmas.{one_piece}
use Rattle.chained_log.proofs.ContentsLemmas.{begun, none_in_nothing, one_begins, parts_begun, same_bytes, written_contents}

-- whole pieces, and the sums before and after them
record WholeLog (first left sum : List ℕ) : Type 0 where
  pieces : Pieces
  fits : All Fits (contents pieces)
  parts : left ≡ log_bytes first pieces
  last : sum ≡ last_sum first pieces

both_true : (a b : Bool) → (a && b) ≡ true → (a ≡ true) × (b ≡ true)
both_true true true is = (refl, refl)
both_true true false is = (let no : ⊥ = cc in absurd no)
both_true false b is = (let no : ⊥ = cc in absurd no)

-- ---- whole bytes are the bytes of pieces
whole_end : (before left sum : List ℕ) → is_end before left sum ≡ true → WholeLog before left sum
whole_end before left sum is =
    let both = both_true _ _ is in
    record { pieces = []; fits = All-nil Fits; parts = same_text left [] (sym both.0); last = sym (same_text before sum (sym both.1)) }

whole_more : (kind : SumKind) (before left sum : List ℕ) → begins kind before left ≡ true → WholeLog (sum_after kind before (contents_at left)) (behind_piece left) sum → WholeLog before left sum
whole_more kind before left sum is later =
    let parts = parts_begun kind before left is in
    record {
      pieces = (kind, contents_at left) ∷ later.pieces;
      fits = All-cons Fits (contents_at left) (contents later.pieces) parts.0 later.fits;
      parts = parts.1 ∙ ap (λ l. piece_bytes kind before (contents_at left) ++ l) later.parts;
      last = later.last;
    }

by_kind : (A : Type 0) (a b x y z : Bool) → (a ≡ true → x ≡ true → A) → (b ≡ true → y ≡ true → A) → (z ≡ true → A) → (if a then x else if b then y else z) ≡ true → A
by_kind A true b x y z first second third is = first refl is
by_kind A false true x y z first second third is = second refl is
by_kind A false false x y z first second third is = third is

read_whole : (most : ℕ) (before left sum : List ℕ) → first_whole most before left sum ≡ true → WholeLog before left sum
read_whole zero before left sum is = whole_end before left sum is
read_whole (suc most) before left sum is =
    let rest = behind_piece left in
    let next : SumKind → List ℕ = λ kind. sum_after kind before (contents_at left) in
    by_kind (WholeLog before left sum) (begins OfDigest before left) (begins OfContents before left) (first_whole most (next OfDigest) rest sum) (first_whole most (next OfContents) rest sum) (is_end before left sum)
    (λ here later. whole_more OfDigest before left sum here (read_whole most (next OfDigest) rest sum later))
    (λ here later. whole_more OfContents before left sum here (read_whole most (next OfContents) rest sum later))
    (λ end. whole_end before left sum end)
    is

-- ---- the bytes of pieces are whole
either : (a b x y z : Bool) → (a ≡ true → x ≡ true) → (b ≡ true → y ≡ true) → (a ≡ false → b ≡ false → z ≡ true) → (if a then x else if b then y else z) ≡ true
either true b x y z first second third = first refl
either false true x y z first second third = second refl
either false false x y z first second third = third refl refl

ends_here : (before sum : List ℕ) → sum ≡ before → is_end before [] sum ≡ true
ends_here before sum is = same_bytes before sum (sym is)

nothing_begins : (A : Type 0) (kind : SumKind) (before : List ℕ) → begins kind before [] ≡ true → A
nothing_begins A kind before is = absurd (none_in_nothing kind before [] (omega arith) is)

neither_begins : (kind : SumKind) (before left piece rest : List ℕ) → Fits piece → left ≡ piece_bytes kind before piece ++ rest → begins OfDigest before left ≡ false → begins OfContents before left ≡ false → ⊥
neither_begins kind before left piece rest fits is first second =
    let one = one_begins kind before left (begun kind before left piece rest fits is) first in
    let bad : true ≡ false = sym one ∙ second in
    (let no : ⊥ = cc in no)

-- a piece is found in one way only
found_whole : (k kind : SumKind) (most : ℕ) (before left piece rest sum : List ℕ) → Fits piece → left ≡ piece_bytes kind before piece ++ rest → first_whole most (sum_after kind before piece) rest sum ≡ true
    → begins k before left ≡ true → first_whole most (sum_after k before (contents_at left)) (behind_piece left) sum ≡ true
found_whole k kind most before left piece rest sum fits is later begun =
    let parts = parts_begun k before left begun in
    let one = one_piece k kind before (contents_at left) piece (behind_piece left) rest parts.0 fits (sym parts.1 ∙ is) in
    ap₂ (λ (s l : List ℕ). first_whole most s l sum) one.1 one.2 ∙ later

whole_read : (most : ℕ) (before : List ℕ) (pieces : Pieces) (sum : List ℕ) → All Fits (contents pieces) → length (log_bytes before pieces) ≤ most → sum ≡ last_sum before pieces
    → first_whole most before (log_bytes before pieces) sum ≡ true
whole_read zero before [] sum fits short is = ends_here before sum is
whole_read (suc most) before [] sum fits short is =
    either (begins OfDigest before []) (begins OfContents before []) _ _ (is_end before [] sum)
    (λ here. nothing_begins _ OfDigest before here) (λ here. nothing_begins _ OfContents before here) (λ no other. ends_here before sum is)
whole_read zero before (piece ∷ pieces) sum fits short is =
    let size = length-piece_bytes piece.0 before piece.1 in
    let both = length-append (piece_bytes piece.0 before piece.1) (log_bytes (sum_after piece.0 before piece.1) pieces) in
    absurd (omega (arith, size, both, short))
whole_read (suc most) before (piece ∷ pieces) sum fits short is =
    let next = sum_after piece.0 before piece.1 in
    let rest = log_bytes next pieces in
    let left = piece_bytes piece.0 before piece.1 ++ rest in
    let fit = All-head Fits piece.1 (contents pieces) fits in
    let size = length-piece_bytes piece.0 before piece.1 in
    let both = length-append (piece_bytes piece.0 before piece.1) rest in
    let fewer : length rest ≤ most = omega (arith, size, both, short) in
    let later = whole_read most next pieces sum (All-tail Fits piece.1 (contents pieces) fits) fewer is in
    either (begins OfDigest before left) (begins OfContents before left) _ _ (is_end before left sum)
    (found_whole OfDigest piece.0 most before left piece.1 rest sum fit refl later) (found_whole OfContents piece.0 most before left piece.1 rest sum fit refl later)
    (λ no other. absurd (neither_begins piece.0 before left piece.1 rest fit refl no other))

pieces_of : (before left sum : List ℕ) → is_whole before left sum ≡ true → WholeLog before left sum
unfolding is_whole
pieces_of before left sum is = read_whole (length left) before left sum is

whole_of : (before left sum : List ℕ) → WholeLog before left sum → is_whole before left sum ≡ true
unfolding is_whole
whole_of before left sum log =
    ap (λ l. first_whole (length l) before l sum) log.parts ∙ whole_read (length (log_bytes before log.pieces)) before log.pieces sum log.fits (omega arith) log.last

-- no bytes are whole
pub nothing_whole : (before : List ℕ) → is_whole before [] before ≡ true
nothing_whole before = whole_of before [] before (record { pieces = []; fits = All-nil Fits; parts = refl; last = refl })

-- ---- pieces behind pieces
pub log_bytes_more : (before : List ℕ) (first others : Pieces) → log_bytes before (first ++ others) ≡ log_bytes before first ++ log_bytes (last_sum before first) others
log_bytes_more before [] others = refl
log_bytes_more before (piece ∷ first) others =
    let next = sum_after piece.0 before piece.1 in
    ap (λ l. piece_bytes piece.0 before piece.1 ++ l) (log_bytes_more next first others) ∙ sym (append_assoc (piece_bytes piece.0 before piece.1) (log_bytes next first) (log_bytes (last_sum next first) others))

pub last_sum_more : (before : List ℕ) (first others : Pieces) → last_sum before (first ++ others) ≡ last_sum (last_sum before first) others
last_sum_more before [] others = refl
last_sum_more before (piece ∷ first) others = last_sum_more (sum_after piece.0 before piece.1) first others

contents_more : (first others : Pieces) → contents (first ++ others) ≡ contents first ++ contents others
contents_more [] others = refl
contents_more (piece ∷ first) others = ap (λ l. piece.1 ∷ l) (contents_more first others)

pub concat_more : (xs ys : List (List ℕ)) → concat (xs ++ ys) ≡ concat xs ++ concat ys
concat_more [] ys = refl
concat_more (x ∷ xs) ys = ap (λ l. x ++ l) (concat_more xs ys) ∙ sym (append_assoc x (concat xs) (concat ys))

pub digest_more : (xs ys : List (List ℕ)) → by_digest (xs ++ ys) ≡ by_digest xs ++ by_digest ys
digest_more [] ys = refl
digest_more (x ∷ xs) ys = ap (λ (l : Pieces). (OfDigest, x) ∷ l) (digest_more xs ys)

contents_digest : (xs : List (List ℕ)) → contents (by_digest xs) ≡ xs
contents_digest [] = refl
contents_digest (x ∷ xs) = ap (λ l. x ∷ l) (contents_digest xs)

short_fits : (xs : List (List ℕ)) → All (λ piece. length piece ≤ 65536) xs → All Fits xs
short_fits [] short = All-nil Fits
short_fits (x ∷ xs) short =
    let one = All-head (λ (piece : List ℕ). length piece ≤ 65536) x xs short in
    let fit : Fits x = omega (arith, one) in
    All-cons Fits x xs fit (short_fits xs (All-tail (λ (piece : List ℕ). length piece ≤ 65536) x xs short))

-- ---- the contents of a log that grows
joined : (first left before : List ℕ) (pieces : List (List ℕ)) → WholeLog first left before → All (λ piece. length piece ≤ 65536) pieces → WholeLog first (left ++ log_bytes before (by_digest pieces)) (last_sum before (by_digest pieces))
joined first left before pieces log short =
    let more = by_digest pieces in
    record {
      pieces = log.pieces ++ more;
      fits = subst (All Fits) (sym (contents_more log.pieces more)) (All-append Fits (contents log.pieces) (contents more) log.fits (subst (All Fits) (sym (contents_digest pieces)) (short_fits pieces short)));
      parts = ap₂ (λ (l s : List ℕ). l ++ log_bytes s more) log.parts log.last ∙ sym (log_bytes_more first log.pieces more);
      last = ap (λ s. last_sum s more) log.last ∙ sym (last_sum_more first log.pieces more);
    }

contents_of : (first left sum : List ℕ) (log : WholeLog first left sum) → log_contents first left ≡ concat (contents log.pieces)
contents_of first left sum log = ap (log_contents first) log.parts ∙ written_contents first log.pieces log.fits

contents_grow : (first left before : List ℕ) (pieces : List (List ℕ)) → WholeLog first left before → All (λ piece. length piece ≤ 65536) pieces → log_contents first (left ++ log_bytes before (by_digest pieces)) ≡ log_contents first left ++ concat pieces
unfolding joined
contents_grow first left before pieces log short =
    let far = joined first left before pieces log short in
    contents_of first _ _ far ∙ ap concat (contents_more log.pieces (by_digest pieces)) ∙ concat_more (contents log.pieces) (contents (by_digest pieces))
    ∙ ap₂ (λ (x y : List ℕ). x ++ y) (sym (contents_of first left before log)) (ap concat (contents_digest pieces))

-- behind the bytes that precede a log, its bytes grow as all do
grown : (first : List ℕ) (start : ℕ) (before after bytes x y : List ℕ) (pieces : List (List ℕ)) → has_log first start before x ≡ true → All (λ piece. length piece ≤ 65536) pieces → concat pieces ≡ bytes
    → y ≡ x ++ log_bytes before (by_digest pieces) → after ≡ last_sum before (by_digest pieces) → (has_log first start after y ≡ true) × (log_contents first (drop start y) ≡ log_contents first (drop start x) ++ bytes)
grown first start before after bytes x y pieces is short all more sum =
    let both = both_true (nat_le start (length x)) (is_whole first (drop start x) before) is in
    let within : start ≤ length x = leb-true start (length x) both.0 in
    let log = pieces_of first (drop start x) before both.1 in
    let more_bytes = log_bytes before (by_digest pieces) in
    let behind : drop start y ≡ drop start x ++ more_bytes = ap (drop start) more ∙ drop-append-le start x more_bytes within in
    let size = length-append x more_bytes in
    let long : length y ≡ length (x ++ more_bytes) = ap (λ (l : List ℕ). length l) more in
    let far = whole_of first _ _ (joined first (drop start x) before pieces log short) in (
      and_from (nat_le start (length y)) (is_whole first (drop start y) after) (le-leb start (length y) (omega (arith, within, size, long)))
          (ap₂ (λ (l s : List ℕ). is_whole first l s) behind sum ∙ far),
      ap (log_contents first) behind ∙ contents_grow first (drop start x) before pieces log short ∙ ap (λ l. log_contents first (drop start x) ++ l) all,
    )

known_grown : (b : Bool) (x y bytes : List ℕ) (c : Bool) → (b ≡ true → (c ≡ true) × (y ≡ x ++ bytes)) → Appends (cond b (Some x) None) (cond c (Some y) None) bytes
known_grown false x y bytes c both = tt
known_grown true x y bytes c both =
    let is = both refl in
    subst (λ (d : Bool). Appends (Some x) (cond d (Some y) None) bytes) (sym is.0) is.1

pub log_grows : (first : List ℕ) (start : ℕ) (before after bytes : List ℕ) (old new : Option (List ℕ)) → AppendsPieces bytes old new before after → Appends (log_known first start before old) (log_known first start after new) bytes
log_grows first start before after bytes None new made = tt
log_grows first start before after bytes (Some x) None made = absurd made.appended
log_grows first start before after bytes (Some x) (Some y) made =
    known_grown (has_log first start before x) (log_contents first (drop start x)) (log_contents first (drop start y)) bytes (has_log first start after y)
    (λ is. grown first start before after bytes x y made.pieces is made.short made.all made.appended made.sum)

-- ---- a log is known exactly if it is whole
some_known : (b : Bool) (x text : List ℕ) → cond b (Some x) None ≡ Some text → (b ≡ true) × (x ≡ text)
some_known true x text is = (refl, (let same : x ≡ text = cc in same))
some_known false x text is = (let no : ⊥ = cc in absurd no)

known_whole : (first : List ℕ) (start : ℕ) (sum bytes text : List ℕ) → log_known first start sum (Some bytes) ≡ Some text → IsWholeLog first start sum bytes text
known_whole first start sum bytes text is =
    let known = some_known (has_log first start sum bytes) (log_contents first (drop start bytes)) text is in
    let both = both_true (nat_le start (length bytes)) (is_whole first (drop start bytes) sum) known.0 in
    let log = pieces_of first (drop start bytes) sum both.1 in
    record {
      within = leb-true start (length bytes) both.0;
      pieces = log.pieces;
      fits = log.fits;
      parts = log.parts;
      last = log.last;
      given = sym known.1 ∙ contents_of first (drop start bytes) sum log;
    }

whole_known : (first : List ℕ) (start : ℕ) (sum bytes text : List ℕ) → IsWholeLog first start sum bytes text → log_known first start sum (Some bytes) ≡ Some text
whole_known first start sum bytes text whole =
    let log : WholeLog first (drop start bytes) sum = record { pieces = whole.pieces; fits = whole.fits; parts = whole.parts; last = whole.last } in
    let has : has_log first start sum bytes ≡ true = and_from (nat_le start (length bytes)) (is_whole first (drop start bytes) sum) (le-leb start (length bytes) whole.within) (whole_of first (drop start bytes) sum log) in
    ap (λ (b : Bool). cond b (Some (log_contents first (drop start bytes))) None) has ∙ ap Some (contents_of first (drop start bytes) sum log ∙ sym whole.given)

pub known_contents : KnownContents
known_contents first start sum bytes text = (known_whole first start sum bytes text, whole_known first start sum bytes text)
