-- What appends to a log leave.
use Rattle.std.proofs.Common.{◌≡◌, ℕ, ◌+◌, ◌-◌, ◌≤◌, Bool, true, cond, Option, Some, None, List, [], ◌∷◌, ◌++◌, length, take, drop, nat_le, sym, ap, ap₂, ◌∙◌, subst, arith, append-nil}
use Rattle.std.proofs.lemmas.List.{drop_all, length-take}
use Rattle.std.proofs.lemmas.List.Elements.{All-append, All-cons, All-nil}
use Rattle.std.proofs.lemmas.Bool.{and_from, le-leb}
use Rattle.std.proofs.Math.Seq.{take-add}
use Rattle.std.proofs.KnownBytes.{Appends-trans}
use Rattle.std.specs.Io.KnownBytes.{Appends}
use Rattle.chained_log.specs.Log.{OfDigest, last_sum, log_bytes, piece_bytes, sum_after}
use Rattle.chained_log.specs.Reading.{log_contents}
use Rattle.chained_log.specs.Writing.{AppendsPieces, by_digest, has_log, is_whole, log_known}
use Rattle.chained_log.proofs.ContentsLemmas.{none_empty}
use Rattle.chained_log.proofs.WholeLemmas.{concat_more, digest_more, last_sum_more, log_bytes_more, log_grows, nothing_whole}

-- ---- a log without pieces
empty_known : (first bytes : List ℕ) (start : ℕ) → length bytes ≡ start → log_known first start first (Some bytes) ≡ Some []
empty_known first bytes start size =
    let none : drop start bytes ≡ [] = drop_all start bytes (omega (arith, size)) in
    let whole : has_log first start first bytes ≡ true =
    and_from (nat_le start (length bytes)) (is_whole first (drop start bytes) first) (le-leb start (length bytes) (omega (arith, size))) (ap (λ l. is_whole first l first) none ∙ nothing_whole first)
    in
    ap (λ (b : Bool). cond b (Some (log_contents first (drop start bytes))) None) whole ∙ ap Some (none_empty first (drop start bytes) none)

pub empty_log : (first bytes : List ℕ) (start : ℕ) (known : Option (List ℕ)) → known ≡ Some bytes → length bytes ≡ start → log_known first start first known ≡ Some []
empty_log first bytes start known is size = ap (log_known first start first) is ∙ empty_known first bytes start size

-- ---- pieces, one after another

-- a piece more
pub one_more : (bytes piece : List ℕ) (old mid new : Option (List ℕ)) (before sum after : List ℕ) → AppendsPieces bytes old mid before sum → length piece ≤ 65536 → Appends mid new (piece_bytes OfDigest sum piece) → after ≡ sum_after OfDigest sum piece
    → AppendsPieces (bytes ++ piece) old new before after
one_more bytes piece old mid new before sum after so_far short appended is =
    let first = by_digest so_far.pieces in
    let last = by_digest (piece ∷ []) in
    let here : piece_bytes OfDigest sum piece ≡ log_bytes (last_sum before first) last = ap (λ s. piece_bytes OfDigest s piece) so_far.sum ∙ sym (append-nil (piece_bytes OfDigest (last_sum before first) piece)) in
    let whole : log_bytes before first ++ piece_bytes OfDigest sum piece ≡ log_bytes before (by_digest (so_far.pieces ++ piece ∷ [])) =
    ap (λ l. log_bytes before first ++ l) here ∙ sym (log_bytes_more before first last) ∙ ap (log_bytes before) (sym (digest_more so_far.pieces (piece ∷ [])))
    in
    record {
      pieces = so_far.pieces ++ piece ∷ [];
      short = All-append (λ (p : List ℕ). length p ≤ 65536) so_far.pieces (piece ∷ []) so_far.short (All-cons (λ (p : List ℕ). length p ≤ 65536) piece [] short (All-nil (λ (p : List ℕ). length p ≤ 65536)));
      all = concat_more so_far.pieces (piece ∷ []) ∙ ap₂ (λ (x y : List ℕ). x ++ y) so_far.all (append-nil piece);
      appended = subst (Appends old new) whole (Appends-trans old mid new (log_bytes before first) (piece_bytes OfDigest sum piece) so_far.appended appended);
      sum = is ∙ ap (λ s. sum_after OfDigest s piece) so_far.sum ∙ sym (last_sum_more before first last) ∙ ap (last_sum before) (sym (digest_more so_far.pieces (piece ∷ [])));
    }

just : (at n : ℕ) → at + n - at ≡ n
just at n = omega arith

-- the next piece of these bytes
pub next_more : (bytes : List ℕ) (at n : ℕ) (old mid new : Option (List ℕ)) (before sum after : List ℕ) → AppendsPieces (take at bytes) old mid before sum → n ≤ 65536
    → Appends mid new (piece_bytes OfDigest sum (take (at + n - at) (drop at bytes))) → after ≡ sum_after OfDigest sum (take (at + n - at) (drop at bytes)) → AppendsPieces (take (at + n) bytes) old new before after
next_more bytes at n old mid new before sum after so_far few appended is =
    let piece = take (at + n - at) (drop at bytes) in
    let size : length piece ≤ at + n - at = (let least = length-take (at + n - at) (drop at bytes) in omega (arith, least)) in
    let same = just at n in
    subst (λ front. AppendsPieces front old new before after) (ap (λ k. take at bytes ++ take k (drop at bytes)) same ∙ sym (take-add at n bytes))
    (one_more (take at bytes) piece old mid new before sum after so_far (omega (arith, size, same, few)) appended is)

-- a log whose bytes grew by pieces
pub log_grown : (first other : List ℕ) (start from : ℕ) (before after front bytes : List ℕ) (old new : Option (List ℕ)) → other ≡ first → from ≡ start → AppendsPieces front old new before after → front ≡ bytes
    → Appends (log_known first start before old) (log_known other from after new) bytes
log_grown first other start from before after front bytes old new same place made all =
    subst (λ (f : List ℕ). Appends (log_known first start before old) (log_known f from after new) bytes) (sym same)
    (subst (λ (n : ℕ). Appends (log_known first start before old) (log_known first n after new) bytes) (sym place)
    (subst (Appends (log_known first start before old) (log_known first start after new)) all (log_grows first start before after front old new made)))
