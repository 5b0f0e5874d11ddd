-- Lengths of sums, and bytes that agree as far as they go.
use Rattle.std.proofs.Common.{◌≡◌, ℕ, min, ◌<◌, ◌≤◌, ◌^◌, List, [], ◌∷◌, ◌++◌, length, take, drop, refl, sym, ap, ap₂, ◌∙◌, arith}
use Rattle.std.proofs.lemmas.List.{take-append-drop, take_all, take_min, drop_min}
use Rattle.std.proofs.Math.Nat.{min_comm}
use Rattle.std.proofs.lemmas.Nat.{from_be_bytes-to_be_bytes_4}
use Rattle.std.specs.Int.{from_be_bytes, to_be_bytes, w32, w64}
use Rattle.std.specs.Hash.DefaultHasher as sip
use Rattle.std.specs.declared.hash.DefaultHasher.{DefaultHasher}
use Rattle.std.proofs.lemmas.List.Sums.{fold-append}
use Rattle.sha2.proofs.Facts256.{length-sha256}
use Rattle.chained_log.specs.Log.{SumKind, OfDigest, OfContents, digest, head_sum, length_bytes, piece_sum, sum_after}

pub length-length_bytes : (n : ℕ) → length (length_bytes n) ≡ 4
unfolding length_bytes
length-length_bytes n = refl

pub length-head_sum : (before : List ℕ) (n : ℕ) → length (head_sum before n) ≡ 32
unfolding head_sum
length-head_sum before n = length-sha256 _

pub length-sum_after : (kind : SumKind) (before piece : List ℕ) → length (sum_after kind before piece) ≡ 32
unfolding sum_after
length-sum_after OfDigest before piece = length-sha256 _
length-sum_after OfContents before piece = length-sha256 _

-- four bytes write one length
pub one_length : (n m : ℕ) → n < 2 ^ 32 → m < 2 ^ 32 → length_bytes n ≡ length_bytes m → n ≡ m
unfolding length_bytes
one_length n m small other is = sym (from_be_bytes-to_be_bytes_4 n small) ∙ (ap (from_be_bytes w32) is ∙ from_be_bytes-to_be_bytes_4 m other)

-- two fronts of the same bytes are equal if they have the same length
pub fronts : (a b r s : List ℕ) → length a ≡ length b → a ++ r ≡ b ++ s → (a ≡ b) × (r ≡ s)
fronts [] [] r s same e = (refl, e)
fronts [] (y ∷ b) r s same e = absurd (omega arith)
fronts (x ∷ a) [] r s same e = absurd (omega arith)
fronts (x ∷ a) (y ∷ b) r s same e =
    let head : x ≡ y = cc in
    let tail : a ++ r ≡ b ++ s = cc in
    let lens : length a ≡ length b = omega arith in
    let rest = fronts a b r s lens tail in
    (ap₂ (λ (h : ℕ) (t : List ℕ). h ∷ t) head rest.0, rest.1)

-- two fronts of the same bytes agree
pub agree : (r more s tail : List ℕ) → r ++ more ≡ s ++ tail → take (length s) r ≡ take (length r) s
agree [] more [] tail e = refl
agree [] more (y ∷ s) tail e = refl
agree (x ∷ r) more [] tail e = refl
agree (x ∷ r) more (y ∷ s) tail e =
    let head : x ≡ y = cc in
    let rest : r ++ more ≡ s ++ tail = cc in
    ap₂ (λ (h : ℕ) (t : List ℕ). h ∷ t) head (agree r more s tail rest)

-- of bytes that agree, the shorter are a front of the longer
pub joined : (r s : List ℕ) → length r ≤ length s → take (length s) r ≡ take (length r) s → r ++ drop (length r) s ≡ s
joined r s short e = ap (λ t. t ++ drop (length r) s) (sym (take_all (length s) r short) ∙ e) ∙ take-append-drop (length r) s

-- as many bytes of both as the shorter one has
pub take_fewer : (bytes sum : List ℕ) (n most : ℕ) → length sum ≡ most → n ≡ min (length bytes) most → (take n bytes ≡ take most bytes) × (take n sum ≡ take (length bytes) sum)
take_fewer bytes sum n most size is =
    (ap (λ k. take k bytes) (is ∙ min_comm (length bytes) most) ∙ take_min most bytes, ap (λ k. take k sum) (is ∙ ap (min (length bytes)) (sym size)) ∙ take_min (length bytes) sum)

-- bytes whose end is padded begin as they did
padded_all : (bytes zeros : List ℕ) → take (length zeros) bytes ≡ take (length bytes) (take (length zeros) bytes ++ drop (length bytes) zeros)
padded_all [] [] = refl
padded_all [] (z ∷ zeros) = refl
padded_all (x ∷ bytes) [] = refl
padded_all (x ∷ bytes) (z ∷ zeros) = ap (λ (t : List ℕ). x ∷ t) (padded_all bytes zeros)

pub padded : (bytes zeros : List ℕ) (n most : ℕ) → length zeros ≡ most → n ≡ min (length bytes) most → take most bytes ≡ take (length bytes) (take n bytes ++ drop n zeros)
padded bytes zeros n most size is =
    let front : take n bytes ≡ take (length zeros) bytes = (take_fewer bytes zeros n most size is).0 ∙ ap (λ k. take k bytes) (sym size) in
    let rest : drop n zeros ≡ drop (length bytes) zeros = ap (λ k. drop k zeros) (is ∙ ap (min (length bytes)) (sym size)) ∙ drop_min (length bytes) zeros in
    ap (λ k. take k bytes) (sym size) ∙ padded_all bytes zeros ∙ ap (take (length bytes)) (ap₂ (λ (a b : List ℕ). a ++ b) (sym front) (sym rest))

-- the sum after a piece, by that of its head
pub sum_is : (kind : SumKind) (before piece head : List ℕ) (n : ℕ) → length piece ≡ n → head ≡ head_sum before n → piece_sum kind head piece ≡ sum_after kind before piece
unfolding sum_after
sum_is kind before piece head n long is_head = ap (λ h. piece_sum kind h piece) (is_head ∙ ap (head_sum before) (sym long))

-- bytes that are written one after another are written at once
pub write_both : (s : DefaultHasher) (a b : List ℕ) → sip.write (sip.write s a) b ≡ sip.write s (a ++ b)
unfolding sip.write
write_both s a b = sym (fold-append sip.write_byte s a b)

-- the digest, by the bytes that were written
pub digest_is : (head piece front bytes : List ℕ) (start mid end : DefaultHasher) → front ≡ head → start ≡ sip.initial → mid ≡ sip.write start front → end ≡ sip.write mid piece
    → bytes ≡ to_be_bytes w64 (sip.finish end) → bytes ≡ digest head piece
unfolding digest
digest_is head piece front bytes start mid end is_head is_start is_mid is_end is =
    let both : end ≡ sip.write (sip.write sip.initial head) piece = cc in
    is ∙ ap (λ s. to_be_bytes w64 (sip.finish s)) (both ∙ write_both sip.initial head piece)
