-- A log (own): pieces, each between two sums. A sum is a SHA-256 (FIPS 180-4, 6.2) of the sum before and of what comes between, or of a digest of that.
use Rattle.std.specs.Prelude.{ℕ, ◌<◌, ◌^◌, List, [], ◌∷◌, ◌++◌, length, map}
use Rattle.std.specs.Int.{to_be_bytes, w32, w64}
use Rattle.std.specs.Hash.DefaultHasher as sip
use Rattle.sha2.specs.Sha256.{sha256}

-- a piece's length has four bytes, the highest first
unfoldable pub length_bytes : ℕ → List ℕ
length_bytes len = to_be_bytes w32 len

-- the sum of a piece's length, after the sum before the piece
unfoldable pub head_sum : List ℕ → ℕ → List ℕ
head_sum before len = sha256 (before ++ length_bytes len)

-- the digest of a piece, after the sum of its head: SipHash-1-3 of both with keys 0, in eight bytes, the highest first
unfoldable pub digest : List ℕ → List ℕ → List ℕ
digest head piece = to_be_bytes w64 (sip.finish (sip.write sip.initial (head ++ piece)))

-- what a piece's sum is of: a digest, as it is written, or the contents, as it is read too
pub data SumKind : Type 0 where
  OfDigest : SumKind
  OfContents : SumKind

-- a piece's sum, after the sum of its head
abbrev pub piece_sum : SumKind → List ℕ → List ℕ → List ℕ
piece_sum OfDigest head piece = sha256 (head ++ digest head piece)
piece_sum OfContents head piece = sha256 (head ++ piece)

-- the sum after a piece
unfoldable pub sum_after : SumKind → List ℕ → List ℕ → List ℕ
sum_after kind before piece = piece_sum kind (head_sum before (length piece)) piece

-- a piece as it stands after this sum
abbrev pub piece_bytes : SumKind → List ℕ → List ℕ → List ℕ
piece_bytes kind before piece = length_bytes (length piece) ++ (head_sum before (length piece) ++ (piece ++ sum_after kind before piece))

-- its length fits in four bytes
abbrev pub Fits : List ℕ → Type 0
Fits piece = length piece < 2 ^ 32

-- pieces, each with the kind of its sum
abbrev pub Pieces : Type 0
Pieces = List (SumKind × List ℕ)

-- their contents
abbrev pub contents : Pieces → List (List ℕ)
contents pieces = map (λ piece. piece.1) pieces

-- the pieces as they stand after this sum, one after another
abbrev pub log_bytes : List ℕ → Pieces → List ℕ
log_bytes before [] = []
log_bytes before (piece ∷ pieces) = piece_bytes piece.0 before piece.1 ++ log_bytes (sum_after piece.0 before piece.1) pieces

-- the sum after all of them
abbrev pub last_sum : List ℕ → Pieces → List ℕ
last_sum before [] = before
last_sum before (piece ∷ pieces) = last_sum (sum_after piece.0 before piece.1) pieces
