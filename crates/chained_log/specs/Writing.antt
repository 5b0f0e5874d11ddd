-- What a writer of a log leaves (own): whole pieces to the end of its bytes, and the sum after the last one.
use Rattle.std.specs.Prelude.{◌≡◌, ℕ, zero, suc, ◌≤◌, All, Bool, ◌&&◌, cond, if◌then◌else◌, Option, Some, None, List, [], length, drop, map, nat_eq, nat_le}
use Rattle.std.specs.List.{concat}
use Rattle.std.specs.Option.{option_and_then, option_map}
use Rattle.std.specs.Cmp.Lexicographic.{pointwise}
use Rattle.std.specs.Io.KnownBytes.{Appends}
use Rattle.chained_log.specs.Log.{OfDigest, OfContents, Pieces, last_sum, log_bytes, sum_after}
use Rattle.chained_log.specs.Reading.{begins, behind_piece, contents_at, log_contents}

-- nothing is left, after this sum
abbrev pub is_end : List ℕ → List ℕ → List ℕ → Bool
is_end before left sum = pointwise nat_eq left [] && pointwise nat_eq before sum

-- the bytes are whole pieces to their end, at most so many, and this is the sum after the last one
abbrev pub first_whole : ℕ → List ℕ → List ℕ → List ℕ → Bool
first_whole zero before left sum = is_end before left sum
first_whole (suc most) before left sum =
    if begins OfDigest before left then first_whole most (sum_after OfDigest before (contents_at left)) (behind_piece left) sum
    else if begins OfContents before left then first_whole most (sum_after OfContents before (contents_at left)) (behind_piece left) sum
    else is_end before left sum

-- the bytes are whole pieces to their end, after the first sum, and the other is the sum after the last one
unfoldable pub is_whole : List ℕ → List ℕ → List ℕ → Bool
is_whole before left sum = first_whole (length left) before left sum

-- a log begins behind so many bytes, and is whole
abbrev pub has_log : List ℕ → ℕ → List ℕ → List ℕ → Bool
has_log first start sum bytes = nat_le start (length bytes) && is_whole first (drop start bytes) sum

-- the contents of a log behind so many bytes, if these bytes are known and it is whole
abbrev pub log_known : List ℕ → ℕ → List ℕ → Option (List ℕ) → Option (List ℕ)
log_known first start sum (Some bytes) = cond (has_log first start sum bytes) (Some (log_contents first (drop start bytes))) None
log_known first start sum None = None

-- the contents of the pieces that are synced, if the log's contents are known and the synced bytes are
abbrev pub synced_log : List ℕ → ℕ → List ℕ → Option (List ℕ) → Option (List ℕ) → Option (List ℕ)
synced_log first start sum bytes synced = option_and_then (λ _. option_map (λ bytes. log_contents first (drop start bytes)) synced) (log_known first start sum bytes)

-- pieces whose sums are of digests
abbrev pub by_digest : List (List ℕ) → Pieces
by_digest pieces = map (λ piece. (OfDigest, piece)) pieces

-- bytes appended to others as pieces of at most 65,536 bytes, after the sum before and up to the sum after
pub record AppendsPieces (bytes : List ℕ) (old new : Option (List ℕ)) (before after : List ℕ) : Type 0 where
  pub pieces : List (List ℕ)
  pub short : All (λ piece. length piece ≤ 65536) pieces
  pub all : concat pieces ≡ bytes
  pub appended : Appends old new (log_bytes before (by_digest pieces))
  pub sum : after ≡ last_sum before (by_digest pieces)
