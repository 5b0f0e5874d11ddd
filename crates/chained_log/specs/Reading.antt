-- What a reader of a log gives (own): the contents of the whole pieces that its bytes begin with, one after another.
use Rattle.std.specs.Prelude.{◌≡◌, ℕ, zero, suc, ◌+◌, ◌≤◌, Bool, if◌then◌else◌, Option, Some, None, List, [], ◌++◌, length, take, drop, slice_range, nat_eq}
use Rattle.std.specs.Int.{from_be_bytes, w32}
use Rattle.std.specs.Option.{option_map}
use Rattle.std.specs.Cmp.Lexicographic.{pointwise}
use Rattle.chained_log.specs.declared.fault.Ended.{Ended}
use Rattle.chained_log.specs.Log.{SumKind, OfDigest, OfContents, piece_bytes, sum_after}

-- the length that a piece gives in its first four bytes, the highest first
unfoldable pub length_told : List ℕ → ℕ
length_told left = from_be_bytes w32 (take 4 left)

-- so many bytes, behind the length and its sum
abbrev pub contents_at : List ℕ → List ℕ
contents_at left = take (length_told left) (drop 36 left)

-- what follows a piece of that length, with its head and its last sum
abbrev pub behind_piece : List ℕ → List ℕ
behind_piece left = drop (length_told left + 68) left

-- the bytes begin with the piece of these contents, with a sum of this kind
abbrev pub begins : SumKind → List ℕ → List ℕ → Bool
begins kind before left = pointwise nat_eq (take (length_told left + 68) left) (piece_bytes kind before (contents_at left))

-- the contents of the first whole pieces, at most so many
abbrev pub first_contents : ℕ → List ℕ → List ℕ → List ℕ
first_contents zero before left = []
first_contents (suc most) before left =
    if begins OfDigest before left then contents_at left ++ first_contents most (sum_after OfDigest before (contents_at left)) (behind_piece left)
    else if begins OfContents before left then contents_at left ++ first_contents most (sum_after OfContents before (contents_at left)) (behind_piece left)
    else []

-- the contents of all whole pieces that the bytes begin with, after this sum
unfoldable pub log_contents : List ℕ → List ℕ → List ℕ
log_contents before left = first_contents (length left) before left

-- what was received of a piece that is not given yet: all that was received, where none is given
abbrev pub received : List ℕ → ℕ → List ℕ
received came zero = came
received came (suc end) = []

-- what follows the piece that is given: the contents of what was received and of what is to be read, and nothing once the log has ended
abbrev pub following : List ℕ → List ℕ → ℕ → Option Ended → List ℕ → List ℕ
following sum came end None left = log_contents sum (received came end ++ left)
following sum came end (Some ended) left = []

-- what a reader has left to give: the rest of the piece that is given, and what follows, if it is known what is to be read
abbrev pub log_left : Option (List ℕ) → List ℕ → List ℕ → ℕ → ℕ → Option Ended → Option (List ℕ)
log_left remaining sum came at end ended = option_map (λ left. slice_range came at end ++ following sum came end ended left) remaining

-- what was received is at most one piece, by the length that it gives, where no piece is given and the log has not ended
abbrev pub IsOnePiece : List ℕ → ℕ → Option Ended → Type 0
IsOnePiece came end ended = end ≡ 0 → ended ≡ None → length came ≤ length_told came + 68
