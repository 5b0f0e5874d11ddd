-- What comes next in a log after a sum: a whole piece, the front of one, or neither.
use Rattle.std.specs.Prelude.{◌≡◌, ◌≢◌, ℕ, ◌≤◌, List, [], ◌∷◌, ◌++◌, length}
use Rattle.chained_log.specs.declared.fault.Ended.{Ended}
use Rattle.chained_log.specs.declared.fault.Ended.TheVariants.{Whole, Cut as EndsCut, Altered as EndsAltered}
use Rattle.chained_log.specs.declared.next.Found.{Found}
use Rattle.chained_log.specs.declared.next.Found.TheVariants.{Piece, Cut, Altered}
use Rattle.chained_log.specs.Log.{SumKind, Fits, piece_bytes, sum_after}

-- what is left begins with a whole piece of this length, with a sum of either kind
pub record BeginsPiece (before left : List ℕ) (len : ℕ) : Type 0 where
  pub kind : SumKind
  pub piece : List ℕ
  pub rest : List ℕ
  pub fits : Fits piece
  pub long : length piece ≡ len
  pub parts : left ≡ piece_bytes kind before piece ++ rest

-- what is left lacks at least one byte of a whole piece
pub record IsCut (before left : List ℕ) : Type 0 where
  pub kind : SumKind
  pub piece : List ℕ
  pub lost : List ℕ
  pub fits : Fits piece
  pub some : 1 ≤ length lost
  pub parts : left ++ lost ≡ piece_bytes kind before piece

-- no whole piece, with a sum of either kind, agrees with what is left, as far as both go
abbrev pub IsAltered : List ℕ → List ℕ → Type 0
IsAltered before left = (kind : SumKind) (piece more rest : List ℕ) → Fits piece → left ++ more ≢ piece_bytes kind before piece ++ rest

-- what was found is what is there
abbrev pub IsNextOf : List ℕ → List ℕ → Found → Type 0
IsNextOf before left (Piece len) = BeginsPiece before left len
IsNextOf before left Cut = IsCut before left
IsNextOf before left Altered = IsAltered before left

-- after the last piece the log ends this way
abbrev pub EndsAs : List ℕ → List ℕ → Ended → Type 0
EndsAs before left Whole = left ≡ []
EndsAs before left EndsCut = (1 ≤ length left) × IsCut before left
EndsAs before left EndsAltered = IsAltered before left

-- what is left is read as these pieces, whichever sums they have, and ends this way
abbrev pub IsReadAs : List ℕ → List ℕ → List (List ℕ) → Ended → Type 0
IsReadAs before left [] ended = EndsAs before left ended
IsReadAs before left (piece ∷ pieces) ended = (kind : SumKind) × (rest : List ℕ) × Fits piece × (left ≡ piece_bytes kind before piece ++ rest) × IsReadAs (sum_after kind before piece) rest pieces ended
