-- What was written is read back.
use Rattle.std.specs.Prelude.{◌≡◌, ◌≢◌, ◌↔◌, ℕ, ◌≤◌, All, Some, List, ◌++◌, drop, length}
use Rattle.std.specs.List.{concat}
use Rattle.chained_log.specs.declared.fault.Ended.{Ended}
use Rattle.chained_log.specs.declared.fault.Ended.TheVariants.{Whole, Altered}
use Rattle.chained_log.specs.Log.{Fits, Pieces, contents, last_sum, log_bytes}
use Rattle.chained_log.specs.Next.{IsReadAs}
use Rattle.chained_log.specs.Reading.{log_contents}
use Rattle.chained_log.specs.Writing.{log_known}

-- bytes are read as one list of pieces, whichever sums these have, and end in one way
abbrev pub OneReading : Type 0
OneReading = (before left : List ℕ) (ps qs : List (List ℕ)) (a b : Ended) → IsReadAs before left ps a → IsReadAs before left qs b → (ps ≡ qs) × (a ≡ b)

-- what was written, with sums of either kind, is read as what was written, to its end
abbrev pub LogIsRead : Type 0
LogIsRead = (before : List ℕ) (pieces : Pieces) → All Fits (contents pieces) → IsReadAs before (log_bytes before pieces) (contents pieces) Whole

-- a front of what was written is read as the first pieces, and as nothing altered
pub record IsReadAsFront (before front : List ℕ) (pieces : List (List ℕ)) : Type 0 where
  pub found : List (List ℕ)
  pub lost : List (List ℕ)
  pub ended : Ended
  pub parts : pieces ≡ found ++ lost
  pub right : ended ≢ Altered
  pub read : IsReadAs before front found ended

-- any front of what was written is so read
abbrev pub FrontIsRead : Type 0
FrontIsRead = (before : List ℕ) (pieces : Pieces) (front rest : List ℕ) → All Fits (contents pieces) → log_bytes before pieces ≡ front ++ rest → IsReadAsFront before front (contents pieces)

-- the contents of a log are those of the pieces that it is read as, one after another
abbrev pub ContentsAreRead : Type 0
ContentsAreRead = (before left : List ℕ) (pieces : List (List ℕ)) (ended : Ended) → IsReadAs before left pieces ended → log_contents before left ≡ concat pieces

-- the contents of what was written are the contents that were written
abbrev pub WrittenContents : Type 0
WrittenContents = (before : List ℕ) (pieces : Pieces) → All Fits (contents pieces) → log_contents before (log_bytes before pieces) ≡ concat (contents pieces)

-- the contents of these bytes are those of the first of these pieces
pub record HasFirstContents (before front : List ℕ) (pieces : List (List ℕ)) : Type 0 where
  pub found : List (List ℕ)
  pub lost : List (List ℕ)
  pub parts : pieces ≡ found ++ lost
  pub given : log_contents before front ≡ concat found

-- so it is of any front of what was written
abbrev pub FrontContents : Type 0
FrontContents = (before : List ℕ) (pieces : Pieces) (front rest : List ℕ) → All Fits (contents pieces) → log_bytes before pieces ≡ front ++ rest → HasFirstContents before front (contents pieces)

-- the contents of these bytes are those of all of the first pieces, and then those of the first of the others
pub record HasAllContents (before front : List ℕ) (first others : List (List ℕ)) : Type 0 where
  pub found : List (List ℕ)
  pub lost : List (List ℕ)
  pub parts : others ≡ found ++ lost
  pub given : log_contents before front ≡ concat first ++ concat found

-- so it is of any front of what was written that has the first pieces whole
abbrev pub SyncedContents : Type 0
SyncedContents = (before : List ℕ) (first others : Pieces) (more rest : List ℕ) → All Fits (contents first) → All Fits (contents others) → log_bytes before (first ++ others) ≡ log_bytes before first ++ (more ++ rest)
    → HasAllContents before (log_bytes before first ++ more) (contents first) (contents others)

-- behind so many bytes, all are those of pieces between these sums, and this is what was written as them
pub record IsWholeLog (first : List ℕ) (start : ℕ) (sum bytes text : List ℕ) : Type 0 where
  pub within : start ≤ length bytes
  pub pieces : Pieces
  pub fits : All Fits (contents pieces)
  pub parts : drop start bytes ≡ log_bytes first pieces
  pub last : sum ≡ last_sum first pieces
  pub given : text ≡ concat (contents pieces)

-- the contents of a log are known exactly if it is whole, and they are what was written
abbrev pub KnownContents : Type 0
KnownContents = (first : List ℕ) (start : ℕ) (sum bytes text : List ℕ) → (log_known first start sum (Some bytes) ≡ Some text) ↔ IsWholeLog first start sum bytes text
