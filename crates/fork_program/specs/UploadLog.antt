-- The log of open uploads, and the line by which a journal refers to it (own).
use Rattle.std.specs.Prelude.{ℕ, Bool, false, nat_eq, List, [], ◌∷◌, ◌++◌, codes, decimal}
use Rattle.hex.specs.Hex.{encode_lower}

-- the number of the log, how many of its bytes count, and the sum after these
abbrev pub reference_line : ℕ → ℕ → List ℕ → List ℕ
reference_line number len sum = codes "uploads" ++ codes " " ++ decimal number ++ codes " " ++ decimal len ++ codes " " ++ encode_lower sum ++ codes "\n"

-- these bytes begin with the first byte of such a line
abbrev pub is_reference : List ℕ → Bool
is_reference [] = false
is_reference (byte ∷ bytes) = nat_eq byte 117

-- the file of the log of this number
abbrev pub log_file : ℕ → List ℕ
log_file number = codes "uploads." ++ decimal number
