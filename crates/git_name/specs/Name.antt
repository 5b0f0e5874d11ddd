-- Names of objects, and the digits that write them (Git's hash-function-transition: 32 bytes, 64 lower case digits).
use Rattle.std.specs.Prelude.{◌≡◌, ℕ, List, length, Option, None, Some, Result, Ok, Err, if◌then◌else◌}
use Rattle.std.specs.Ordering.{nat_cmp}
use Rattle.std.specs.Str.{bytes_eq}
use Rattle.std.specs.Cmp.Lexicographic.{slice_cmp}
use Rattle.std.specs.declared.cmp.Ordering.{Ordering}
use Rattle.hex.specs.declared.error.FromHexError.{FromHexError}
use Rattle.hex.specs.Hex.{IsBytes, encode_lower, decode_sized}

-- 32 bytes
pub record IsName (name : List ℕ) : Type 0 where
  pub length : length name ≡ 32
  pub bytes : IsBytes name

-- the bytewise order
abbrev pub name_cmp : List ℕ → List ℕ → Ordering
name_cmp = slice_cmp nat_cmp

-- what was read, if writing it gives the same text again
abbrev pub same_again : List ℕ → Result (List ℕ) FromHexError → Option (List ℕ)
same_again text (Ok name) = if bytes_eq (encode_lower name) text then Some name else None
same_again text (Err error) = None

-- the name that 64 lower case digits write
unfoldable pub name_in : List ℕ → Option (List ℕ)
name_in text = same_again text (decode_sized text 32)
