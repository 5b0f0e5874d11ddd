-- Numbers in text: decimal digits without needless zeros, of at most 2^64 - 1 (own).
use Rattle.std.specs.Prelude.{ℕ, ◌^◌, ◌&&◌, nat_lt, List, Option, None, Some, if◌then◌else◌, decimal}
use Rattle.std.specs.Str.{bytes_eq}
use Rattle.std.specs.Str.Parse.{digits_value}

-- the number that a text writes: the one whose decimal digits are this very text
unfoldable pub number_in : List ℕ → Option ℕ
number_in text =
    let number = digits_value 10 text in
    if nat_lt number (2 ^ 64) && bytes_eq (decimal number) text then Some number else None
