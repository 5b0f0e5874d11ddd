-- Sets of small numbers as the bits of words, in pages of 4,096 numbers (own).
use Rattle.std.specs.Prelude.{◌≡◌, ℕ, ◌/◌, ◌%◌, Bool, false, true, List, Option, None, get_or, is_some, nat_eq}
use Rattle.std.specs.Int.{bit_at}
use Rattle.std.specs.Option.{option_map_or}

-- whether a word has a bit
abbrev pub has_bit : ℕ → ℕ → Bool
has_bit word k = nat_eq (bit_at word k) 1

-- whether a number is among those of a page
unfoldable pub is_in : List ℕ → ℕ → Bool
is_in words k = has_bit (get_or words (k / 64) 0) (k % 64)

-- the words of each page that is there
abbrev pub Pages : Type 0
Pages = List (Option (List ℕ))

-- whether a number is among those of a page, if that is there
abbrev pub is_there : Option (List ℕ) → ℕ → Bool
is_there page k = option_map_or (λ words. is_in words k) page false

-- whether a number is in a set
unfoldable pub has : Pages → ℕ → Bool
has pages n = is_there (get_or pages (n / 4096) None) (n % 4096)

-- whether a number's page is there
unfoldable pub has_room : Pages → ℕ → Bool
has_room pages n = is_some (get_or pages (n / 4096) None)

-- what has room in one set has it in another
abbrev pub HasRoomOf : Pages → Pages → Type 0
HasRoomOf one other = (q : ℕ) → has_room one q ≡ true → has_room other q ≡ true
