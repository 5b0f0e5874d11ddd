-- The values of continuation lines, as they are in bytes or one by one.
use Rattle.std.specs.Prelude.{◌≡◌, ℕ, List, map, Option, Some, None}
use Rattle.git_header.specs.declared.more.More.{More}
use Rattle.git_header.specs.declared.more.More.TheVariants.{Text, Values}
use Rattle.git_header.specs.Row.{IsMore, more_in}

abbrev pub more_of : More → List (List ℕ)
more_of (Text text) = more_in text.now
more_of (Values values) = map (λ value. value.now) values.now

-- the bytes, if the values are in lines
abbrev pub text_in : More → Option (List ℕ)
text_in (Text text) = Some text.now
text_in (Values values) = None

-- if the values are in lines, the bytes are valid continuation lines
abbrev pub IsMoreOf : More → Type 0
IsMoreOf more = (text : List ℕ) → text_in more ≡ Some text → IsMore text
