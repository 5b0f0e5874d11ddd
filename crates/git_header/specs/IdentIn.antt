-- The ident that a text is, if it is one, for models that compute (own).
use Rattle.std.specs.Prelude.{ℕ, ◌==◌, List, [], drop, slice_index, if◌then◌else◌}
use Rattle.std.specs.Option.{unwrap_or}
use Rattle.git_name.specs.Number.{number_in}
use Rattle.git_name.specs.Text.{split_once}
use Rattle.git_header.specs.declared.ident.Sign.{Sign}
use Rattle.git_header.specs.declared.ident.Sign.TheVariants.{Plus, Minus}
use Rattle.git_header.specs.Ident.{IdentValue}

-- what precedes the first occurrence of the byte, and what follows it
abbrev pub sides : ℕ → List ℕ → List ℕ × List ℕ
sides byte text = unwrap_or (split_once byte text) ([], [])

abbrev pub sign_of : ℕ → Sign
sign_of byte = if byte == 45 then Minus else Plus

-- the parts between the angle brackets and the spaces
abbrev pub ident_in : List ℕ → IdentValue
ident_in text =
    let outer = sides 60 text in
    let inner = sides 62 outer.1 in
    let time = sides 32 (drop 1 inner.1) in
    record {
      name = outer.0;
      email = inner.0;
      seconds = unwrap_or (number_in time.0) 0;
      sign = sign_of (slice_index time.1 0);
      zone = drop 1 time.1;
    }
