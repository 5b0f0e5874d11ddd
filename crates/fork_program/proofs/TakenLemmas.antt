-- What was taken of a known input.
use Rattle.std.proofs.Common.{◌≡◌, ℕ, ◌<◌, ◌+◌, List, ◌++◌, Option, Some, None, IfSome, sym, ap, ◌∙◌, length, length-append, append-nil, arith}
use Rattle.std.specs.Io.KnownBytes.{Consumes, IsAtEnd}

-- all of it, where nothing is left
pub all_taken : (old new : Option (List ℕ)) (came : List ℕ) → Consumes old new came → IsAtEnd new → IfSome old (λ input. came ≡ input)
all_taken None new came taken end = tt
all_taken (Some input) None came taken end = absurd taken
all_taken (Some input) (Some rest) came taken end = sym (taken ∙ ap (λ r. came ++ r) end ∙ append-nil came)

longer : (input came rest : List ℕ) (n : ℕ) → input ≡ came ++ rest → n < length came → n < length input
longer input came rest n is more =
    let whole : length input ≡ length came + length rest = ap (λ (l : List ℕ). length l) is ∙ length-append came rest in
    omega arith

-- it is at least as long
pub too_long : (old new : Option (List ℕ)) (came : List ℕ) (n : ℕ) → Consumes old new came → n < length came → IfSome old (λ input. n < length input)
too_long None new came n taken more = tt
too_long (Some input) None came n taken more = absurd taken
too_long (Some input) (Some rest) came n taken more = longer input came rest n taken more
