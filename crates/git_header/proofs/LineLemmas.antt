-- Where a header ends, and where a line does.
use Rattle.std.proofs.Common.{true, ◌≢◌, ◌++◌, ◌↔◌, ◌≡◌, ℕ, ◌<◌, List, [], ◌∷◌, length, get_or, ap, ◌∙◌, arith, Option, Some, None}
use Rattle.std.specs.Prelude.{MatchOption, IfSome, IfNone, nat_eq}
use Rattle.std.proofs.lemmas.Bool.Decides.{nat_tests}
use Rattle.git_header.proofs.Splits.{heads}
use Rattle.git_header.specs.Line.{IsEnding, ending}

byte_is : (b : ℕ) → nat_eq b 10 ≡ true → b ≡ 10
byte_is b is = grind (arith, nat_tests)

byte_same : (b : ℕ) → b ≡ 10 → nat_eq b 10 ≡ true
byte_same b is = grind (arith, nat_tests)

-- bytes that end a header are empty or begin with a line feed
pub first_ends : (text : List ℕ) → 0 < length text → (nat_eq (get_or text 0 0) 10 ≡ true) ↔ IsEnding text
first_ends [] some = absurd (omega arith)
first_ends (b ∷ text) some = (λ is. (Some text, ap (λ h. h ∷ text) (byte_is b is)), λ ends. byte_same b (from ends.0 ends.1))
  where
    from : (m : Option (List ℕ)) → b ∷ text ≡ ending m → b ≡ 10
    from None is = absurd (cc)
    from (Some m) is = heads b 10 text m is

-- if the header goes on, its first line is not empty
pub goes_on : (text line after : List ℕ) → text ≡ line ++ 10 ∷ after → (IsEnding text → ⊥) → line ≢ []
goes_on text line after parts on none = on (Some after, parts ∙ ap (λ (l : List ℕ). l ++ 10 ∷ after) none)

pub some_part : {A : Type 0} (o : Option A) (N : Type 0) (S : A → Type 0) → MatchOption o N S → IfSome o S
some_part None N S h = tt
some_part (Some a) N S h = h

pub none_part : {A : Type 0} (o : Option A) (N : Type 0) (S : A → Type 0) → MatchOption o N S → IfNone o N
none_part None N S h = h
none_part (Some a) N S h = tt
