-- Tests find the ident and the name that were spelled.
use Rattle.std.proofs.Common.{true, false, Bool, cond, ◌≡◌, ℕ, ◌<◌, ◌^◌, List, [], ◌∷◌, ◌++◌, drop, slice_index, refl, ap, ◌∙◌, arith, Option, Some, None, decimal}
use Rattle.std.specs.Option.{unwrap_or}
use Rattle.hex.specs.Hex.{encode_lower}
use Rattle.git_name.specs.Name.{IsName, name_in}
use Rattle.git_name.specs.Number.{number_in}
use Rattle.git_name.proofs.ReadingLemmas.{name_in-encode_lower, number_in-decimal}
use Rattle.git_name.proofs.TextLemmas.{split_once-append}
use Rattle.git_header.specs.declared.ident.Sign.{Sign}
use Rattle.git_header.specs.declared.ident.Sign.TheVariants.{Plus, Minus}
use Rattle.git_name.specs.Text.{Lacks}
use Rattle.git_header.specs.Ident.{IdentValue, IsIdentValue, sign_byte, spelled_ident, spelled_time}
use Rattle.git_header.specs.IdentIn.{sides, sign_of, ident_in}
use Rattle.git_header.specs.Row.{name_or_none}
use Rattle.git_header.proofs.Splits.{decimal_without}

sign_again : (s : Sign) → sign_of (sign_byte s) ≡ s
sign_again Plus = refl
sign_again Minus = refl

abbrev made : List ℕ → List ℕ → ℕ → Sign → List ℕ → IdentValue
made name email seconds sign zone = record { name = name; email = email; seconds = seconds; sign = sign; zone = zone }

abbrev from_time : List ℕ → List ℕ → List ℕ × List ℕ → IdentValue
from_time name email time = made name email (unwrap_or (number_in time.0) 0) (sign_of (slice_index time.1 0)) (drop 1 time.1)

abbrev from_inner : List ℕ → List ℕ × List ℕ → IdentValue
from_inner name inner = from_time name inner.0 (sides 32 (drop 1 inner.1))

abbrev from_outer : List ℕ × List ℕ → IdentValue
from_outer outer = from_inner outer.0 (sides 62 outer.1)

sides_at : (byte : ℕ) (a b : List ℕ) → Lacks byte a → sides byte (a ++ byte ∷ b) ≡ (a, b)
sides_at byte a b lacks = ap (λ (o : Option (List ℕ × List ℕ)). unwrap_or o ([], [])) (split_once-append byte a b lacks)

-- a valid ident is found in its spelling
pub ident_again : (v : IdentValue) → IsIdentValue v → ident_in (spelled_ident v) ≡ v
ident_again v is =
    let small : v.seconds < 2 ^ 64 = (let s = is.seconds in omega arith) in
    ap from_outer (sides_at 60 v.name (v.email ++ 62 ∷ spelled_time v.seconds v.sign v.zone) is.name.no_open)
    ∙ ap (from_inner v.name) (sides_at 62 v.email (spelled_time v.seconds v.sign v.zone) is.email.no_close)
    ∙ ap (from_time v.name v.email) (sides_at 32 (decimal v.seconds) (sign_byte v.sign ∷ v.zone) (decimal_without 32 (omega arith) v.seconds small))
    ∙ ap (λ (o : Option ℕ). made v.name v.email (unwrap_or o 0) (sign_of (sign_byte v.sign)) v.zone) (number_in-decimal v.seconds small)
    ∙ ap (λ (s : Sign). made v.name v.email v.seconds s v.zone) (sign_again v.sign)

-- and so is a name
pub name_again : (name : List ℕ) → IsName name → name_or_none (name_in (encode_lower name)) ≡ name
name_again name is = ap name_or_none (name_in-encode_lower name is)

pub chosen : {X : Type 0} (test : Bool) (x : X) → test ≡ true → cond test (Some x) None ≡ Some x
chosen true x h = refl
chosen false x h = absurd cc

pub not_chosen : {X : Type 0} (test : Bool) (x : X) → (test ≡ true → ⊥) → cond test (Some x) None ≡ None
not_chosen true x refused = absurd (refused refl)
not_chosen false x refused = refl

pub chosen_is : {X : Type 0} (test : Bool) (x y : X) → cond test (Some x) None ≡ Some y → (test ≡ true) × (x ≡ y)
chosen_is true x y h = (refl, cc)
chosen_is false x y h = absurd cc

pub none_of : {X : Type 0} (o : Option X) → ((x : X) → o ≡ Some x → ⊥) → o ≡ None
none_of None never = refl
none_of (Some x) never = absurd (never x refl)
