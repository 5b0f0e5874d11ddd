-- Idents: who wrote or committed something, and when (git-commit-tree(1); the exact form is own).
use Rattle.std.specs.Prelude.{◌≡◌, ◌≢◌, ℕ, ◌-◌, ◌<◌, ◌≤◌, ◌^◌, List, [], ◌∷◌, ◌++◌, All, length, slice_index, decimal}
use Rattle.git_header.specs.declared.ident.Sign.{Sign}
use Rattle.git_header.specs.declared.ident.Sign.TheVariants.{Plus, Minus}
use Rattle.git_name.specs.Text.{Lacks}

-- the name, which is all that precedes `<`, the email between the angle brackets, the seconds since 1970, and the time zone
pub record IdentValue : Type 0 where
  pub name : List ℕ
  pub email : List ℕ
  pub seconds : ℕ
  pub sign : Sign
  pub zone : List ℕ

-- no angle bracket, line feed or zero byte
pub record IsIdentText (bytes : List ℕ) : Type 0 where
  pub no_open : Lacks 60 bytes
  pub no_close : Lacks 62 bytes
  pub no_end : Lacks 10 bytes
  pub no_zero : Lacks 0 bytes

-- empty, or the last byte is a space
abbrev pub EndsInSpace : List ℕ → Type 0
EndsInSpace bytes = bytes ≢ [] → slice_index bytes (length bytes - 1) ≡ 32

-- four digits
pub record IsZone (zone : List ℕ) : Type 0 where
  pub four : length zone ≡ 4
  pub low : All (λ b. 48 ≤ b) zone
  pub high : All (λ b. b ≤ 57) zone

-- the parts of a valid ident
pub record IsIdentValue (ident : IdentValue) : Type 0 where
  pub name : IsIdentText ident.name
  pub spaced : EndsInSpace ident.name
  pub email : IsIdentText ident.email
  pub seconds : ident.seconds < 2 ^ 63
  pub zone : IsZone ident.zone

abbrev pub sign_byte : Sign → ℕ
sign_byte Plus = 43
sign_byte Minus = 45

-- what follows the angle brackets: SP SECONDS SP SIGN ZONE, with no space after the sign
abbrev pub spelled_time : ℕ → Sign → List ℕ → List ℕ
spelled_time seconds sign zone = 32 ∷ (decimal seconds ++ 32 ∷ sign_byte sign ∷ zone)

-- the one spelling: NAME<EMAIL> and the time
abbrev pub spelled_ident : IdentValue → List ℕ
spelled_ident ident = ident.name ++ 60 ∷ (ident.email ++ 62 ∷ spelled_time ident.seconds ident.sign ident.zone)

-- the text is this ident
pub record IsIdent (ident : IdentValue) (text : List ℕ) : Type 0 where
  pub right : IsIdentValue ident
  pub spelling : text ≡ spelled_ident ident
