-- A whole text of states that was read (own).
use Rattle.std.specs.Prelude.{◌≡◌, ℕ, List, Option, ⊤}
use Rattle.std.specs.Io.KnownBytes.{Consumes, IsAtEnd}
use Rattle.sha2.specs.Sha256.{sha256}
use Rattle.state_text.specs.declared.fault.StateFault.{StateFault}
use Rattle.state_text.specs.declared.fault.StateFault.TheVariants.{Line, Read, Memory}
use Rattle.state_text.specs.declared.version.Version.{Version}
use Rattle.state_text.specs.States.{States}
use Rattle.state_text.specs.Text.{IsTextIn}

-- all that the reader had is the text of these states in this version, and this is its SHA-256 (FIPS 180-4, 6.2)
pub record ReadsText (before after : Option (List ℕ)) (states : States) (name : List ℕ) (version : Version) : Type 0 where
  pub text : List ℕ
  pub consumed : Consumes before after text
  pub ends : IsAtEnd after
  pub right : IsTextIn version states text
  pub named : name ≡ sha256 text

-- the reader failed, or memory ran out
abbrev pub IsNoWrongLine : StateFault → Type 0
IsNoWrongLine (Line number) = ⊥
IsNoWrongLine Read = ⊤
IsNoWrongLine Memory = ⊤
