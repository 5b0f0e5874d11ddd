-- Objects and their names (Git's hash-function-transition; FIPS 180-4).
use Rattle.std.specs.Prelude.{ℕ, List, [], ◌∷◌, ◌++◌, length, decimal}
use Rattle.sha2.specs.Sha256.{sha256}
use Rattle.git_name.specs.declared.kind.Kind.{Kind}
use Rattle.git_name.specs.Kind.{type_word}

-- a kind and bytes
pub record Object : Type 0 where
  pub kind : Kind
  pub bytes : List ℕ

-- the type word, a space, the length in decimal, and a zero byte
abbrev pub header : Kind → ℕ → List ℕ
header kind len = type_word kind ++ 32 ∷ decimal len ++ 0 ∷ []

-- the header and the bytes
abbrev pub typed_bytes : Object → List ℕ
typed_bytes object = header object.kind (length object.bytes) ++ object.bytes

-- the name of an object: SHA-256 of its header and its bytes
unfoldable pub object_name : Object → List ℕ
object_name object = sha256 (typed_bytes object)
