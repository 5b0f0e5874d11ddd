-- Further headers: a key, a value, and any number of continuation lines (own: tags have them as commits do).
use Rattle.std.specs.Prelude.{◌≡◌, ◌≢◌, ◌⊎◌, ℕ, List, [], ◌∷◌, ◌++◌, ◌==◌, map, codes, if◌then◌else◌}
use Rattle.std.specs.List.{AllByRecursion}
use Rattle.git_name.specs.declared.kind.Kind.{Kind}
use Rattle.git_name.specs.declared.kind.Kind.TheVariants.{Blob, Tree, Commit, Tag}
use Rattle.git_header.specs.declared.fault.HeaderFault.{HeaderFault}
use Rattle.git_header.specs.declared.fault.HeaderFault.TheVariants as fault
use Rattle.git_name.specs.Text.{Lacks}
use Rattle.git_header.specs.Judging.{Grammar}

-- the key, the value, and the values of the continuation lines
pub record HeaderValue : Type 0 where
  pub key : List ℕ
  pub value : List ℕ
  pub more : List (List ℕ)

-- no line feed and no zero byte
pub record IsPlain (bytes : List ℕ) : Type 0 where
  pub no_end : Lacks 10 bytes
  pub no_zero : Lacks 0 bytes

-- the kind of object that a const parameter means: 1 a tag, any other a commit
abbrev pub kind_at : ℕ → Kind
kind_at code = if code == 1 then Tag else Commit

-- the words that begin the required lines; no further header has one as its key
abbrev pub IsOwnWord : Kind → List ℕ → Type 0
IsOwnWord Commit key = (key ≡ codes "tree") ⊎ ((key ≡ codes "parent") ⊎ ((key ≡ codes "author") ⊎ (key ≡ codes "committer")))
IsOwnWord Tag key = (key ≡ codes "object") ⊎ ((key ≡ codes "type") ⊎ ((key ≡ codes "tag") ⊎ (key ≡ codes "tagger")))
IsOwnWord Blob key = ⊥
IsOwnWord Tree key = ⊥

-- the key of a further header
pub record IsKey (kind : Kind) (key : List ℕ) : Type 0 where
  pub some : key ≢ []
  pub no_space : Lacks 32 key
  pub plain : IsPlain key
  pub other : IsOwnWord kind key → ⊥

-- a further header of an object of this kind
pub record IsHeader (kind : Kind) (header : HeaderValue) : Type 0 where
  pub key : IsKey kind header.key
  pub value : IsPlain header.value
  pub more : AllByRecursion IsPlain header.more

-- a continuation line is a space and its value
abbrev pub continuing : List ℕ → List ℕ
continuing value = 32 ∷ value

-- the lines of a further header: its key, a space and its value, and its continuation lines
abbrev pub header_lines : HeaderValue → List (List ℕ)
header_lines header = (header.key ++ 32 ∷ header.value) ∷ map continuing header.more

-- the line begins a further header
pub record IsHeaderLine (kind : Kind) (line : List ℕ) : Type 0 where
  pub key : List ℕ
  pub value : List ℕ
  pub key_is : IsKey kind key
  pub value_is : IsPlain value
  pub spelling : line ≡ key ++ 32 ∷ value

-- the line continues a further header
pub record IsContinuation (line : List ℕ) : Type 0 where
  pub value : List ℕ
  pub value_is : IsPlain value
  pub spelling : line ≡ continuing value

-- the line begins with one of these words and a space
pub record HasOwnWord (kind : Kind) (line : List ℕ) : Type 0 where
  pub word : List ℕ
  pub rest : List ℕ
  pub own : IsOwnWord kind word
  pub begins : line ≡ word ++ 32 ∷ rest

-- whether a further header precedes
pub data HeaderPlace : Type 0 where
  NoHeader : HeaderPlace
  SomeHeader : HeaderPlace

abbrev pub IsFurther : Kind → HeaderPlace → List ℕ → Type 0
IsFurther kind NoHeader line = IsHeaderLine kind line
IsFurther kind SomeHeader line = IsHeaderLine kind line ⊎ IsContinuation line

-- what may come after the required lines
abbrev pub header_grammar : Kind → Grammar HeaderPlace HeaderFault
header_grammar kind = record {
  Stands = λ _ line. HasOwnWord kind line → ⊥;
  Right = IsFurther kind;
  MayEnd = λ _. Unit {0};
  next = λ _ _. SomeHeader;
  order = fault.HeaderOrder;
  unended = fault.HeaderLine;
  zero_byte = fault.ZeroByte;
  form = λ _ _. fault.HeaderLine;
}
