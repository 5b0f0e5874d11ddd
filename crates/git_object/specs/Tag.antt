-- Which bytes are which tag (git-cat-file(1), git-mktag(1); the exact form is own).
use Rattle.std.specs.Prelude.{◌≡◌, ◌≢◌, ℕ, List, [], ◌∷◌, ◌++◌, codes, Option, None, Some}
use Rattle.std.specs.List.{flat_map, AllByRecursion}
use Rattle.git_name.specs.Kind.{type_word}
use Rattle.git_name.specs.Name.{IsName}
use Rattle.git_name.specs.declared.kind.Kind.{Kind}
use Rattle.git_name.specs.declared.kind.Kind.TheVariants.{Tag}
use Rattle.git_header.specs.Value.{word_and_name, ident_line}
use Rattle.git_header.specs.Header.{HeaderValue, IsHeader, IsPlain, header_lines}
use Rattle.git_header.specs.Ident.{IdentValue, IsIdentValue}
use Rattle.git_name.specs.Text.{ended}
use Rattle.git_header.specs.Line.{ending}

-- a tag, without its address in memory; no message and an empty one are two values
pub record TagValue : Type 0 where
  pub object : List ℕ
  pub kind : Kind
  pub name : List ℕ
  pub tagger : Option IdentValue
  pub headers : List HeaderValue
  pub message : Option (List ℕ)

-- the name that a tag gives itself: at least one byte, on one line
pub record IsTagName (name : List ℕ) : Type 0 where
  pub some : name ≢ []
  pub plain : IsPlain name

-- a valid ident, if there is one
abbrev pub IsTagger : Option IdentValue → Type 0
IsTagger None = Unit {0}
IsTagger (Some ident) = IsIdentValue ident

-- the parts of a valid tag
pub record IsTagValue (tag : TagValue) : Type 0 where
  pub object : IsName tag.object
  pub name : IsTagName tag.name
  pub tagger : IsTagger tag.tagger
  pub headers : AllByRecursion (IsHeader Tag) tag.headers

-- the line of the kind that the object must have
abbrev pub type_line : Kind → List ℕ
type_line kind = codes "type " ++ type_word kind

abbrev pub tag_line : List ℕ → List ℕ
tag_line name = codes "tag " ++ name

-- a line for the tagger, if there is one
abbrev pub tagger_lines : Option IdentValue → List (List ℕ)
tagger_lines None = []
tagger_lines (Some ident) = ident_line (codes "tagger ") ident ∷ []

-- the lines of the header, in order
abbrev pub tag_lines : TagValue → List (List ℕ)
tag_lines tag = word_and_name (codes "object ") tag.object ∷ type_line tag.kind ∷ tag_line tag.name ∷ (tagger_lines tag.tagger ++ flat_map header_lines tag.headers)

-- each line and its line feed, and the message after an empty line if there is one
abbrev pub spelled_tag : TagValue → List ℕ
spelled_tag tag = flat_map ended (tag_lines tag) ++ ending tag.message

-- the bytes are this tag
pub record IsTag (tag : TagValue) (bytes : List ℕ) : Type 0 where
  pub right : IsTagValue tag
  pub spelling : bytes ≡ spelled_tag tag
