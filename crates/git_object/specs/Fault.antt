-- The fault of bytes that are not a tag (own): that of the first faulty line.
use Rattle.std.specs.Prelude.{◌≡◌, ◌⊎◌, ℕ, List, codes, take, Bool, if◌then◌else◌}
use Rattle.std.specs.Str.{bytes_eq}
use Rattle.git_name.specs.Kind.{type_word}
use Rattle.git_name.specs.declared.kind.Kind.{Kind}
use Rattle.git_name.specs.declared.kind.Kind.TheVariants.{Tag}
use Rattle.git_name.specs.Text.{Begins}
use Rattle.git_header.specs.declared.fault.HeaderFault.{HeaderFault}
use Rattle.git_header.specs.declared.fault.HeaderFault.TheVariants as line
use Rattle.git_header.specs.Value.{IsNameText, IsIdentLine, HoldsValue}
use Rattle.git_header.specs.Header.{HeaderPlace, NoHeader, SomeHeader, header_grammar}
use Rattle.git_header.specs.Judging.{Grammar, IsFirstFault}
use Rattle.git_object.specs.declared.fault.TagFault.{TagFault}
use Rattle.git_object.specs.declared.fault.TagFault.TheVariants as fault
use Rattle.git_object.specs.Tag.{IsTagName}

-- the faults that a tag's lines share with a commit's
abbrev pub tag_fault : HeaderFault → TagFault
tag_fault line.HeaderOrder = fault.HeaderOrder
tag_fault line.Name = fault.Name
tag_fault line.Ident = fault.Ident
tag_fault line.HeaderLine = fault.HeaderLine
tag_fault line.ZeroByte = fault.ZeroByte

-- the text is the word of a kind
abbrev pub IsTypeWord : List ℕ → Type 0
IsTypeWord text = (kind : Kind) × (text ≡ type_word kind)

-- the places of a tag's header
pub data TagPlace : Type 0 where
  AtObject : TagPlace
  AtType : TagPlace
  AtName : TagPlace
  AtTagger : TagPlace
  Further : HeaderPlace → TagPlace

-- the words that may begin a line; the tagger may be missing
abbrev pub MayStand : TagPlace → List ℕ → Type 0
MayStand AtObject text = Begins (codes "object ") text
MayStand AtType text = Begins (codes "type ") text
MayStand AtName text = Begins (codes "tag ") text
MayStand AtTagger text = Begins (codes "tagger ") text ⊎ (header_grammar Tag).Stands NoHeader text
MayStand (Further place) text = (header_grammar Tag).Stands place text

-- the lines of a valid form
abbrev pub IsRightLine : TagPlace → List ℕ → Type 0
IsRightLine AtObject text = HoldsValue (codes "object ") IsNameText text
IsRightLine AtType text = HoldsValue (codes "type ") IsTypeWord text
IsRightLine AtName text = HoldsValue (codes "tag ") IsTagName text
IsRightLine AtTagger text = HoldsValue (codes "tagger ") IsIdentLine text ⊎ (header_grammar Tag).Right NoHeader text
IsRightLine (Further place) text = (header_grammar Tag).Right place text

-- the header may end after the tag's name
abbrev pub MayEndAt : TagPlace → Type 0
MayEndAt AtObject = ⊥
MayEndAt AtType = ⊥
MayEndAt AtName = ⊥
MayEndAt AtTagger = Unit {0}
MayEndAt (Further place) = Unit {0}

-- whether the line is that of a tagger
abbrev pub is_tagger : List ℕ → Bool
is_tagger text = bytes_eq (take 7 text) (codes "tagger ")

-- the place after a line
abbrev pub place_after : TagPlace → List ℕ → TagPlace
place_after AtObject text = AtType
place_after AtType text = AtName
place_after AtName text = AtTagger
place_after AtTagger text = if is_tagger text then Further NoHeader else Further SomeHeader
place_after (Further place) text = Further SomeHeader

-- the fault of a line of a wrong form
abbrev pub form_fault : TagPlace → List ℕ → TagFault
form_fault AtObject text = fault.Name
form_fault AtType text = fault.TypeWord
form_fault AtName text = fault.HeaderLine
form_fault AtTagger text = if is_tagger text then fault.Ident else fault.HeaderLine
form_fault (Further place) text = fault.HeaderLine

-- which lines are allowed in a tag's header
abbrev pub tag_grammar : Grammar TagPlace TagFault
tag_grammar = record {
  Stands = MayStand;
  Right = IsRightLine;
  MayEnd = MayEndAt;
  next = place_after;
  order = fault.HeaderOrder;
  unended = fault.HeaderLine;
  zero_byte = fault.ZeroByte;
  form = form_fault;
}

-- the fault of bytes that are not a tag
abbrev pub IsTagFault : TagFault → List ℕ → Type 0
IsTagFault why bytes = IsFirstFault tag_grammar AtObject why bytes
