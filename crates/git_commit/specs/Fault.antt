-- The fault of bytes that are not a commit (own): that of the first faulty line.
use Rattle.std.specs.Prelude.{◌⊎◌, ℕ, List, codes, ◌==◌, slice_index, if◌then◌else◌, Bool}
use Rattle.git_name.specs.declared.kind.Kind.TheVariants.{Commit}
use Rattle.git_name.specs.Text.{Begins}
use Rattle.git_header.specs.declared.fault.HeaderFault.{HeaderFault}
use Rattle.git_header.specs.declared.fault.HeaderFault.TheVariants as fault
use Rattle.git_header.specs.Header.{HeaderPlace, NoHeader, SomeHeader, header_grammar}
use Rattle.git_header.specs.Value.{IsIdentLine, IsNameText, HoldsValue}
use Rattle.git_header.specs.Judging.{Grammar, IsFirstFault}

-- the places of a commit's header
pub data Place : Type 0 where
  First : Place
  AfterTree : Place
  AfterAuthor : Place
  Further : HeaderPlace → Place

-- the words that may begin a line
abbrev pub MayStand : Place → List ℕ → Type 0
MayStand First line = Begins (codes "tree ") line
MayStand AfterTree line = Begins (codes "parent ") line ⊎ Begins (codes "author ") line
MayStand AfterAuthor line = Begins (codes "committer ") line
MayStand (Further place) line = (header_grammar Commit).Stands place line

-- the lines of a valid form
abbrev pub IsRightLine : Place → List ℕ → Type 0
IsRightLine First line = HoldsValue (codes "tree ") IsNameText line
IsRightLine AfterTree line = HoldsValue (codes "parent ") IsNameText line ⊎ HoldsValue (codes "author ") IsIdentLine line
IsRightLine AfterAuthor line = HoldsValue (codes "committer ") IsIdentLine line
IsRightLine (Further place) line = (header_grammar Commit).Right place line

-- the header may end after the committer
abbrev pub MayEndAt : Place → Type 0
MayEndAt First = ⊥
MayEndAt AfterTree = ⊥
MayEndAt AfterAuthor = ⊥
MayEndAt (Further place) = Unit {0}

-- whether the line begins with `p`, as a parent's does and an author's does not
abbrev pub is_parent : List ℕ → Bool
is_parent line = slice_index line 0 == 112

-- the place after a line
abbrev pub place_after : Place → List ℕ → Place
place_after First line = AfterTree
place_after AfterTree line = if is_parent line then AfterTree else AfterAuthor
place_after AfterAuthor line = Further NoHeader
place_after (Further place) line = Further SomeHeader

-- the fault of a line of a wrong form
abbrev pub form_fault : Place → List ℕ → HeaderFault
form_fault First line = fault.Name
form_fault AfterTree line = if is_parent line then fault.Name else fault.Ident
form_fault AfterAuthor line = fault.Ident
form_fault (Further place) line = fault.HeaderLine

-- which lines are allowed in a commit's header
abbrev pub commit_grammar : Grammar Place HeaderFault
commit_grammar = record {
  Stands = MayStand;
  Right = IsRightLine;
  MayEnd = MayEndAt;
  next = place_after;
  order = fault.HeaderOrder;
  unended = fault.HeaderLine;
  zero_byte = fault.ZeroByte;
  form = form_fault;
}

-- the fault of bytes that are not a commit
abbrev pub IsCommitFault : HeaderFault → List ℕ → Type 0
IsCommitFault why bytes = IsFirstFault commit_grammar First why bytes
