-- A tag is read in one way only.
use Rattle.std.proofs.Common.{◌≡◌, ◌≢◌, ℕ, List, [], ◌∷◌, ◌++◌, refl, sym, ap, ◌∙◌, codes, Option, Some, None, Result, Ok, Err}
use Rattle.std.specs.Prelude.{IfOk, IfErr, IsOkAnd}
use Rattle.std.specs.List.{AllByRecursion, flat_map}
use Rattle.hex.specs.Hex.{encode_lower}
use Rattle.git_name.specs.Kind.{type_word}
use Rattle.git_name.specs.Name.{IsName}
use Rattle.git_name.specs.declared.kind.Kind.{Kind}
use Rattle.git_name.specs.declared.kind.Kind.TheVariants as kind
use Rattle.git_header.specs.declared.fault.HeaderFault.{HeaderFault}
use Rattle.git_name.specs.Text.{ended}
use Rattle.git_header.specs.Line.{IsLine, ending}
use Rattle.git_header.specs.Ident.{IdentValue, spelled_ident}
use Rattle.git_header.specs.Header.{HeaderValue, NoHeader, IsHeader, header_grammar, header_lines}
use Rattle.git_header.specs.Value.{word_and_name, ident_line}
use Rattle.git_header.specs.Judging.{IsFirstFault}
use Rattle.git_header.proofs.Splits.{same_rest}
use Rattle.git_header.proofs.RowLemmas.{headers_unique}
use Rattle.git_header.proofs.JudgingLemmas.{fault_within, same_lines, no_fault, one_fault}
use Rattle.git_header.proofs.FieldLemmas.{one_line, lines_push}
use Rattle.git_header.proofs.ValueLemmas.{name_same}
use Rattle.git_header.proofs.ReadLemmas.{IsRead, go_on, same_ending, same_ident}
use Rattle.git_object.specs.declared.fault.TagFault.{TagFault}
use Rattle.git_object.specs.Tag.{TagValue, IsTagName, IsTagger, IsTag, type_line, tag_line, tagger_lines, tag_lines}
use Rattle.git_object.specs.TagIn.{kind_or_tag}
use Rattle.git_object.specs.Fault.{tag_fault, TagPlace, AtObject, AtType, AtName, AtTagger, Further, tag_grammar, IsTagFault}
use Rattle.git_object.proofs.TagLemmas.{sound_tag, header_no_tagger, further_within, fault_at_tagger, last_of, may_end, tagger_right, tag_right}

-- ---- read line by line

abbrev pub Read : List ℕ → List (List ℕ) → TagPlace → List ℕ → Type 0
Read bytes lines place rest = IsRead tag_grammar AtObject bytes lines place rest

abbrev object_line : List ℕ → List ℕ
object_line name = word_and_name (codes "object ") name

abbrev tagger_line : IdentValue → List ℕ
tagger_line ident = ident_line (codes "tagger ") ident

pub read_object : (bytes name rest : List ℕ) → IsName name → IsLine (object_line name) rest bytes → Read bytes (object_line name ∷ []) AtType rest
read_object bytes name rest is line = record {
  right = (record { value = encode_lower name; spelling = refl; is = (name, is, refl) }, refl);
  parts = one_line (object_line name) rest bytes line.parts;
}

pub read_type : (bytes rest after : List ℕ) (k : Kind) (lines : List (List ℕ)) → Read bytes lines AtType rest → IsLine (type_line k) after rest → Read bytes (lines ++ type_line k ∷ []) AtName after
read_type bytes rest after k lines read line =
    go_on tag_grammar AtObject bytes lines (type_line k ∷ []) AtType AtName rest after read (record { value = type_word k; spelling = refl; is = (k, refl) }, refl) (one_line (type_line k) after rest line.parts)

pub read_name : (bytes rest after name : List ℕ) (lines : List (List ℕ)) → Read bytes lines AtName rest → IsTagName name → IsLine (tag_line name) after rest → Read bytes (lines ++ tag_line name ∷ []) AtTagger after
read_name bytes rest after name lines read is line =
    go_on tag_grammar AtObject bytes lines (tag_line name ∷ []) AtName AtTagger rest after read (record { value = name; spelling = refl; is = is }, refl) (one_line (tag_line name) after rest line.parts)

-- the place after a tagger that may be missing
abbrev pub behind : Option IdentValue → TagPlace
behind None = AtTagger
behind (Some ident) = Further NoHeader

pub read_tagger : (bytes rest after : List ℕ) (t : Option IdentValue) (lines : List (List ℕ)) → Read bytes lines AtTagger rest → IsTagger t → rest ≡ flat_map ended (tagger_lines t) ++ after → Read bytes (lines ++ tagger_lines t) (behind t) after
read_tagger bytes rest after None lines read is parts = go_on tag_grammar AtObject bytes lines [] AtTagger AtTagger rest after read refl parts
read_tagger bytes rest after (Some ident) lines read is parts =
    go_on tag_grammar AtObject bytes lines (tagger_line ident ∷ []) AtTagger (Further NoHeader) rest after read (tagger_right ident [] (Further NoHeader) is refl) parts

-- a fault of further headers, after a tagger or without one
pub headers_fault : (why : HeaderFault) (text : List ℕ) (t : Option IdentValue) → (t ≡ None → (x : List ℕ) → text ≢ codes "tagger " ++ x) → IsFirstFault (header_grammar kind.Tag) NoHeader why text → IsFirstFault tag_grammar (behind t) (tag_fault why) text
headers_fault why text None fresh wrong = fault_at_tagger why text (fresh refl) wrong
headers_fault why text (Some ident) fresh wrong = fault_within tag_fault Further (header_grammar kind.Tag) tag_grammar further_within NoHeader why text wrong

pub read_whole : (bytes rest : List ℕ) (v : TagValue) → IsName v.object → IsTagName v.name → IsTagger v.tagger
    → Read bytes (((object_line v.object ∷ [] ++ type_line v.kind ∷ []) ++ tag_line v.name ∷ []) ++ tagger_lines v.tagger) (behind v.tagger) rest
    → AllByRecursion (IsHeader kind.Tag) v.headers → rest ≡ flat_map ended (flat_map header_lines v.headers) ++ ending v.message → IsTag v bytes
read_whole bytes rest v object name tagger read headers parts = record {
  right = record { object = object; name = name; tagger = tagger; headers = headers };
  spelling =
      lines_push (((object_line v.object ∷ [] ++ type_line v.kind ∷ []) ++ tag_line v.name ∷ []) ++ tagger_lines v.tagger) (flat_map header_lines v.headers) bytes rest (ending v.message) read.parts parts;
}

-- ---- one value

pub kind_back : (k : Kind) → kind_or_tag (type_word k) ≡ k
kind_back kind.Blob = refl
kind_back kind.Tree = refl
kind_back kind.Commit = refl
kind_back kind.Tag = refl

kind_same : (a b : Kind) → type_word a ≡ type_word b → a ≡ b
kind_same a b same = sym (kind_back a) ∙ ap kind_or_tag same ∙ kind_back b

first_line : {l m : List ℕ} {ls ms : List (List ℕ)} → l ∷ ls ≡ m ∷ ms → l ≡ m
first_line e = cc

other_lines : {l m : List ℕ} {ls ms : List (List ℕ)} → l ∷ ls ≡ m ∷ ms → ls ≡ ms
other_lines e = cc

clash : (hs : List HeaderValue) (ident : IdentValue) (lines : List (List ℕ)) → AllByRecursion (IsHeader kind.Tag) hs → flat_map header_lines hs ≡ tagger_line ident ∷ lines → ⊥
clash [] ident lines are e = let no_such : ⊥ = cc in no_such
clash (h ∷ hs) ident lines are e =
    header_no_tagger (h.key ++ 32 ∷ h.value) (record { key = h.key; value = h.value; key_is = are.0.key; value_is = are.0.value; spelling = refl }) (spelled_ident ident, first_line e)

same_tagger : (a b : Option IdentValue) (hs ks : List HeaderValue) → IsTagger a → IsTagger b → AllByRecursion (IsHeader kind.Tag) hs → AllByRecursion (IsHeader kind.Tag) ks
    → tagger_lines a ++ flat_map header_lines hs ≡ tagger_lines b ++ flat_map header_lines ks → (a ≡ b) × (flat_map header_lines hs ≡ flat_map header_lines ks)
same_tagger None None hs ks is_a is_b are are_2 e = (refl, e)
same_tagger None (Some j) hs ks is_a is_b are are_2 e = absurd (clash hs j (flat_map header_lines ks) are e)
same_tagger (Some i) None hs ks is_a is_b are are_2 e = absurd (clash ks i (flat_map header_lines hs) are_2 (sym e))
same_tagger (Some i) (Some j) hs ks is_a is_b are are_2 e = (ap (λ (t : IdentValue). Some t) (same_ident (codes "tagger ") i j is_a is_b (first_line e)), other_lines e)

abbrev made : List ℕ → Kind → List ℕ → Option IdentValue → List HeaderValue → Option (List ℕ) → TagValue
made object k name tagger headers message = record { object = object; kind = k; name = name; tagger = tagger; headers = headers; message = message }

-- bytes are at most one tag
pub one_tag : (bytes : List ℕ) (v w : TagValue) → IsTag v bytes → IsTag w bytes → v ≡ w
one_tag bytes v w one two =
    let lines = same_lines tag_grammar sound_tag AtObject (last_of v.tagger v.headers) (last_of w.tagger w.headers) (tag_lines v) (tag_lines w) (ending v.message) (ending w.message) (tag_right v one.right) (tag_right w two.right) (v.message, refl) (w.message, refl) (sym one.spelling ∙ two.spelling) in
    let objects : object_line v.object ≡ object_line w.object = first_line lines.0 in
    let behind_object = other_lines lines.0 in
    let types : type_line v.kind ≡ type_line w.kind = first_line behind_object in
    let behind_type = other_lines behind_object in
    let names : tag_line v.name ≡ tag_line w.name = first_line behind_type in
    let taggers = same_tagger v.tagger w.tagger v.headers w.headers one.right.tagger two.right.tagger one.right.headers two.right.headers (other_lines behind_type) in
    let object = name_same v.object w.object one.right.object two.right.object (same_rest (codes "object ") (encode_lower v.object) (encode_lower w.object) objects) in
    let k = kind_same v.kind w.kind (same_rest (codes "type ") (type_word v.kind) (type_word w.kind) types) in
    let name = same_rest (codes "tag ") v.name w.name names in
    let headers = headers_unique kind.Tag v.headers w.headers one.right.headers two.right.headers taggers.1 in
    ap (λ x. made x v.kind v.name v.tagger v.headers v.message) object
    ∙ ap (λ x. made w.object x v.name v.tagger v.headers v.message) k
    ∙ ap (λ x. made w.object w.kind x v.tagger v.headers v.message) name
    ∙ ap (λ x. made w.object w.kind w.name x v.headers v.message) taggers.0
    ∙ ap (λ x. made w.object w.kind w.name w.tagger x v.message) headers
    ∙ ap (λ x. made w.object w.kind w.name w.tagger w.headers x) (same_ending v.message w.message lines.1)

-- bytes with a fault are no tag
pub no_tag : (why : TagFault) (bytes : List ℕ) (v : TagValue) → IsTag v bytes → IsTagFault why bytes → ⊥
no_tag why bytes v is wrong =
    no_fault tag_grammar sound_tag AtObject (last_of v.tagger v.headers) why (tag_lines v) (ending v.message) bytes (tag_right v is.right) (may_end v.tagger v.headers) (v.message, refl) is.spelling wrong

pub one_tag_fault : (bytes : List ℕ) (f h : TagFault) → IsTagFault f bytes → IsTagFault h bytes → f ≡ h
one_tag_fault bytes f h one two = one_fault tag_grammar sound_tag AtObject f h bytes one two

-- what is a tag is read as this tag
pub only_one : {T : Type 0} (view : T → TagValue) (bytes : List ℕ) (r : Result T TagFault) (value : TagValue) → IfOk r (λ t. IsTag (view t) bytes) → IfErr r (λ why. IsTagFault why bytes) → IsTag value bytes → IsOkAnd r (λ t. view t ≡ value)
only_one view bytes (Ok t) value found exact is = one_tag bytes (view t) value found is
only_one view bytes (Err why) value found exact is = absurd (no_tag why bytes value is exact)
