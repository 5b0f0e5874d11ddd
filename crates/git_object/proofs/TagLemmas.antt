-- The lines of a tag are valid lines, and the faults if one is missing.
use Rattle.std.proofs.Common.{true, false, Bool, cond, ◌≡◌, ◌≢◌, ◌⊎◌, inl, inr, ℕ, ◌<◌, List, [], ◌∷◌, ◌++◌, length, take, drop, refl, sym, ap, subst, ◌∙◌, arith, rules, codes, Option, Some, None}
use Rattle.std.specs.List.{AllByRecursion, flat_map}
use Rattle.std.proofs.lemmas.List.{take-append-drop}
use Rattle.std.proofs.lemmas.List.Elements.{All-from_recursion, All-append, All-same}
use Rattle.std.proofs.lemmas.Slice.Eq.{bytes_eq-Decides}
use Rattle.hex.specs.Hex.{encode_lower}
use Rattle.git_name.specs.Kind.{type_word}
use Rattle.git_name.specs.declared.kind.Kind.{Kind}
use Rattle.git_name.specs.declared.kind.Kind.TheVariants as kind
use Rattle.git_header.specs.declared.fault.HeaderFault.{HeaderFault}
use Rattle.git_header.specs.declared.fault.HeaderFault.TheVariants as line
use Rattle.git_name.specs.Text.{Begins, Lacks, ended}
use Rattle.git_header.specs.Line.{IsEnding, IsLine, IsNoWord}
use Rattle.git_header.specs.Ident.{IdentValue, IsIdentValue, spelled_ident}
use Rattle.git_header.specs.Header.{HeaderValue, IsHeader, IsHeaderLine, HasOwnWord, HeaderPlace, NoHeader, SomeHeader, header_grammar, header_lines}
use Rattle.git_header.specs.Value.{ident_line, IsNameText, IsIdentLine, HoldsValue, IsNoValue}
use Rattle.git_header.specs.Judging.{AreRightLines, HoldsZero, Misplaced, Malformed, IsBroken, Early, Unended, Bad, IsFirstFault}
use Rattle.git_header.proofs.Splits.{heads}
use Rattle.git_header.proofs.JudgingLemmas.{IsUsual, IsSound, IsWithin, right_within, broken_within, fault_here}
use Rattle.git_header.proofs.FieldLemmas.{all_right, differ, headers_right, place_behind}
use Rattle.git_header.proofs.ValueLemmas.{name_value_lacks, ident_value_no_zero, ident_value_no_end, word_broken, value_broken, held_value, drop_front}
use Rattle.git_header.proofs.FurtherLemmas.{further_no_zero, further_no_end, further_some, further_stands}
use Rattle.git_object.specs.declared.fault.TagFault.TheVariants as fault
use Rattle.git_object.specs.Tag.{TagValue, IsTagName, IsTagger, IsTagValue, tagger_lines, tag_lines}
use Rattle.git_object.specs.Fault.{tag_fault, IsTypeWord, TagPlace, AtObject, AtType, AtName, AtTagger, Further, tag_grammar, is_tagger, place_after, form_fault}

pub usual_tag : IsUsual tag_fault tag_grammar
usual_tag = record { order = refl; unended = refl; zero_byte = refl }

-- ---- the lines are lines

word_lacks : (byte : ℕ) → byte < 32 → (k : Kind) → Lacks byte (type_word k)
word_lacks byte low kind.Blob = All-from_recursion (λ b. b ≢ byte) (codes "blob") (search (rules, arith))
word_lacks byte low kind.Tree = All-from_recursion (λ b. b ≢ byte) (codes "tree") (search (rules, arith))
word_lacks byte low kind.Commit = All-from_recursion (λ b. b ≢ byte) (codes "commit") (search (rules, arith))
word_lacks byte low kind.Tag = All-from_recursion (λ b. b ≢ byte) (codes "tag") (search (rules, arith))

type_lacks : (byte : ℕ) → byte < 32 → (value : List ℕ) → IsTypeWord value → Lacks byte value
type_lacks byte low value (k, spelled) = All-same (λ b. b ≢ byte) _ _ spelled (word_lacks byte low k)

object_lacks : (byte : ℕ) → byte < 32 → Lacks byte (codes "object ")
object_lacks byte low = All-from_recursion (λ b. b ≢ byte) (codes "object ") (search (rules, arith))

kind_lacks : (byte : ℕ) → byte < 32 → Lacks byte (codes "type ")
kind_lacks byte low = All-from_recursion (λ b. b ≢ byte) (codes "type ") (search (rules, arith))

tag_lacks : (byte : ℕ) → byte < 32 → Lacks byte (codes "tag ")
tag_lacks byte low = All-from_recursion (λ b. b ≢ byte) (codes "tag ") (search (rules, arith))

tagger_lacks : (byte : ℕ) → byte < 32 → Lacks byte (codes "tagger ")
tagger_lacks byte low = All-from_recursion (λ b. b ≢ byte) (codes "tagger ") (search (rules, arith))

held : (byte : ℕ) (word : List ℕ) → Lacks byte word → (IsValue : List ℕ → Type 0) (text : List ℕ) → ((value : List ℕ) → IsValue value → Lacks byte value) → HoldsValue word IsValue text → Lacks byte text
held byte word lacks IsValue text lack h = All-same (λ b. b ≢ byte) _ _ h.spelling (All-append (λ b. b ≢ byte) word h.value lacks (lack h.value h.is))

no_zero_at : (p : TagPlace) (text : List ℕ) → tag_grammar.Right p text → Lacks 0 text
no_zero_at AtObject text h = held 0 (codes "object ") (object_lacks 0 (omega arith)) IsNameText text (name_value_lacks 0 (omega arith)) h
no_zero_at AtType text h = held 0 (codes "type ") (kind_lacks 0 (omega arith)) IsTypeWord text (type_lacks 0 (omega arith)) h
no_zero_at AtName text h = held 0 (codes "tag ") (tag_lacks 0 (omega arith)) IsTagName text (λ value is. is.plain.no_zero) h
no_zero_at AtTagger text (inl h) = held 0 (codes "tagger ") (tagger_lacks 0 (omega arith)) IsIdentLine text ident_value_no_zero h
no_zero_at AtTagger text (inr h) = further_no_zero kind.Tag NoHeader text h
no_zero_at (Further p) text h = further_no_zero kind.Tag p text h

no_end_at : (p : TagPlace) (text : List ℕ) → tag_grammar.Right p text → Lacks 10 text
no_end_at AtObject text h = held 10 (codes "object ") (object_lacks 10 (omega arith)) IsNameText text (name_value_lacks 10 (omega arith)) h
no_end_at AtType text h = held 10 (codes "type ") (kind_lacks 10 (omega arith)) IsTypeWord text (type_lacks 10 (omega arith)) h
no_end_at AtName text h = held 10 (codes "tag ") (tag_lacks 10 (omega arith)) IsTagName text (λ value is. is.plain.no_end) h
no_end_at AtTagger text (inl h) = held 10 (codes "tagger ") (tagger_lacks 10 (omega arith)) IsIdentLine text ident_value_no_end h
no_end_at AtTagger text (inr h) = further_no_end kind.Tag NoHeader text h
no_end_at (Further p) text h = further_no_end kind.Tag p text h

some_at : (p : TagPlace) (text : List ℕ) → tag_grammar.Right p text → text ≢ []
some_at AtObject text h e = let same = sym h.spelling ∙ e in let no_such : ⊥ = cc same in no_such
some_at AtType text h e = let same = sym h.spelling ∙ e in let no_such : ⊥ = cc same in no_such
some_at AtName text h e = let same = sym h.spelling ∙ e in let no_such : ⊥ = cc same in no_such
some_at AtTagger text (inl h) e = let same = sym h.spelling ∙ e in let no_such : ⊥ = cc same in no_such
some_at AtTagger text (inr h) e = further_some kind.Tag NoHeader text h e
some_at (Further p) text h e = further_some kind.Tag p text h e

stands_at : (p : TagPlace) (text : List ℕ) → tag_grammar.Right p text → tag_grammar.Stands p text
stands_at AtObject text h = (h.value, h.spelling)
stands_at AtType text h = (h.value, h.spelling)
stands_at AtName text h = (h.value, h.spelling)
stands_at AtTagger text (inl h) = inl (h.value, h.spelling)
stands_at AtTagger text (inr h) = inr (further_stands kind.Tag NoHeader text h)
stands_at (Further p) text h = further_stands kind.Tag p text h

pub sound_tag : IsSound tag_grammar
sound_tag = record { no_zero = no_zero_at; no_end = no_end_at; some = some_at; stands = stands_at }

-- ---- the word of a tagger

is_false : (b : Bool) → (b ≡ true → ⊥) → b ≡ false
is_false true not = absurd (not refl)
is_false false not = refl

pub no_tagger : (text : List ℕ) → (Begins (codes "tagger ") text → ⊥) → is_tagger text ≡ false
no_tagger text other = is_false (is_tagger text) (λ is. other (drop 7 text, sym (take-append-drop 7 text) ∙ ap (λ (t : List ℕ). t ++ drop 7 text) ((bytes_eq-Decides (take 7 text) (codes "tagger ")).0 is)))

-- a further header does not begin with the word
pub header_no_tagger : (text : List ℕ) → IsHeaderLine kind.Tag text → Begins (codes "tagger ") text → ⊥
header_no_tagger text h (rest, is) = further_stands kind.Tag NoHeader text h (record { word = codes "tagger"; rest = rest; own = inr (inr (inr refl)); begins = is })

-- ---- a required line is missing

pub object_fault : (why : HeaderFault) (text : List ℕ) → IsNoValue (codes "object ") IsNameText line.Name why text → IsFirstFault tag_grammar AtObject (tag_fault why) text
object_fault why text wrong = fault_here tag_grammar AtObject (tag_fault why) text (value_broken tag_fault tag_grammar usual_tag why line.Name AtObject (codes "object ") text IsNameText wrong
    (λ _ may. may) (λ o. Bad o.line o.after o.is (Misplaced o.plain o.other refl)) (λ value. (value, refl)) (λ value h. held_value (codes "object ") value IsNameText h) (λ value. refl))

pub type_fault : (why : HeaderFault) (text : List ℕ) → IsNoWord (codes "type ") why text → IsFirstFault tag_grammar AtType (tag_fault why) text
type_fault why text wrong = fault_here tag_grammar AtType (tag_fault why) text (word_broken tag_fault tag_grammar usual_tag why AtType (codes "type ") text wrong
    (λ _ may. may) (λ o. Bad o.line o.after o.is (Misplaced o.plain o.other refl)))

pub type_wrong : (text word rest : List ℕ) → IsLine (codes "type " ++ word) rest text → Lacks 0 (codes "type " ++ word) → ((k : Kind) → word ≢ type_word k) → IsFirstFault tag_grammar AtType fault.TypeWord text
type_wrong text word rest is plain none = fault_here tag_grammar AtType fault.TypeWord text
    (Bad (codes "type " ++ word) rest is (Malformed plain (word, refl) (λ h. let held = held_value (codes "type ") word IsTypeWord h in none held.0 held.1) refl))

pub name_fault : (why : HeaderFault) (text : List ℕ) → IsNoWord (codes "tag ") why text → IsFirstFault tag_grammar AtName (tag_fault why) text
name_fault why text wrong = fault_here tag_grammar AtName (tag_fault why) text (word_broken tag_fault tag_grammar usual_tag why AtName (codes "tag ") text wrong
    (λ _ may. may) (λ o. Bad o.line o.after o.is (Misplaced o.plain o.other refl)))

no_bytes : (name : List ℕ) → length name ≡ 0 → name ≡ []
no_bytes [] none = refl
no_bytes (b ∷ name) none = absurd (omega arith)

pub name_wrong : (text name rest : List ℕ) → IsLine (codes "tag " ++ name) rest text → Lacks 0 (codes "tag " ++ name) → length name ≡ 0 → IsFirstFault tag_grammar AtName fault.HeaderLine text
name_wrong text name rest is plain none = fault_here tag_grammar AtName fault.HeaderLine text
    (Bad (codes "tag " ++ name) rest is (Malformed plain (name, refl) (λ h. (held_value (codes "tag ") name IsTagName h).some (no_bytes name none)) refl))

pub name_right : (text name rest : List ℕ) → IsLine (codes "tag " ++ name) rest text → Lacks 0 (codes "tag " ++ name) → name ≢ [] → IsTagName name
name_right text name rest is plain some = record { some = some; plain = record { no_end = all_right 10 (codes "tag ") name is.no_end; no_zero = all_right 0 (codes "tag ") name plain } }

tagger_goes_on : (text x : List ℕ) → text ≡ codes "tagger " ++ x → IsEnding text → ⊥
tagger_goes_on text x begins (None, ends) = let same = sym begins ∙ ends in let no_such : ⊥ = cc same in no_such
tagger_goes_on text x begins (Some m, ends) = differ 116 10 (heads 116 10 _ m (sym begins ∙ ends)) (omega arith)

tagger_value : (value : List ℕ) → tag_grammar.Right AtTagger (codes "tagger " ++ value) → IsIdentLine value
tagger_value value (inl h) = held_value (codes "tagger ") value IsIdentLine h
tagger_value value (inr h) = absurd (header_no_tagger (codes "tagger " ++ value) h (value, refl))

pub tagger_fault : (why : HeaderFault) (text x : List ℕ) → text ≡ codes "tagger " ++ x → IsNoValue (codes "tagger ") IsIdentLine line.Ident why text → IsFirstFault tag_grammar AtTagger (tag_fault why) text
tagger_fault why text x begins wrong = fault_here tag_grammar AtTagger (tag_fault why) text (value_broken tag_fault tag_grammar usual_tag why line.Ident AtTagger (codes "tagger ") text IsIdentLine wrong
    (λ ends _. tagger_goes_on text x begins ends) (λ o. absurd (o.other (drop_front (codes "tagger ") o.line o.after x (tagger_lacks 10 (omega arith)) (sym o.is.parts ∙ begins)))) (λ value. inl (value, refl)) tagger_value (λ value. refl))

-- ---- further headers of a tag

pub further_within : IsWithin tag_fault Further (header_grammar kind.Tag) tag_grammar
further_within = record {
  right = λ p text right. right;
  only = λ p text right. right;
  stands = λ p text stands. stands;
  may = λ p text stands. stands;
  ends = λ p may. may;
  next = λ p text. refl;
  order = refl;
  unended = refl;
  zero_byte = refl;
  form = λ p text. refl;
}

-- valid further headers where a tagger might be
pub right_at_tagger : (l : List ℕ) (lines : List (List ℕ)) (q : HeaderPlace) → AreRightLines (header_grammar kind.Tag) NoHeader (l ∷ lines) q → AreRightLines tag_grammar AtTagger (l ∷ lines) (Further q)
right_at_tagger l lines q right =
    let next : place_after AtTagger l ≡ Further SomeHeader = ap (λ b. cond b (Further NoHeader) (Further SomeHeader)) (no_tagger l (header_no_tagger l right.0)) in
    (inr right.0, subst (λ t. AreRightLines tag_grammar t lines (Further q)) (sym next) (right_within tag_fault Further (header_grammar kind.Tag) tag_grammar further_within SomeHeader q lines right.1))

-- a fault of further headers, if there is no tagger
pub fault_at_tagger : (why : HeaderFault) (text : List ℕ) → ((x : List ℕ) → text ≢ codes "tagger " ++ x) → IsFirstFault (header_grammar kind.Tag) NoHeader why text → IsFirstFault tag_grammar AtTagger (tag_fault why) text
fault_at_tagger why text fresh wrong = from wrong.lines wrong.place wrong.rest wrong.right wrong.parts wrong.broken
  where
    other : (l a : List ℕ) → IsLine l a text → Begins (codes "tagger ") l → ⊥
    other l a is (x, begins) = fresh (x ++ 10 ∷ a) (is.parts ∙ ap (λ (t : List ℕ). t ++ 10 ∷ a) begins)

    form_is : (l a : List ℕ) → IsLine l a text → fault.HeaderLine ≡ form_fault AtTagger l
    form_is l a is = sym (ap (λ b. cond b fault.Ident fault.HeaderLine) (no_tagger l (other l a is)))

    not_stands : (l a : List ℕ) → IsLine l a text → ((HasOwnWord kind.Tag l → ⊥) → ⊥) → Begins (codes "tagger ") l ⊎ (HasOwnWord kind.Tag l → ⊥) → ⊥
    not_stands l a is s (inl begins) = other l a is begins
    not_stands l a is s (inr stands) = s stands

    not_right : (l a : List ℕ) → IsLine l a text → (IsHeaderLine kind.Tag l → ⊥) → HoldsValue (codes "tagger ") IsIdentLine l ⊎ IsHeaderLine kind.Tag l → ⊥
    not_right l a is r (inl h) = other l a is (h.value, h.spelling)
    not_right l a is r (inr right) = r right

    here : (f : HeaderFault) → IsBroken (header_grammar kind.Tag) f NoHeader text → IsBroken tag_grammar (tag_fault f) AtTagger text
    here f (Early ends n e) = Early ends n (ap tag_fault e)
    here f (Unended some lacks e) = Unended some lacks (ap tag_fault e)
    here f (Bad l a is (HoldsZero z e)) = Bad l a is (HoldsZero z (ap tag_fault e))
    here f (Bad l a is (Misplaced plain s e)) = Bad l a is (Misplaced plain (not_stands l a is s) (ap tag_fault e))
    here f (Bad l a is (Malformed plain s r e)) = Bad l a is (Malformed plain (inr s) (not_right l a is r) (ap tag_fault e ∙ form_is l a is))

    from : (ls : List (List ℕ)) (p : HeaderPlace) (rest : List ℕ) → AreRightLines (header_grammar kind.Tag) NoHeader ls p → text ≡ flat_map ended ls ++ rest → IsBroken (header_grammar kind.Tag) why p rest → IsFirstFault tag_grammar AtTagger (tag_fault why) text
    from [] p rest right parts broken = fault_here tag_grammar AtTagger (tag_fault why) text (here why (subst (λ q. IsBroken (header_grammar kind.Tag) why q text) (sym right) (subst (IsBroken (header_grammar kind.Tag) why p) (sym parts) broken)))
    from (l ∷ ls) p rest right parts broken = record {
      lines = l ∷ ls;
      place = Further p;
      rest = rest;
      right = right_at_tagger l ls p right;
      parts = parts;
      broken = broken_within tag_fault Further (header_grammar kind.Tag) tag_grammar further_within why p rest broken;
    }

-- ---- a whole tag

abbrev pub last_of : Option IdentValue → List HeaderValue → TagPlace
last_of None [] = AtTagger
last_of None (h ∷ hs) = Further SomeHeader
last_of (Some ident) hs = Further (place_behind hs)

pub may_end : (t : Option IdentValue) (hs : List HeaderValue) → tag_grammar.MayEnd (last_of t hs)
may_end None [] = tt
may_end None (h ∷ hs) = tt
may_end (Some ident) hs = tt

pub tagger_right : (ident : IdentValue) (lines : List (List ℕ)) (q : TagPlace) → IsIdentValue ident → AreRightLines tag_grammar (Further NoHeader) lines q → AreRightLines tag_grammar AtTagger (ident_line (codes "tagger ") ident ∷ lines) q
tagger_right ident lines q is right = (inl (record { value = spelled_ident ident; spelling = refl; is = (ident, record { right = is; spelling = refl }) }), right)

rest_right : (t : Option IdentValue) (hs : List HeaderValue) → IsTagger t → AllByRecursion (IsHeader kind.Tag) hs → AreRightLines tag_grammar AtTagger (tagger_lines t ++ flat_map header_lines hs) (last_of t hs)
rest_right None [] tagger are = refl
rest_right None (h ∷ hs) tagger are = right_at_tagger (h.key ++ 32 ∷ h.value) _ SomeHeader (headers_right kind.Tag (h ∷ hs) are)
rest_right (Some ident) hs tagger are =
    tagger_right ident (flat_map header_lines hs) (Further (place_behind hs)) tagger
    (right_within tag_fault Further (header_grammar kind.Tag) tag_grammar further_within NoHeader (place_behind hs) (flat_map header_lines hs) (headers_right kind.Tag hs are))

pub tag_right : (v : TagValue) → IsTagValue v → AreRightLines tag_grammar AtObject (tag_lines v) (last_of v.tagger v.headers)
tag_right v is = (
  record { value = encode_lower v.object; spelling = refl; is = (v.object, is.object, refl) },
  (
    record { value = type_word v.kind; spelling = refl; is = (v.kind, refl) },
    (record { value = v.name; spelling = refl; is = is.name }, rest_right v.tagger v.headers is.tagger is.headers),
  ),
)
