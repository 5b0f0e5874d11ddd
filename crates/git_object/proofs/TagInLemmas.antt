-- The tests find the tag that bytes are, and nothing else.
use Rattle.std.proofs.Common.{Bool, cond, ◌&&◌, ◌≡◌, ℕ, List, [], ◌∷◌, ◌++◌, get_or, drop, refl, sym, ap, subst, ◌∙◌, Option, Some, None, Result, Ok, Err}
use Rattle.std.specs.Prelude.{IfOk, IfErr}
use Rattle.std.specs.Bool.{Decides}
use Rattle.std.specs.List.{AllByRecursion, flat_map}
use Rattle.std.specs.Option.{option_map}
use Rattle.std.specs.Result.{result_ok}
use Rattle.std.specs.Str.{bytes_eq}
use Rattle.std.proofs.lemmas.Bool.Decides.{Decides-and, Decides-not}
use Rattle.std.proofs.lemmas.Slice.Eq.{bytes_eq-Decides}
use Rattle.hex.specs.Hex.{encode_lower}
use Rattle.git_name.specs.Kind.{type_word}
use Rattle.git_name.specs.Name.{name_in}
use Rattle.git_name.specs.declared.kind.Kind.{Kind}
use Rattle.git_name.specs.declared.kind.Kind.TheVariants as kind
use Rattle.git_header.specs.Header.{HeaderValue, IsHeader, header_lines}
use Rattle.git_header.specs.Ident.{IdentValue}
use Rattle.git_header.specs.IdentIn.{ident_in}
use Rattle.git_header.specs.Parting.{header_part, message_part}
use Rattle.git_header.specs.Row.{name_or_none, Gathered, gather}
use Rattle.git_header.specs.Tests.{is_header}
use Rattle.git_header.proofs.FoundLemmas.{name_again, ident_again, chosen, chosen_is, none_of}
use Rattle.git_header.proofs.PartingLemmas.{header_found, message_found}
use Rattle.git_header.proofs.RowLemmas.{gather_headers}
use Rattle.git_header.proofs.TestLemmas.{all_decides, name_decides, plain_decides, ident_decides, header_decides}
use Rattle.git_object.specs.declared.fault.TagFault.{TagFault}
use Rattle.git_object.specs.Fault.{AtObject, tag_grammar, IsTagFault}
use Rattle.git_object.specs.Tag.{TagValue, IsTagName, IsTagger, IsTagValue, IsTag, tagger_lines, tag_lines, spelled_tag}
use Rattle.git_object.specs.TagIn.{is_tag_name, is_right_tagger, is_tag, kind_or_tag, tagger_in, behind_tagger, tag_from, tag_in}
use Rattle.git_object.proofs.TagLemmas.{sound_tag, no_tagger, header_no_tagger, last_of, tag_right}
use Rattle.git_object.proofs.WholeLemmas.{kind_back, no_tag}

-- ---- the parts of a valid text

-- the tagger, or the line in its place
tagger_again : (t : Option IdentValue) (hs : List HeaderValue) → IsTagger t → AllByRecursion (IsHeader kind.Tag) hs → tagger_in (get_or (tagger_lines t ++ flat_map header_lines hs) 0 []) ≡ t
tagger_again None [] is are = refl
tagger_again None (h ∷ hs) is are =
    let line = h.key ++ 32 ∷ h.value in
    ap (λ (b : Bool). cond b (Some (ident_in (drop 7 line))) None) (no_tagger line (header_no_tagger line (record { key = h.key; value = h.value; key_is = are.0.key; value_is = are.0.value; spelling = refl })))
tagger_again (Some ident) hs is are = ap (λ (i : IdentValue). Some i) (ident_again ident is)

behind_again : (t : Option IdentValue) (lines : List (List ℕ)) → behind_tagger t (tagger_lines t ++ lines) ≡ lines
behind_again None lines = refl
behind_again (Some ident) lines = refl

abbrev whole : List ℕ → Kind → List ℕ → Option IdentValue → List HeaderValue → Option (List ℕ) → TagValue
whole object k name tagger headers message = record { object = object; kind = k; name = name; tagger = tagger; headers = headers; message = message }

-- a valid tag is found in its lines
tag_again : (v : TagValue) → IsTagValue v → tag_from (tag_lines v) v.message ≡ v
tag_again v is =
    let rest = tagger_lines v.tagger ++ flat_map header_lines v.headers in
    ap (λ (t : Option IdentValue). whole (name_or_none (name_in (encode_lower v.object))) (kind_or_tag (type_word v.kind)) v.name t (gather (behind_tagger t rest)).headers v.message) (tagger_again v.tagger v.headers is.tagger is.headers)
    ∙ ap (λ (ls : List (List ℕ)). whole (name_or_none (name_in (encode_lower v.object))) (kind_or_tag (type_word v.kind)) v.name v.tagger (gather ls).headers v.message) (behind_again v.tagger (flat_map header_lines v.headers))
    ∙ ap (λ (g : Gathered). whole (name_or_none (name_in (encode_lower v.object))) (kind_or_tag (type_word v.kind)) v.name v.tagger g.headers v.message) (gather_headers kind.Tag v.headers is.headers)
    ∙ ap (λ x. whole x (kind_or_tag (type_word v.kind)) v.name v.tagger v.headers v.message) (name_again v.object is.object)
    ∙ ap (λ x. whole v.object x v.name v.tagger v.headers v.message) (kind_back v.kind)

-- ---- the tests

name_test_decides : (name : List ℕ) → Decides (is_tag_name name) (IsTagName name)
name_test_decides name =
    let parts = Decides-and _ _ (Decides-not (bytes_eq name []) (bytes_eq-Decides name [])) (plain_decides name) in (
      λ test. let p = parts.0 test in record { some = p.0; plain = p.1 },
      λ is. parts.1 (is.some, is.plain),
    )

tagger_decides : (t : Option IdentValue) → Decides (is_right_tagger t) (IsTagger t)
tagger_decides None = (λ test. tt, λ is. refl)
tagger_decides (Some ident) = ident_decides ident

value_decides : (v : TagValue) → Decides (is_tag v) (IsTagValue v)
value_decides v =
    let names = Decides-and _ _ (Decides-and _ _ (name_decides v.object) (name_test_decides v.name)) (tagger_decides v.tagger) in
    let parts = Decides-and _ _ names (all_decides (is_header kind.Tag) (IsHeader kind.Tag) (header_decides kind.Tag) v.headers) in (
      λ test. let p = parts.0 test in record { object = p.0.0.0; name = p.0.0.1; tagger = p.0.1; headers = p.1 },
      λ is. parts.1 (((is.object, is.name), is.tagger), is.headers),
    )

tag_decides : (v : TagValue) (bytes : List ℕ) → Decides (is_tag v && bytes_eq (spelled_tag v) bytes) (IsTag v bytes)
tag_decides v bytes =
    let parts = Decides-and _ _ (value_decides v) (bytes_eq-Decides (spelled_tag v) bytes) in (
      λ test. let p = parts.0 test in record { right = p.0; spelling = sym p.1 },
      λ is. parts.1 (is.right, sym is.spelling),
    )

found_in : (v : TagValue) (bytes : List ℕ) → IsTag v bytes → tag_from (header_part bytes) (message_part bytes) ≡ v
found_in v bytes is =
    let right = tag_right v is.right in
    ap (λ (b : List ℕ). tag_from (header_part b) (message_part b)) is.spelling
    ∙ ap (λ (ls : List (List ℕ)). tag_from ls (message_part (spelled_tag v))) (header_found tag_grammar sound_tag AtObject (last_of v.tagger v.headers) (tag_lines v) v.message right)
    ∙ ap (λ (m : Option (List ℕ)). tag_from (tag_lines v) m) (message_found tag_grammar sound_tag AtObject (last_of v.tagger v.headers) (tag_lines v) v.message right)
    ∙ tag_again v is.right

-- the tests find the tag that bytes are
pub tag_in_is : (bytes : List ℕ) (v : TagValue) → IsTag v bytes → tag_in bytes ≡ Some v
unfolding tag_in
tag_in_is bytes v is =
    let found = tag_from (header_part bytes) (message_part bytes) in
    let same = found_in v bytes is in
    chosen (is_tag found && bytes_eq (spelled_tag found) bytes) found ((tag_decides found bytes).1 (subst (λ (t : TagValue). IsTag t bytes) (sym same) is)) ∙ ap Some same

-- and nothing else
pub is_tag_in : (bytes : List ℕ) (v : TagValue) → tag_in bytes ≡ Some v → IsTag v bytes
unfolding tag_in
is_tag_in bytes v h =
    let found = tag_from (header_part bytes) (message_part bytes) in
    let is = chosen_is (is_tag found && bytes_eq (spelled_tag found) bytes) found v h in
    subst (λ (t : TagValue). IsTag t bytes) is.1 ((tag_decides found bytes).0 is.0)

pub no_tag_in : (bytes : List ℕ) → ((v : TagValue) → IsTag v bytes → ⊥) → tag_in bytes ≡ None
no_tag_in bytes never = none_of (tag_in bytes) (λ v h. never v (is_tag_in bytes v h))

-- what is read is what the tests find
pub read_value : {T : Type 0} (view : T → TagValue) (bytes : List ℕ) (r : Result T TagFault) → IfOk r (λ t. IsTag (view t) bytes) → IfErr r (λ why. IsTagFault why bytes) → option_map view (result_ok r) ≡ tag_in bytes
read_value view bytes (Ok t) found exact = sym (tag_in_is bytes (view t) found)
read_value view bytes (Err why) found exact = sym (no_tag_in bytes (λ v is. no_tag why bytes v is exact))
