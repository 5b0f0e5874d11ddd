-- The tag that bytes are, found by tests, for models that compute (own). It agrees with `IsTag`, as the law `tests_find_the_tag`
-- states.
use Rattle.std.specs.Prelude.{ℕ, ◌&&◌, not, Bool, true, List, [], drop, codes, Option, None, Some, if◌then◌else◌}
use Rattle.std.specs.List.{list_all}
use Rattle.std.specs.Str.{bytes_eq}
use Rattle.git_name.specs.declared.kind.Kind.{Kind}
use Rattle.git_name.specs.declared.kind.Kind.TheVariants.{Blob, Tree, Commit, Tag}
use Rattle.git_header.specs.Parting.{nth_line, name_behind, header_part, message_part}
use Rattle.git_header.specs.Ident.{IdentValue}
use Rattle.git_header.specs.IdentIn.{ident_in}
use Rattle.git_header.specs.Row.{gather}
use Rattle.git_header.specs.Tests.{is_name, is_plain, is_ident, is_header}
use Rattle.git_object.specs.Fault.{is_tagger}
use Rattle.git_object.specs.Tag.{TagValue, spelled_tag}

-- the test of the name that a tag gives itself
abbrev pub is_tag_name : List ℕ → Bool
is_tag_name name = not (bytes_eq name []) && is_plain name

-- the test of a tagger, if there is one
abbrev pub is_right_tagger : Option IdentValue → Bool
is_right_tagger None = true
is_right_tagger (Some ident) = is_ident ident

-- the test of a tag's parts
abbrev pub is_tag : TagValue → Bool
is_tag tag = is_name tag.object && is_tag_name tag.name && is_right_tagger tag.tagger && list_all (is_header Tag) tag.headers

-- the kind that a word names, or `Tag` if it names none
abbrev pub kind_or_tag : List ℕ → Kind
kind_or_tag word =
    if bytes_eq word (codes "blob") then Blob else
    if bytes_eq word (codes "tree") then Tree else
    if bytes_eq word (codes "commit") then Commit else Tag

-- the tagger in a line, if it has one
abbrev pub tagger_in : List ℕ → Option IdentValue
tagger_in line = if is_tagger line then Some (ident_in (drop 7 line)) else None

-- the lines after that of a tagger, if there is one
abbrev pub behind_tagger : Option IdentValue → List (List ℕ) → List (List ℕ)
behind_tagger None lines = lines
behind_tagger (Some ident) lines = drop 1 lines

-- the tag that lines and a message make, if they make one
abbrev pub tag_from : List (List ℕ) → Option (List ℕ) → TagValue
tag_from lines message =
    let tagger = tagger_in (nth_line 3 lines) in
    record {
      object = name_behind 7 (nth_line 0 lines);
      kind = kind_or_tag (drop 5 (nth_line 1 lines));
      name = drop 4 (nth_line 2 lines);
      tagger = tagger;
      headers = (gather (behind_tagger tagger (drop 3 lines))).headers;
      message = message;
    }

-- the tag that bytes are, if they are one
unfoldable pub tag_in : List ℕ → Option TagValue
tag_in bytes =
    let tag = tag_from (header_part bytes) (message_part bytes) in
    if is_tag tag && bytes_eq (spelled_tag tag) bytes then Some tag else None
