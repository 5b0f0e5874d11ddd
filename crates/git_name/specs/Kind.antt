-- The kinds of objects and their words, as git-cat-file(1) prints them.
use Rattle.std.specs.Prelude.{ℕ, List, Option, None, Some, codes, if◌then◌else◌}
use Rattle.std.specs.Str.{bytes_eq}
use Rattle.git_name.specs.declared.kind.Kind.{Kind}
use Rattle.git_name.specs.declared.kind.Kind.TheVariants.{Blob, Tree, Commit, Tag}

-- the word for a kind
abbrev pub type_word : Kind → List ℕ
type_word Blob = codes "blob"
type_word Tree = codes "tree"
type_word Commit = codes "commit"
type_word Tag = codes "tag"

-- the kind that a word names
abbrev pub kind_of_word : List ℕ → Option Kind
kind_of_word word =
    if bytes_eq word (codes "blob") then Some Blob
    else if bytes_eq word (codes "tree") then Some Tree
    else if bytes_eq word (codes "commit") then Some Commit
    else if bytes_eq word (codes "tag") then Some Tag
    else None
