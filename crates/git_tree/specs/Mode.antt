-- The modes of a tree's entries, with their digits (git-mktree(1), git-ls-tree(1)).
use Rattle.std.specs.Prelude.{ℕ, Bool, true, false, List, Option, None, Some, codes}
use Rattle.git_name.specs.declared.kind.Kind.{Kind}
use Rattle.git_name.specs.declared.kind.Kind.TheVariants as kind
use Rattle.git_tree.specs.declared.mode.Mode.{Mode}
use Rattle.git_tree.specs.declared.mode.Mode.TheVariants.{Tree, File, Executable, Link, Gitlink}

-- the digits of a mode
abbrev pub digits : Mode → List ℕ
digits Tree = codes "40000"
digits File = codes "100644"
digits Executable = codes "100755"
digits Link = codes "120000"
digits Gitlink = codes "160000"

-- whether the entry is a tree
abbrev pub is_tree : Mode → Bool
is_tree Tree = true
is_tree File = false
is_tree Executable = false
is_tree Link = false
is_tree Gitlink = false

-- the kind of object that the entry must name; a gitlink names a commit of another repository, so none here
abbrev pub link_kind : Mode → Option Kind
link_kind Tree = Some kind.Tree
link_kind File = Some kind.Blob
link_kind Executable = Some kind.Blob
link_kind Link = Some kind.Blob
link_kind Gitlink = None
