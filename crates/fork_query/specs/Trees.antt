-- `ls-tree NAME`: the entries of a tree (git-ls-tree(1), `-z`): MODE SP TYPE SP NAME TAB FILE and a zero byte.
use Rattle.std.specs.Prelude.{ℕ, List, [], ◌∷◌, ◌++◌, Option, None, Some, Result, Ok, Err, codes, if◌then◌else◌}
use Rattle.std.specs.List.{flat_map}
use Rattle.std.specs.FinMap.{contains_key, get}
use Rattle.hex.specs.Hex.{encode_lower}
use Rattle.git_name.specs.declared.kind.Kind.{Kind}
use Rattle.git_name.specs.declared.kind.Kind.TheVariants as kind
use Rattle.git_name.specs.Object.{Object}
use Rattle.git_tree.specs.declared.mode.Mode.{Mode}
use Rattle.git_tree.specs.declared.mode.Mode.TheVariants.{Tree, File, Executable, Link, Gitlink}
use Rattle.git_tree.specs.Entry.{Entry}
use Rattle.git_tree.specs.TreeIn.{tree_in}
use Rattle.git_commit.specs.Commit.{CommitValue}
use Rattle.git_commit.specs.CommitIn.{commit_in}
use Rattle.fork_reach.specs.Source.{Objects}
use Rattle.fork_request.specs.declared.refusal.Refusal.{Refusal}
use Rattle.fork_request.specs.declared.refusal.Refusal.TheVariants.{Missing, NotATree}
use Rattle.fork_query.specs.Peel.{peeled}

-- the mode in six digits
abbrev pub six_digits : Mode → List ℕ
six_digits Tree = codes "040000"
six_digits File = codes "100644"
six_digits Executable = codes "100755"
six_digits Link = codes "120000"
six_digits Gitlink = codes "160000"

-- the type of an entry's object
abbrev pub entry_type : Mode → List ℕ
entry_type Tree = codes "tree"
entry_type File = codes "blob"
entry_type Executable = codes "blob"
entry_type Link = codes "blob"
entry_type Gitlink = codes "commit"

abbrev pub entry_row : Entry → List ℕ
entry_row entry = six_digits entry.mode ++ codes " " ++ entry_type entry.mode ++ codes " " ++ encode_lower entry.name ++ codes "\t" ++ entry.file_name ++ 0 ∷ []

-- the tree of a commit, or else the name itself
abbrev pub tree_or : List ℕ → Option CommitValue → List ℕ
tree_or name None = name
tree_or name (Some commit) = commit.tree

abbrev pub tree_name_in : List ℕ → Kind → List ℕ → List ℕ
tree_name_in name kind.Blob bytes = name
tree_name_in name kind.Tree bytes = name
tree_name_in name kind.Commit bytes = tree_or name (commit_in bytes)
tree_name_in name kind.Tag bytes = name

abbrev pub tree_name_of : List ℕ → Option Object → List ℕ
tree_name_of name None = name
tree_name_of name (Some object) = tree_name_in name object.kind object.bytes

-- the entries of the tree with these bytes; any other object has none
abbrev pub entries_of_kind : Kind → List ℕ → Option (List Entry)
entries_of_kind kind.Blob bytes = None
entries_of_kind kind.Tree bytes = tree_in bytes
entries_of_kind kind.Commit bytes = None
entries_of_kind kind.Tag bytes = None

abbrev pub entries_of_found : Option Object → Option (List Entry)
entries_of_found None = None
entries_of_found (Some object) = entries_of_kind object.kind object.bytes

-- the entries of the tree of this name, or of the tree of the commit of this name
abbrev pub entries_at_end : Objects → Option (List ℕ) → Option (List Entry)
entries_at_end objects None = None
entries_at_end objects (Some end) = entries_of_found (get objects (tree_name_of end (get objects end)))

abbrev pub rows_or : List ℕ → Option (List Entry) → Result (List ℕ) Refusal
rows_or name None = Err (NotATree name)
rows_or name (Some entries) = Ok (flat_map entry_row entries)

unfoldable pub tree_told : Objects → List ℕ → Result (List ℕ) Refusal
tree_told objects name = if contains_key objects name then rows_or name (entries_at_end objects (peeled objects name)) else Err (Missing name)
