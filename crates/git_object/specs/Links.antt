-- Links: the objects that an object names, each with the kind that it must have (own).
use Rattle.std.specs.Prelude.{ℕ, List, [], ◌∷◌, map, Option, None, Some}
use Rattle.std.specs.List.{flat_map}
use Rattle.git_name.specs.declared.kind.Kind.{Kind}
use Rattle.git_name.specs.declared.kind.Kind.TheVariants as kind
use Rattle.git_tree.specs.Mode.{link_kind}
use Rattle.git_tree.specs.Entry.{Entry}
use Rattle.git_object.specs.declared.link.Link.{Link}
use Rattle.git_object.specs.Object.{ObjectValue, BlobValue, TreeOf, CommitOf, TagOf}

abbrev pub link_to : List ℕ → Kind → Link
link_to name k = record { name = name; kind = k }

-- a link, if a kind is required
abbrev pub link_if : List ℕ → Option Kind → List Link
link_if name None = []
link_if name (Some k) = link_to name k ∷ []

-- an entry of a tree links to its object, and a gitlink to none
abbrev pub entry_links : Entry → List Link
entry_links entry = link_if entry.name (link_kind entry.mode)

abbrev pub commit_link : List ℕ → Link
commit_link name = link_to name kind.Commit

-- the links of an object, in order: a tree's are its entries except gitlinks, a commit's its tree and then its parents, a tag's its
-- object
abbrev pub links_of : ObjectValue → List Link
links_of (BlobValue bytes) = []
links_of (TreeOf entries) = flat_map entry_links entries
links_of (CommitOf commit) = link_to commit.tree kind.Tree ∷ map commit_link commit.parents
links_of (TagOf tag) = link_to tag.object tag.kind ∷ []
