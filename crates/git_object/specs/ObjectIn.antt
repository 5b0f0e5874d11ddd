-- The object of a kind that bytes are, and its links, found by tests, for models that compute (own). It agrees with `IsObject`, as
-- the law `tests_find_the_object` states.
use Rattle.std.specs.Prelude.{ℕ, List, [], Option, None, Some}
use Rattle.std.specs.Option.{option_map}
use Rattle.git_name.specs.declared.kind.Kind.{Kind}
use Rattle.git_name.specs.declared.kind.Kind.TheVariants as kind
use Rattle.git_tree.specs.TreeIn.{tree_in}
use Rattle.git_commit.specs.CommitIn.{commit_in}
use Rattle.git_object.specs.declared.link.Link.{Link}
use Rattle.git_object.specs.Links.{links_of}
use Rattle.git_object.specs.Object.{ObjectValue, BlobValue, TreeOf, CommitOf, TagOf}
use Rattle.git_object.specs.TagIn.{tag_in}

-- the object of the kind that bytes are, if they are one; a blob is any bytes
unfoldable pub object_in : Kind → List ℕ → Option ObjectValue
object_in kind.Blob bytes = Some (BlobValue bytes)
object_in kind.Tree bytes = option_map (λ entries. TreeOf entries) (tree_in bytes)
object_in kind.Commit bytes = option_map (λ commit. CommitOf commit) (commit_in bytes)
object_in kind.Tag bytes = option_map (λ tag. TagOf tag) (tag_in bytes)

-- the links of an object; none if there is no object
abbrev pub links_or_none : Option ObjectValue → List Link
links_or_none None = []
links_or_none (Some object) = links_of object

-- the links of the object of the kind that bytes are, in order
unfoldable pub links_in : Kind → List ℕ → List Link
links_in kind bytes = links_or_none (object_in kind bytes)
