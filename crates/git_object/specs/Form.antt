-- The value of an object that is borrowed from its bytes, by its form.
use Rattle.git_commit.specs.Whole.{commit_of}
use Rattle.git_object.specs.declared.object.Form.{Form}
use Rattle.git_object.specs.declared.object.Form.TheVariants as form
use Rattle.git_object.specs.Object.{ObjectValue, BlobValue, TreeOf, CommitOf, TagOf}
use Rattle.git_object.specs.Whole.{tag_of}

abbrev pub value_of : Form → ObjectValue
value_of (form.Blob bytes) = BlobValue bytes.now
value_of (form.Tree entries) = TreeOf entries
value_of (form.Commit commit) = CommitOf (commit_of commit)
value_of (form.Tag tag) = TagOf (tag_of tag)
