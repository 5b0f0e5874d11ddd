-- Which bytes are which object of a kind (own): a blob is any bytes, the others have their grammars.
use Rattle.std.specs.Prelude.{◌≡◌, ℕ, List}
use Rattle.git_name.specs.declared.kind.Kind.{Kind}
use Rattle.git_name.specs.declared.kind.Kind.TheVariants as kind
use Rattle.git_tree.specs.Entry.{Entry}
use Rattle.git_tree.specs.Tree.{IsTree}
use Rattle.git_tree.specs.Fault.{IsTreeFault}
use Rattle.git_commit.specs.Commit.{CommitValue, IsCommit}
use Rattle.git_commit.specs.Fault.{IsCommitFault}
use Rattle.git_object.specs.declared.object.ObjectFault.{ObjectFault}
use Rattle.git_object.specs.declared.object.ObjectFault.TheVariants as fault
use Rattle.git_object.specs.Tag.{TagValue, IsTag}
use Rattle.git_object.specs.Fault.{IsTagFault}

-- an object as a value, without its address in memory
pub data ObjectValue : Type 0 where
  BlobValue : List ℕ → ObjectValue
  TreeOf : List Entry → ObjectValue
  CommitOf : CommitValue → ObjectValue
  TagOf : TagValue → ObjectValue

-- the bytes are this object, of this kind
abbrev pub IsObject : ObjectValue → Kind → List ℕ → Type 0
IsObject (BlobValue content) k bytes = (k ≡ kind.Blob) × (bytes ≡ content)
IsObject (TreeOf entries) k bytes = (k ≡ kind.Tree) × IsTree entries bytes
IsObject (CommitOf commit) k bytes = (k ≡ kind.Commit) × IsCommit commit bytes
IsObject (TagOf tag) k bytes = (k ≡ kind.Tag) × IsTag tag bytes

-- the fault of bytes that are not an object of this kind
abbrev pub IsObjectFault : ObjectFault → Kind → List ℕ → Type 0
IsObjectFault (fault.Tree why) k bytes = (k ≡ kind.Tree) × IsTreeFault why bytes
IsObjectFault (fault.Commit why) k bytes = (k ≡ kind.Commit) × IsCommitFault why bytes
IsObjectFault (fault.Tag why) k bytes = (k ≡ kind.Tag) × IsTagFault why bytes
