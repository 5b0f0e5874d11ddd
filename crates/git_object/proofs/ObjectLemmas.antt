-- Bytes are at most one object of a kind, and none if they have a fault.
use Rattle.std.proofs.Common.{◌≡◌, ℕ, List, sym, ap, ◌∙◌, Result, Ok, Err}
use Rattle.std.specs.Prelude.{IfOk, IfErr, IsOkAnd}
use Rattle.git_name.specs.declared.kind.Kind.{Kind}
use Rattle.git_tree.specs.Entry.{Entry}
use Rattle.git_tree.specs.Tree.{IsTree}
use Rattle.git_tree.proofs.RowLemmas.{row_is_of}
use Rattle.git_tree.proofs.FaultLemmas as faults
use Rattle.git_commit.specs.Commit.{CommitValue}
use Rattle.git_commit.proofs.CommitLemmas.{no_commit}
use Rattle.git_commit.proofs.WholeLemmas.{one_commit}
use Rattle.git_object.specs.declared.object.ObjectFault.{ObjectFault}
use Rattle.git_object.specs.declared.object.ObjectFault.TheVariants as fault
use Rattle.git_object.specs.Tag.{TagValue}
use Rattle.git_object.specs.Object.{ObjectValue, BlobValue, TreeOf, CommitOf, TagOf, IsObject, IsObjectFault}
use Rattle.git_object.proofs.WholeLemmas.{one_tag, no_tag}

one_tree : (bytes : List ℕ) (row other : List Entry) → IsTree row bytes → IsTree other bytes → row ≡ other
one_tree bytes row other a b = sym (row_is_of bytes row a.are.each a.spelling).0 ∙ (row_is_of bytes other b.are.each b.spelling).0

-- bytes are at most one object of a kind
pub one_object : (k : Kind) (bytes : List ℕ) (v w : ObjectValue) → IsObject v k bytes → IsObject w k bytes → v ≡ w
one_object k bytes (BlobValue a) (BlobValue b) one two = ap (λ (x : List ℕ). BlobValue x) (sym one.1 ∙ two.1)
one_object k bytes (BlobValue a) (TreeOf b) one two = let kinds = sym one.0 ∙ two.0 in let no_such : ⊥ = cc kinds in absurd no_such
one_object k bytes (BlobValue a) (CommitOf b) one two = let kinds = sym one.0 ∙ two.0 in let no_such : ⊥ = cc kinds in absurd no_such
one_object k bytes (BlobValue a) (TagOf b) one two = let kinds = sym one.0 ∙ two.0 in let no_such : ⊥ = cc kinds in absurd no_such
one_object k bytes (TreeOf a) (BlobValue b) one two = let kinds = sym one.0 ∙ two.0 in let no_such : ⊥ = cc kinds in absurd no_such
one_object k bytes (TreeOf a) (TreeOf b) one two = ap (λ (x : List Entry). TreeOf x) (one_tree bytes a b one.1 two.1)
one_object k bytes (TreeOf a) (CommitOf b) one two = let kinds = sym one.0 ∙ two.0 in let no_such : ⊥ = cc kinds in absurd no_such
one_object k bytes (TreeOf a) (TagOf b) one two = let kinds = sym one.0 ∙ two.0 in let no_such : ⊥ = cc kinds in absurd no_such
one_object k bytes (CommitOf a) (BlobValue b) one two = let kinds = sym one.0 ∙ two.0 in let no_such : ⊥ = cc kinds in absurd no_such
one_object k bytes (CommitOf a) (TreeOf b) one two = let kinds = sym one.0 ∙ two.0 in let no_such : ⊥ = cc kinds in absurd no_such
one_object k bytes (CommitOf a) (CommitOf b) one two = ap (λ (x : CommitValue). CommitOf x) (one_commit bytes a b one.1 two.1)
one_object k bytes (CommitOf a) (TagOf b) one two = let kinds = sym one.0 ∙ two.0 in let no_such : ⊥ = cc kinds in absurd no_such
one_object k bytes (TagOf a) (BlobValue b) one two = let kinds = sym one.0 ∙ two.0 in let no_such : ⊥ = cc kinds in absurd no_such
one_object k bytes (TagOf a) (TreeOf b) one two = let kinds = sym one.0 ∙ two.0 in let no_such : ⊥ = cc kinds in absurd no_such
one_object k bytes (TagOf a) (CommitOf b) one two = let kinds = sym one.0 ∙ two.0 in let no_such : ⊥ = cc kinds in absurd no_such
one_object k bytes (TagOf a) (TagOf b) one two = ap (λ (x : TagValue). TagOf x) (one_tag bytes a b one.1 two.1)

-- bytes with a fault are no object of the kind
pub no_object : (why : ObjectFault) (k : Kind) (bytes : List ℕ) (v : ObjectValue) → IsObject v k bytes → IsObjectFault why k bytes → ⊥
no_object (fault.Tree why) k bytes (BlobValue a) is wrong = let kinds = sym is.0 ∙ wrong.0 in let no_such : ⊥ = cc kinds in no_such
no_object (fault.Tree why) k bytes (TreeOf a) is wrong = faults.no_tree why bytes a is.1 wrong.1
no_object (fault.Tree why) k bytes (CommitOf a) is wrong = let kinds = sym is.0 ∙ wrong.0 in let no_such : ⊥ = cc kinds in no_such
no_object (fault.Tree why) k bytes (TagOf a) is wrong = let kinds = sym is.0 ∙ wrong.0 in let no_such : ⊥ = cc kinds in no_such
no_object (fault.Commit why) k bytes (BlobValue a) is wrong = let kinds = sym is.0 ∙ wrong.0 in let no_such : ⊥ = cc kinds in no_such
no_object (fault.Commit why) k bytes (TreeOf a) is wrong = let kinds = sym is.0 ∙ wrong.0 in let no_such : ⊥ = cc kinds in no_such
no_object (fault.Commit why) k bytes (CommitOf a) is wrong = no_commit why bytes a is.1 wrong.1
no_object (fault.Commit why) k bytes (TagOf a) is wrong = let kinds = sym is.0 ∙ wrong.0 in let no_such : ⊥ = cc kinds in no_such
no_object (fault.Tag why) k bytes (BlobValue a) is wrong = let kinds = sym is.0 ∙ wrong.0 in let no_such : ⊥ = cc kinds in no_such
no_object (fault.Tag why) k bytes (TreeOf a) is wrong = let kinds = sym is.0 ∙ wrong.0 in let no_such : ⊥ = cc kinds in no_such
no_object (fault.Tag why) k bytes (CommitOf a) is wrong = let kinds = sym is.0 ∙ wrong.0 in let no_such : ⊥ = cc kinds in no_such
no_object (fault.Tag why) k bytes (TagOf a) is wrong = no_tag why bytes a is.1 wrong.1

-- what is an object of the kind is read as this object
pub only_object : {O : Type 0} (view : O → ObjectValue) (k : Kind) (bytes : List ℕ) (r : Result O ObjectFault) (value : ObjectValue) → IfOk r (λ o. IsObject (view o) k bytes) → IfErr r (λ why. IsObjectFault why k bytes) → IsObject value k bytes → IsOkAnd r (λ o. view o ≡ value)
only_object view k bytes (Ok o) value found exact is = one_object k bytes (view o) value found is
only_object view k bytes (Err why) value found exact is = absurd (no_object why k bytes value is exact)
