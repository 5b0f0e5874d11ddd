-- The tests find the object of a kind that bytes are, and nothing else.
use Rattle.std.proofs.Common.{◌≡◌, ℕ, List, refl, sym, ap, subst, ◌∙◌, Option, Some, None, Result, Ok, Err}
use Rattle.std.specs.Prelude.{IfOk, IfErr}
use Rattle.std.specs.Option.{option_map}
use Rattle.std.specs.Result.{result_ok}
use Rattle.git_name.specs.declared.kind.Kind.{Kind}
use Rattle.git_name.specs.declared.kind.Kind.TheVariants as kind
use Rattle.git_tree.proofs.TestLemmas.{tree_in_is, is_tree_in}
use Rattle.git_commit.proofs.CommitInLemmas.{commit_in_is, is_commit_in}
use Rattle.git_header.proofs.FoundLemmas.{none_of}
use Rattle.git_object.specs.declared.object.ObjectFault.{ObjectFault}
use Rattle.git_object.specs.Object.{ObjectValue, BlobValue, TreeOf, CommitOf, TagOf, IsObject, IsObjectFault}
use Rattle.git_object.specs.ObjectIn.{object_in, links_or_none, links_in}
use Rattle.git_object.proofs.ObjectLemmas.{no_object}
use Rattle.git_object.proofs.TagInLemmas.{tag_in_is, is_tag_in}

-- the tests find the object that bytes are
pub object_in_is : (k : Kind) (bytes : List ℕ) (v : ObjectValue) → IsObject v k bytes → object_in k bytes ≡ Some v
unfolding object_in
object_in_is k bytes (BlobValue content) is = ap (λ (x : Kind). object_in x bytes) is.0 ∙ ap (λ (x : List ℕ). Some (BlobValue x)) is.1
object_in_is k bytes (TreeOf entries) is = ap (λ (x : Kind). object_in x bytes) is.0 ∙ ap (option_map (λ x. TreeOf x)) (tree_in_is bytes entries is.1)
object_in_is k bytes (CommitOf commit) is = ap (λ (x : Kind). object_in x bytes) is.0 ∙ ap (option_map (λ x. CommitOf x)) (commit_in_is bytes commit is.1)
object_in_is k bytes (TagOf tag) is = ap (λ (x : Kind). object_in x bytes) is.0 ∙ ap (option_map (λ x. TagOf x)) (tag_in_is bytes tag is.1)

mapped : {X Y : Type 0} (f : X → Y) (o : Option X) (y : Y) → option_map f o ≡ Some y → (x : X) × (o ≡ Some x) × (f x ≡ y)
mapped f None y h = absurd cc
mapped f (Some x) y h = (x, refl, cc)

-- and nothing else
pub is_object_in : (k : Kind) (bytes : List ℕ) (v : ObjectValue) → object_in k bytes ≡ Some v → IsObject v k bytes
unfolding object_in
is_object_in kind.Blob bytes v h = subst (λ (x : ObjectValue). IsObject x kind.Blob bytes) (same v h) (refl, refl)
  where
    same : (v : ObjectValue) → Some (BlobValue bytes) ≡ Some v → BlobValue bytes ≡ v
    same v h = cc
is_object_in kind.Tree bytes v h =
    let found = mapped (λ x. TreeOf x) _ v h in
    subst (λ (x : ObjectValue). IsObject x kind.Tree bytes) found.2 (refl, is_tree_in bytes found.0 found.1)
is_object_in kind.Commit bytes v h =
    let found = mapped (λ x. CommitOf x) _ v h in
    subst (λ (x : ObjectValue). IsObject x kind.Commit bytes) found.2 (refl, is_commit_in bytes found.0 found.1)
is_object_in kind.Tag bytes v h =
    let found = mapped (λ x. TagOf x) _ v h in
    subst (λ (x : ObjectValue). IsObject x kind.Tag bytes) found.2 (refl, is_tag_in bytes found.0 found.1)

pub no_object_in : (k : Kind) (bytes : List ℕ) → ((v : ObjectValue) → IsObject v k bytes → ⊥) → object_in k bytes ≡ None
no_object_in k bytes never = none_of (object_in k bytes) (λ v h. never v (is_object_in k bytes v h))

-- what is read is what the tests find
pub read_value : {O : Type 0} (view : O → ObjectValue) (k : Kind) (bytes : List ℕ) (r : Result O ObjectFault) → IfOk r (λ o. IsObject (view o) k bytes) → IfErr r (λ why. IsObjectFault why k bytes) → option_map view (result_ok r) ≡ object_in k bytes
read_value view k bytes (Ok o) found exact = sym (object_in_is k bytes (view o) found)
read_value view k bytes (Err why) found exact = sym (no_object_in k bytes (λ v is. no_object why k bytes v is exact))

-- and its links are those that models speak of
pub read_links : {O : Type 0} (view : O → ObjectValue) (k : Kind) (bytes : List ℕ) (r : Result O ObjectFault) → IfOk r (λ o. IsObject (view o) k bytes) → IfErr r (λ why. IsObjectFault why k bytes) → links_or_none (option_map view (result_ok r)) ≡ links_in k bytes
unfolding links_in
read_links view k bytes r found exact = ap links_or_none (read_value view k bytes r found exact)
