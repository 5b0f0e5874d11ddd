-- An object that is recalled.
use Rattle.std.proofs.Common.{◌≡◌, ℕ, List, Bool, Result, Ok, Err, length, refl, sym, ap, subst, ◌∙◌}
use Rattle.std.specs.Prelude.{IfErr, IsTrue, OnErr, OnOk}
use Rattle.git_name.specs.Object.{Object, object_name}
use Rattle.git_name.specs.declared.kind.Kind.{Kind}
use Rattle.object_table.specs.Clashes.{AreAs}
use Rattle.object_table.specs.Ledgers.{AllWords, at_ledger}
use Rattle.object_table.specs.Words.{staged_words}
use Rattle.loose_store.specs.Files.{Files}
use Rattle.loose_store.specs.Stored.{Whole}
use Rattle.fork_ledger.specs.AllStaged.{IsAsTold}
use Rattle.fork_ledger.specs.declared.recalling.RecallFault.{RecallFault}
use Rattle.fork_ledger.specs.declared.recalling.RecallFault.TheVariants.{Collision, Memory}
use Rattle.fork_ledger.specs.Surveyed.{IsKnown}
use Rattle.fork_ledger.specs.Private.{with_staged}
use Rattle.fork_ledger.specs.Shown.{tenants_of}
use Rattle.fork_ledger.specs.Store.{Becomes, IsStored, Recalls}
use Rattle.fork_ledger.specs.Tenants.{at_tenant, shape_of}
use Rattle.fork_ledger.proofs.ClashLemmas.{clash_meets}
use Rattle.fork_ledger.proofs.KeepingLemmas.{keeps_same}
use Rattle.fork_ledger.proofs.ShownShapes.{staged_shape}
use Rattle.fork_ledger.proofs.StagedLemmas.{staged_stored, staged_tenants}
use Rattle.fork_ledger.proofs.StoreLemmas.{one_whole}

-- a whole object under its own name
under_own : (files : Files) (name : List ℕ) (object : Object) → object_name object ≡ name → Whole files name object → Whole files (object_name object) object
under_own files name object named whole = subst (λ n. Whole files n object) (sym named) whole

-- the ledger's word is that of the object that is known
known_word : (t name : List ℕ) (files : Files) (m n : AllWords) (honest : Bool) (kind : Kind) (size : ℕ) → (known : IsKnown honest files name kind size) → n ≡ at_ledger m t (staged_words name kind size)
    → n ≡ at_ledger m t (staged_words (object_name known.object) known.object.kind (length known.object.bytes))
known_word t name files m n honest kind size known is =
    let names = sym known.named in
    let kinds = sym known.same_kind in
    let sizes = sym known.same_size in
    is ∙ (λ i. at_ledger m t (staged_words (names i) (kinds i) (sizes i)))

became_staged : (files : Files) (m n : AllWords) (t : List ℕ) (object : Object) (honest : Bool) → (IsTrue honest → Whole files (object_name object) object) → n ≡ at_ledger m t (staged_words (object_name object) object.kind (length object.bytes))
    → Becomes shape_of honest (at_tenant (tenants_of files m) t (with_staged object)) (tenants_of files n)
became_staged files m n t object honest whole is = record {
  exact = λ h. ap (tenants_of files) is ∙ staged_tenants files files m t object (keeps_same m files files refl) (whole h);
  shape = ap (λ x. shape_of (tenants_of files x)) is ∙ staged_shape files files m t object;
}

pub recalled_tenants : (t name : List ℕ) (files : Files) (m n : AllWords) (honest : Bool) (kind : Kind) (size : ℕ) → IsKnown honest files name kind size → n ≡ at_ledger m t (staged_words name kind size) → Recalls honest t name files (tenants_of files m) (tenants_of files n)
recalled_tenants t name files m n honest kind size known is = record {
  object = known.object;
  named = known.named;
  whole = known.whole;
  becomes = became_staged files m n t known.object honest (λ h. under_own files name known.object known.named (known.whole h)) (known_word t name files m n honest kind size known is);
}

pub recalled_stored : {A E : Type 0} (r : Result A E) (t name : List ℕ) (files : Files) (m n : AllWords) (honest : Bool) (kind : Kind) (size : ℕ) → IsTrue honest → IsKnown honest files name kind size
    → OnOk r (n ≡ at_ledger m t (staged_words name kind size)) → OnErr r (n ≡ m) → IsStored (tenants_of files m) files → IsStored (tenants_of files n) files
recalled_stored (Ok a) t name files m n honest kind size h known is err stored =
    subst (λ x. IsStored (tenants_of files x) files) (sym (known_word t name files m n honest kind size known is))
    (staged_stored files files m t known.object (keeps_same m files files refl) (under_own files name known.object known.named (known.whole h)) stored)
recalled_stored (Err e) t name files m n honest kind size h known is err stored = subst (λ x. IsStored (tenants_of files x) files) (sym err) stored

-- over an honest store what is known is what every ledger says, so only memory can lack
pub recalled_memory : {A : Type 0} (r : Result A RecallFault) (name : List ℕ) (files : Files) (m : AllWords) (honest : Bool) (kind : Kind) (size : ℕ) → IsTrue honest → IsKnown honest files name kind size → IsStored (tenants_of files m) files
    → IfErr r (λ fault. fault ≡ Collision → AreAs m name kind size → ⊥) → IfErr r (λ fault. fault ≡ Memory)
recalled_memory (Ok a) name files m honest kind size h known stored clash = tt
recalled_memory (Err Memory) name files m honest kind size h known stored clash = refl
recalled_memory (Err Collision) name files m honest kind size h known stored clash =
    let object = known.object in
    let told : IsAsTold m object → AreAs m name kind size = λ same. subst (λ s. AreAs m name kind s) known.same_size (subst (λ k. AreAs m name k (length object.bytes)) known.same_kind (subst (λ n. AreAs m n object.kind (length object.bytes)) known.named same)) in
    let meets = clash_meets files m object stored (λ same. clash refl (told same)) in
    absurd (meets.2 (one_whole files (object_name object) meets.0 object meets.1 (under_own files name object known.named (known.whole h))))
