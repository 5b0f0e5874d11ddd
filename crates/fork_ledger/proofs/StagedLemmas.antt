-- An object that is staged, over its whole file.
use Rattle.std.proofs.Common.{◌≡◌, ◌≢◌, ℕ, List, true, Result, Ok, Err, length, sym, ap, subst, ◌∙◌}
use Rattle.std.specs.Prelude.{IfErr, OnOk}
use Rattle.git_name.specs.Object.{Object, object_name}
use Rattle.object_table.specs.Holders.{is_held_in}
use Rattle.object_table.specs.Ledgers.{AllWords, at_ledger}
use Rattle.object_table.specs.Words.{staged_words}
use Rattle.loose_store.specs.Files.{Files}
use Rattle.loose_store.specs.Stored.{Whole}
use Rattle.fork_ledger.specs.declared.fault.VaultFault.{VaultFault}
use Rattle.fork_ledger.specs.declared.fault.VaultFault.TheVariants.{Damaged}
use Rattle.fork_ledger.specs.Kept.{KeepsHeld}
use Rattle.fork_ledger.specs.Private.{with_staged}
use Rattle.fork_ledger.specs.Shown.{tenants_of}
use Rattle.fork_ledger.specs.Store.{IsStored}
use Rattle.fork_ledger.specs.Tenants.{at_tenant}
use Rattle.fork_ledger.proofs.KeepingLemmas.{stored_keeps, tenants_keep}
use Rattle.fork_ledger.proofs.OwnLemmas.{staged_whole}
use Rattle.fork_ledger.proofs.ShownLemmas.{changed_shown}
use Rattle.fork_ledger.proofs.StoredLemmas.{never_damaged, stored_staged}
use Rattle.fork_ledger.proofs.TakenLemmas.{held_taken}

-- two facts of one outcome
pub ok_both : {A E : Type 0} (P Q : Type 0) (r : Result A E) → OnOk r P → OnOk r Q → OnOk r (P × Q)
ok_both P Q (Ok a) p q = (p, q)
ok_both P Q (Err e) p q = tt

staged_here : (files : Files) (m : AllWords) (t : List ℕ) (object : Object) → Whole files (object_name object) object
    → tenants_of files (at_ledger m t (staged_words (object_name object) object.kind (length object.bytes))) ≡ at_tenant (tenants_of files m) t (with_staged object)
staged_here files m t object whole = changed_shown files m t (staged_words (object_name object) object.kind (length object.bytes)) (with_staged object) (λ words. staged_whole files words object whole)

-- the private maps afterwards
pub staged_tenants : (old new : Files) (m : AllWords) (t : List ℕ) (object : Object) → KeepsHeld m old new → Whole new (object_name object) object
    → tenants_of new (at_ledger m t (staged_words (object_name object) object.kind (length object.bytes))) ≡ at_tenant (tenants_of old m) t (with_staged object)
staged_tenants old new m t object keeps whole = staged_here new m t object whole ∙ ap (λ tenants. at_tenant tenants t (with_staged object)) (tenants_keep m old new keeps)

-- and what stands on the store of them
pub staged_stored : (old new : Files) (m : AllWords) (t : List ℕ) (object : Object) → KeepsHeld m old new → Whole new (object_name object) object → IsStored (tenants_of old m) old
    → IsStored (tenants_of new (at_ledger m t (staged_words (object_name object) object.kind (length object.bytes)))) new
staged_stored old new m t object keeps whole stored =
    subst (λ tenants. IsStored tenants new) (sym (staged_here new m t object whole)) (stored_staged (tenants_of new m) t new object whole (stored_keeps m old new keeps stored))

-- a name that is held is never damaged on an honest store
pub staged_undamaged : {A : Type 0} (r : Result A VaultFault) (files : Files) (m : AllWords) (name : List ℕ) → IsStored (tenants_of files m) files
    → IfErr r (λ fault. fault ≡ Damaged → (is_held_in m name ≡ true) × ((object : Object) → Whole files name object → ⊥)) → IfErr r (λ fault. fault ≢ Damaged)
staged_undamaged (Ok a) files m name stored damaged = tt
staged_undamaged (Err fault) files m name stored damaged = λ is. let bad = damaged is in never_damaged (tenants_of files m) files name stored (held_taken files m name bad.0) bad.1
