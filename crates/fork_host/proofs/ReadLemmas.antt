-- What a source reports of a read of the vault.
use Rattle.std.proofs.Common.{◌≡◌, ◌≢◌, ℕ, Option, Some, Result, Ok, Err, refl, sym, subst, ap, ◌∙◌}
use Rattle.std.specs.Prelude.{IfErr, IfOk}
use Rattle.std.specs.Result.{IsOk, is_ok}
use Rattle.git_name.specs.Object.{Object}
use Rattle.git_name.specs.Count.{fault_in}
use Rattle.fork_reach.specs.declared.source.SourceFault.{SourceFault}
use Rattle.fork_reach.specs.declared.source.SourceFault.TheVariants.{Damaged}
use Rattle.fork_reach.specs.Faults.{CountsFault}
use Rattle.fork_ledger.specs.declared.fault.VaultFault.{VaultFault}
use Rattle.fork_ledger.specs.declared.fault.VaultFault.TheVariants as vault
use Rattle.fork_ledger.specs.Store as ledger
use Rattle.fork_host.specs.Rows.{read_told}

-- what holds of what was found holds of what is reported
pub if_told : (P Q : Option Object → Type 0) → ((found : Option Object) → P found → Q found) → (r : Result (Option Object) VaultFault) (t : Result (Option Object) SourceFault) → t ≡ read_told r → IfOk r P → IfOk t Q
if_told P Q weaker (Ok found) t is holds = subst (λ t'. IfOk t' Q) (sym is) (weaker found holds)
if_told P Q weaker (Err fault) t is holds = subst (λ t'. IfOk t' Q) (sym is) tt

counts : {A : Type 0} (r : Result A VaultFault) (before now : ℕ) → ledger.CountsFault before now (fault_in r) → CountsFault before now (fault_in (read_told r))
counts (Ok found) before now is = is
counts (Err vault.Store) before now is = is
counts (Err vault.Damaged) before now is = is
counts (Err vault.Memory) before now is = is
counts (Err vault.Collision) before now is = is

-- a failure is counted the same
pub told_counts : {A : Type 0} (r : Result A VaultFault) (t : Result A SourceFault) (before now : ℕ) → t ≡ read_told r → ledger.CountsFault before now (fault_in r) → CountsFault before now (fault_in t)
told_counts {A = A} r t before now is counted = subst (λ (t' : Result A SourceFault). CountsFault before now (fault_in t')) (sym is) (counts r before now counted)

undamaged : {A : Type 0} (r : Result A VaultFault) → IfErr r (λ fault. fault ≢ vault.Collision) → fault_in r ≢ Some vault.Damaged → fault_in (read_told r) ≢ Some Damaged
undamaged (Ok found) apart whole damaged = (let differs : ⊥ = cc in differs)
undamaged (Err vault.Store) apart whole damaged = (let differs : ⊥ = cc in differs)
undamaged (Err vault.Damaged) apart whole damaged = whole refl
undamaged (Err vault.Memory) apart whole damaged = (let differs : ⊥ = cc in differs)
undamaged (Err vault.Collision) apart whole damaged = apart refl

-- a read without damage reports no damage
pub told_undamaged : {A : Type 0} (r : Result A VaultFault) (t : Result A SourceFault) → t ≡ read_told r → IfErr r (λ fault. fault ≢ vault.Collision) → fault_in r ≢ Some vault.Damaged → fault_in t ≢ Some Damaged
told_undamaged {A = A} r t is apart whole damaged = undamaged r apart whole (ap (λ (t' : Result A SourceFault). fault_in t') (sym is) ∙ damaged)
