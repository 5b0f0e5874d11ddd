-- What a fault tells, and what is found on the store.
use Rattle.std.proofs.Common.{◌≡◌, ◌≢◌, ℕ, List, Some, Result, Ok, Err, sym, ap, ◌∙◌}
use Rattle.std.specs.Prelude.{IfErr}
use Rattle.std.specs.Option.{unwrap_or}
use Rattle.git_name.specs.Object.{Object}
use Rattle.git_name.specs.Count.{fault_in}
use Rattle.loose_store.specs.Files.{Files}
use Rattle.loose_store.specs.Stored.{Whole}
use Rattle.loose_store.proofs.TypedLemmas.{one_object}
use Rattle.fork_ledger.specs.declared.fault.VaultFault.{VaultFault}
use Rattle.fork_ledger.specs.declared.fault.VaultFault.TheVariants.{Damaged}

-- a fault that is no damage
pub undamaged_in : {A : Type 0} (r : Result A VaultFault) → IfErr r (λ fault. fault ≢ Damaged) → fault_in r ≢ Some Damaged
undamaged_in (Ok a) is damaged = (let differs : ⊥ = cc in differs)
undamaged_in (Err fault) is damaged = is (some_same damaged)
  where
    some_same : Some fault ≡ Some Damaged → fault ≡ Damaged
    some_same same = ap (λ o. unwrap_or o fault) same

-- objects that stand whole under one name are one
pub one_whole : (files : Files) (name : List ℕ) (x y : Object) → Whole files name x → Whole files name y → x ≡ y
one_whole files name x y first next = one_object x y (some_same (sym first.file ∙ next.file))
  where
    some_same : {a b : List ℕ} → Some a ≡ Some b → a ≡ b
    some_same {a} {b} same = ap (λ o. unwrap_or o a) same
