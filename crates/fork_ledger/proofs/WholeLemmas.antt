-- What is held stands whole, where all that private maps have does.
use Rattle.std.proofs.Common.{◌≡◌, ◌||◌, ℕ, true, List, Option, None, Some, is_some, refl, ap}
use Rattle.std.specs.FinMap.{get}
use Rattle.git_name.specs.Object.{Object}
use Rattle.object_table.specs.Ledgers.{AllWords}
use Rattle.loose_store.specs.Files.{Files}
use Rattle.loose_store.specs.Stored.{Whole}
use Rattle.fork_ledger.specs.Kept.{HasFiles}
use Rattle.fork_ledger.specs.Private.{Awaits, Holds, Private, Sees, is_held_by}
use Rattle.fork_ledger.specs.Shown.{tenants_of}
use Rattle.fork_ledger.specs.Store.{IsStored}
use Rattle.fork_ledger.specs.Tenants.{Tenants, private_of}
use Rattle.fork_ledger.proofs.TakenLemmas.{held_taken}

held_object : (own : Private) (q : List ℕ) → is_held_by own q ≡ true → (object : Object) × Holds own q object
held_object own q is = by (get own.visible q) refl (get own.staged q) refl is
  where
    by : (o : Option Object) → get own.visible q ≡ o → (p : Option Object) → get own.staged q ≡ p → is_some (get own.visible q) || is_some (get own.staged q) ≡ true → (object : Object) × Holds own q object
    by (Some object) sees p waits either = (object, Sees sees)
    by None sees (Some object) waits either = (object, Awaits waits)
    by None sees None waits either = let bad : ⊥ = cc in absurd bad

pub held_whole : (tenants : Tenants) (files : Files) (q tenant : List ℕ) → IsStored tenants files → is_held_by (private_of tenants tenant) q ≡ true → (object : Object) × Whole files q object
held_whole tenants files q tenant stored is =
    let has = held_object (private_of tenants tenant) q is in
    (has.0, stored tenant q has.0 has.1)

-- so it has a file
pub has_files : (files : Files) (m : AllWords) → IsStored (tenants_of files m) files → HasFiles m files
has_files files m stored = λ q held.
    let taker = held_taken files m q held in
    ap is_some (held_whole (tenants_of files m) files q taker.0 stored taker.1).1.file
