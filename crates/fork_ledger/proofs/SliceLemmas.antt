-- What a vault's slices and rounds leave of its store.
use Rattle.std.proofs.Common.{◌≡◌, ℕ, List, [], ◌∷◌, Bool, true, false, ◌||◌, Option, Some, None, is_some, refl, sym, ap, subst, ◌∙◌}
use Rattle.std.specs.FinMap.{contains_key, get}
use Rattle.git_name.specs.Object.{Object}
use Rattle.git_name.specs.Same.{is_listed}
use Rattle.looks.specs.Places.{Places}
use Rattle.looks.specs.Slices.{SweepsAll}
use Rattle.object_table.specs.Holders.{is_held_in}
use Rattle.object_table.specs.Ledgers.{AllWords}
use Rattle.loose_store.specs.Durability.{Durability}
use Rattle.loose_store.specs.Files.{Files}
use Rattle.fork_ledger.specs.Kept.{IsKept}
use Rattle.fork_ledger.specs.Private.{Awaits, Private, Sees}
use Rattle.fork_ledger.specs.Shown.{tenants_of}
use Rattle.fork_ledger.specs.Store.{IsStored, IsHeldBySome}
use Rattle.fork_ledger.specs.Swept.{AreSwept, IsAccounted}
use Rattle.fork_ledger.specs.Taken.{is_taken}
use Rattle.fork_ledger.specs.Tenants.{Tenants, VaultState, private_of}
use Rattle.fork_ledger.proofs.TakenLemmas.{held_taken, taken_shown}

pub same_bool : (b c : Bool) → (b ≡ true → c ≡ true) → (c ≡ true → b ≡ true) → b ≡ c
same_bool true c f g = sym (f refl)
same_bool false true f g = g refl
same_bool false false f g = refl

-- a name that is held has a file
stored_there : (tenants : Tenants) (files : Files) (name : List ℕ) → IsStored tenants files → IsHeldBySome tenants name → contains_key files name ≡ true
stored_there tenants files name stored taken = by (get own.visible name) (get own.staged name) refl refl taken.1
  where
    own : Private
    own = private_of tenants taken.0

    by : (seen waits : Option Object) → get (private_of tenants taken.0).visible name ≡ seen → get (private_of tenants taken.0).staged name ≡ waits → (is_some seen || is_some waits) ≡ true → contains_key files name ≡ true
    by (Some object) waits is waiting there = ap is_some (stored taken.0 name object (Sees is)).file
    by None (Some object) is waiting there = ap is_some (stored taken.0 name object (Awaits waiting)).file
    by None None is waiting there = absurd (cc)

pub held_there : (files : Files) (m : AllWords) (name : List ℕ) → IsStored (tenants_of files m) files → is_taken (tenants_of files m) name ≡ true → contains_key files name ≡ true
held_there files m name stored held = stored_there (tenants_of files m) files name stored (held_taken files m name (sym (taken_shown files m name) ∙ held))

-- an honest vault's state is accounted for
pub accounted : (files : Files) (m : AllWords) (places : Places) (honest : Bool) (failures : ℕ) (durability : Durability) → IsKept m files places
    → IsAccounted (record { tenants = tenants_of files m; files = files; honest = honest; failures = failures; durability = durability; places = places })
accounted files m places honest failures durability kept = record { stored = λ name held. held_there files m name kept.stored held; catalogued = kept.covers }

-- where each catalogued name is held, the files are of just the names that are held
pub sharp_files : (files : Files) (m : AllWords) (places : Places) → IsKept m files places → ((name : List ℕ) → is_listed places.names name ≡ true → is_held_in m name ≡ true)
    → (name : List ℕ) → contains_key files name ≡ is_taken (tenants_of files m) name
sharp_files files m places kept sharp name = same_bool _ _ (λ there. taken_shown files m name ∙ sharp name (kept.covers name there)) (held_there files m name kept.stored)

-- and nothing else is catalogued
pub exact_files : (files : Files) (m : AllWords) (places : Places) → IsKept m files places → ((name : List ℕ) → is_listed places.names name ≡ true → is_held_in m name ≡ true)
    → (name : List ℕ) → is_listed places.names name ≡ contains_key files name
exact_files files m places kept sharp name = same_bool _ _ (λ listed. held_there files m name kept.stored (taken_shown files m name ∙ sharp name listed)) (kept.covers name)

-- ---- slices with no other call between
pub tenants_kept : (slices : List ℕ) (old new : VaultState) → AreSwept slices old new → new.tenants ≡ old.tenants
tenants_kept [] old new swept = ap (λ (s : VaultState). s.tenants) swept
tenants_kept (most ∷ slices) old new swept = tenants_kept slices swept.0 new swept.2 ∙ swept.1.kept

pub sweeps_of : (slices : List ℕ) (old new : VaultState) → AreSwept slices old new → SweepsAll (is_taken old.tenants) slices old.places new.places
sweeps_of [] old new swept = ap (λ (s : VaultState). s.places) swept
sweeps_of (most ∷ slices) old new swept = (swept.0.places, swept.1.sweeps, subst (λ t. SweepsAll (is_taken t) slices swept.0.places new.places) swept.1.kept (sweeps_of slices swept.0 new swept.2))

pub sharp_state : (state : VaultState) → IsAccounted state → ((name : List ℕ) → is_listed state.places.names name ≡ true → is_taken state.tenants name ≡ true)
    → (name : List ℕ) → contains_key state.files name ≡ is_taken state.tenants name
sharp_state state accounted sharp name = same_bool _ _ (λ there. sharp name (accounted.catalogued name there)) (accounted.stored name)
