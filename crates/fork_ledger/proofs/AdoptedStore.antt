-- What stands on the store of what a tenant adopts.
use Rattle.std.proofs.Common.{◌≡◌, ◌⊎◌, inl, inr, ℕ, List, Bool, true, false, ◌&&◌, Option, Some, None, refl, sym, ap, ◌∙◌}
use Rattle.std.specs.Option.{option_map_or}
use Rattle.std.specs.FinMap.{get, retain_keys}
use Rattle.git_name.specs.Object.{Object}
use Rattle.git_name.proofs.MapLemmas.{get_joined}
use Rattle.git_name.proofs.Names.{name_total}
use Rattle.fork_reach.specs.Source.{Objects}
use Rattle.object_table.specs.Adopted.{AllAlike, Fits, offered_words}
use Rattle.object_table.specs.Ledgers.{AllWords, ledger_at}
use Rattle.object_table.specs.Words.{is_visible, kept_as, seen_word}
use Rattle.object_table.specs.declared.word.Word.{Word}
use Rattle.object_table.proofs.AdoptLemmas.{offer, offered_at}
use Rattle.loose_store.specs.Files.{Files}
use Rattle.loose_store.specs.Stored.{Whole}
use Rattle.fork_ledger.specs.Private.{Awaits, Holds, Private, Sees, both_of, with_adopted}
use Rattle.fork_ledger.specs.Store.{HoldOne, IsStored}
use Rattle.fork_ledger.specs.Tenants.{Tenants, at_tenant, private_of}
use Rattle.fork_ledger.proofs.SeenLemmas.{get_kept}
use Rattle.fork_ledger.proofs.StoreLemmas.{one_whole}
use Rattle.fork_ledger.proofs.StoredLemmas.{either_side, holds_at, kept_was}

-- what tenants hold under one name is one object
pub hold_one : (tenants : Tenants) (files : Files) → IsStored tenants files → HoldOne tenants
hold_one tenants files stored first second name object other here there = one_whole files name other object (stored second name other there) (stored first name object here)

-- ---- what is adopted stands whole
brings_adopted : (objects : Objects) (own : Private) (name : List ℕ) (object : Object) → Holds (with_adopted objects own) name object → Holds own name object ⊎ (get objects name ≡ Some object)
brings_adopted objects own name object (Sees is) = by (either_side (get own.visible name) (get objects name) object (sym (get_joined name_total own.visible objects name) ∙ is))
  where
    by : (get own.visible name ≡ Some object) ⊎ (get objects name ≡ Some object) → Holds own name object ⊎ (get objects name ≡ Some object)
    by (inl seen) = inl (Sees seen)
    by (inr comes) = inr comes
brings_adopted objects own name object (Awaits is) = inl (Awaits is)

pub stored_adopted : (tenants : Tenants) (to from : List ℕ) (files : Files) (names : List ℕ → Bool) → IsStored tenants files → IsStored (at_tenant tenants to (with_adopted (retain_keys (private_of tenants from).visible names))) files
stored_adopted tenants to from files names stored = λ tenant name object holds. holds_at tenants to (with_adopted (retain_keys (private_of tenants from).visible names)) tenant name object (Whole files name object) holds
    (λ same now. at name object (brings_adopted (retain_keys (private_of tenants from).visible names) (private_of tenants to) name object now))
    (λ before. stored tenant name object before)
  where
    at : (name : List ℕ) (object : Object) → Holds (private_of tenants to) name object ⊎ (get (retain_keys (private_of tenants from).visible names) name ≡ Some object) → Whole files name object
    at name object (inl held) = stored to name object held
    at name object (inr comes) = stored from name object (Sees (kept_was (names name) (get (private_of tenants from).visible name) object (sym (get_kept (private_of tenants from).visible names name) ∙ comes)))

-- ---- what comes fits
pub held_both : (own : Private) (name : List ℕ) (object : Object) → get (both_of own) name ≡ Some object → Holds own name object
held_both own name object is = by (either_side (get own.visible name) (get own.staged name) object (sym (get_joined name_total own.visible own.staged name) ∙ is))
  where
    by : (get own.visible name ≡ Some object) ⊎ (get own.staged name ≡ Some object) → Holds own name object
    by (inl seen) = Sees seen
    by (inr waits) = Awaits waits

-- the word that is shown, where it is offered
offered_word : (comes : Bool) (shown : Option Word) (word : Word) → offer comes shown ≡ Some word → (own : Word) × (shown ≡ Some own) × (seen_word own ≡ word)
offered_word comes None word is = (let bad : ⊥ = cc in absurd bad)
offered_word comes (Some shown) word is = by (comes && is_visible shown) is
  where
    by : (b : Bool) → kept_as b (seen_word shown) ≡ Some word → (own : Word) × (Some shown ≡ Some own) × (seen_word own ≡ word)
    by true is = (shown, refl, ap (λ o. option_map_or (λ (w : Word). w) o word) is)
    by false is = (let bad : ⊥ = cc in absurd bad)

-- what one ledger offers fits to what another one says, as words of one name are alike in all
pub alike_fits : (m : AllWords) (to from : List ℕ) (names : List ℕ → Bool) → AllAlike m → Fits (offered_words names (ledger_at m from)) (ledger_at m to)
alike_fits m to from names alike name comes word here there =
    let offered = offered_word (names name) (get (ledger_at m from) name) comes (sym (offered_at names (ledger_at m from) name) ∙ here) in
    let is = alike from to name offered.0 word offered.1 there in
    record { kind = is.kind ∙ ap (λ (w : Word). w.kind) offered.2; length = is.length ∙ ap (λ (w : Word). w.length) offered.2 }
