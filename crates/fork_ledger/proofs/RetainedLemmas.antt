-- What is left when a tenant keeps only what some names reach, in words and in objects.
use Rattle.std.proofs.Common.{◌≡◌, ◌⊎◌, inl, inr, ℕ, Bool, true, false, List, Result, Ok, Err, refl, ap, ◌∙◌}
use Rattle.std.specs.Prelude.{IfOk, IsTrue, OnErr}
use Rattle.fork_reach.specs.Reach.{Root}
use Rattle.loose_store.specs.Files.{Files}
use Rattle.number_links.specs.declared.along.Along.TheVariants.{Links}
use Rattle.object_table.specs.Ledgers.{AllWords, at_ledger}
use Rattle.object_table.specs.Holders.{HoldingsState}
use Rattle.object_table.specs.Links.{NamedLinks}
use Rattle.object_table.specs.Rows.{places_of}
use Rattle.object_table.specs.Walked.{IsRetained}
use Rattle.object_table.specs.Words.{kept_words}
use Rattle.read_cache.specs.Stores.{StoreState}
use Rattle.fork_ledger.specs.Led.{AreLed}
use Rattle.fork_ledger.specs.Private.{with_kept}
use Rattle.fork_ledger.specs.Retained.{Retains}
use Rattle.fork_ledger.specs.Shown.{tenants_of}
use Rattle.fork_ledger.specs.Store.{IsStored}
use Rattle.fork_ledger.specs.Tenants.{VaultState, at_tenant}
use Rattle.fork_ledger.proofs.BetweenLemmas.{reached_is, same_keys}
use Rattle.fork_ledger.proofs.OwnLemmas.{kept_own}
use Rattle.fork_ledger.proofs.ShownLemmas.{changed_shown}

-- it was done, or nothing changed
pub done_or_same : {E : Type 0} (r : Result Bool E) (P Q : Type 0) → IfOk r (λ done. done ≡ true → P) → IfOk r (λ done. done ≡ false → Q) → OnErr r Q → P ⊎ Q
done_or_same (Ok true) P Q done same err = inl (done refl)
done_or_same (Ok false) P Q done same err = inr (same refl)
done_or_same (Err e) P Q done same err = inr err

-- what is more holds where a call failed
pub err_too : {A E : Type 0} (r : Result A E) (P Q : Type 0) → (P → Q) → OnErr r P → OnErr r Q
err_too (Ok a) P Q more is = is
err_too (Err e) P Q more is = more is

-- private maps of words of which one tenant's were kept
pub kept_shown : (files : Files) (m now : AllWords) (t : List ℕ) (names : List ℕ → Bool) → now ≡ at_ledger m t (kept_words names) → tenants_of files now ≡ at_tenant (tenants_of files m) t (with_kept names)
kept_shown files m now t names is = ap (tenants_of files) is ∙ changed_shown files m t (kept_words names) (with_kept names) (kept_own names files)

pub retained_shown : (honest : Bool) (files : Files) (m now : AllWords) (t : List ℕ) (links : NamedLinks) (roots : List (List ℕ)) → (IsTrue honest → IsStored (tenants_of files m) files) → (IsTrue honest → AreLed links files)
    → IsRetained links t roots m now → Retains honest t roots (tenants_of files m) (tenants_of files now)
retained_shown honest files m now t links roots stored led is = record {
  reached = is.reached;
  tenants = kept_shown files m now t is.reached is.ledgers;
  rooted = λ name among there. is.all name (Root name among (same_keys files m t name ∙ there));
  all = λ h name. reached_is files m t links Links (stored h) (led h) roots is.known name (is.reached name) (is.only name) (is.all name);
}

-- ---- what a vault shows stays if its ledgers and places do
abbrev pub vault_of : StoreState → HoldingsState → VaultState
vault_of store holdings = record {
  tenants = tenants_of store.contents holdings.ledgers;
  files = store.contents;
  honest = store.honest;
  failures = store.failures;
  durability = store.durability;
  places = places_of holdings.catalogue;
}

pub same_vault : (store : StoreState) (old new : HoldingsState) → new.ledgers ≡ old.ledgers → places_of new.catalogue ≡ places_of old.catalogue → vault_of store new ≡ vault_of store old
same_vault store old new ledgers places = λ i. record {
  tenants = tenants_of store.contents (ledgers i);
  files = store.contents;
  honest = store.honest;
  failures = store.failures;
  durability = store.durability;
  places = places i;
}
