-- The handle of one tenant's own part of the vault, as requests use it.
use Rattle.std.specs.Prelude.{◌≡◌, ℕ, List}
use Rattle.std.specs.Borrow.{Bor}
use Rattle.std.specs.FinMap.{FinMap}
use Rattle.git_name.specs.Name.{name_cmp}
use Rattle.looks.specs.Growth.{GrowsAmong}
use Rattle.looks.specs.Places.{Places}
use Rattle.loose_store.specs.Files.{Files}
use Rattle.fork_reach.specs.Objects.{Measures}
use Rattle.fork_reach.specs.Source.{Objects, SourceState}
use Rattle.fork_ledger.specs.Private.{Private}
use Rattle.fork_ledger.specs.Tenants.{Tenants, private_of, shape_of}
use Rattle.fork_model.specs.View.{View}
use Rattle.fork_host.specs.declared.own.Own.{Own}
use Rattle.fork_host.specs.Own.{IsOwn, IsReady, KeepsStaged, both_in, staged_in, visible_in}
use Rattle.fork_host.specs.Shown.{Account, shown}

-- the tenant's private maps; what it sees, what it sees and has staged, and what it has staged
abbrev pub private_by : {S : Type 0} → Own S → Private
private_by own = private_of own.vault.now.tenants own.tenant.now

abbrev pub visible_by : {S : Type 0} → Own S → Objects
visible_by own = visible_in own.vault.now own.tenant.now

abbrev pub both_by : {S : Type 0} → Own S → Objects
both_by own = both_in own.vault.now own.tenant.now

abbrev pub staged_by : {S : Type 0} → Own S → Objects
staged_by own = staged_in own.vault.now own.tenant.now

-- the view of the tenant with this account
abbrev pub shown_by : {S : Type 0} → Account → Own S → View
shown_by account own = shown account own.vault.now own.tenant.now

-- what it relies on that stays over any store: the vault that it borrows, the tenant, the shape of all private maps, and the
-- catalogue
abbrev pub Base : Type 0
Base = (ℕ × Bor (List ℕ)) × FinMap name_cmp (Measures × Measures) × Places

-- and over an honest store: all private maps, and the files of the store
abbrev pub Rest : Type 0
Rest = Tenants × Files

-- its state as a source: the objects that the tenant sees
abbrev pub own_state : {S : Type 0} → Own S → SourceState Base Rest
own_state own = record {
  objects = visible_by own;
  honest = own.vault.now.honest;
  failures = own.vault.now.failures;
  base = ((own.vault.ghost_name, own.tenant), shape_of own.vault.now.tenants, own.vault.now.places);
  rest = (own.vault.now.tenants, own.vault.now.files);
}

-- the tenant's part is ready for a request under this limit
abbrev pub Ready : {S : Type 0} → Own S → ℕ → Type 0
Ready own limit = IsReady own.vault.now own.tenant.now limit

-- it still borrows the same vault, for the same tenant
pub record IsSame {S : Type 0} (old new : Own S) : Type 0 where
  pub vault : new.vault.ghost_name ≡ old.vault.ghost_name
  pub tenant : new.tenant ≡ old.tenant

-- it was used for a request: only the tenant's part of the vault changed, and only names of these were added to the catalogue
pub record Touches {S : Type 0} (names : List (List ℕ)) (old new : Own S) : Type 0 where
  pub same : IsSame old new
  pub own : IsOwn old.tenant.now old.vault.now new.vault.now
  pub grows : GrowsAmong names old.vault.now.places new.vault.now.places

-- and what is staged is as it was
pub record Uses {S : Type 0} (names : List (List ℕ)) (old new : Own S) : Type 0 where
  pub same : IsSame old new
  pub own : IsOwn old.tenant.now old.vault.now new.vault.now
  pub grows : GrowsAmong names old.vault.now.places new.vault.now.places
  pub staged : KeepsStaged old.tenant.now old.vault.now new.vault.now
