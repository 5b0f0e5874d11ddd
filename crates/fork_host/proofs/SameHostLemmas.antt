-- A host of which nothing changed, but what may be undone of its store.
use Rattle.std.proofs.Common.{◌≡◌, IsTrue, List, ℕ, refl, sym, ap, subst, ◌∙◌}
use Rattle.loose_store.specs.Durability.{Durability}
use Rattle.fork_ledger.specs.Tenants.{VaultState, with_durability}
use Rattle.fork_model.specs.Sound.{IsOrderlyWorld, IsRightWorld}
use Rattle.fork_host.specs.Shown.{Accounts, HostState, IsSameHost, IsWhole, Trusted, state_of, world_of}

-- it shows the same world
pub world_undone : (accounts : Accounts) (durability : Durability) (vault : VaultState) → world_of (state_of accounts (with_durability durability vault)) ≡ world_of (state_of accounts vault)
unfolding world_of
world_undone accounts durability vault = refl

pub same_world : (old new : HostState) → IsSameHost old new → world_of new ≡ world_of old
same_world old new same = ap world_of same ∙ world_undone old.accounts new.vault.durability old.vault

-- and is as trusted
pub same_trust : (old new : HostState) → IsSameHost old new → Trusted old → Trusted new
same_trust old new same trusted = ap (λ (s : HostState). s.vault.honest) same ∙ trusted

-- it is whole
pub whole_undone : (accounts : Accounts) (durability : Durability) (vault : VaultState) → IsWhole (state_of accounts vault) → IsWhole (state_of accounts (with_durability durability vault))
whole_undone accounts durability vault whole = record {
  orderly = subst IsOrderlyWorld (sym (world_undone accounts durability vault)) whole.orderly;
  right = λ trusted. subst IsRightWorld (sym (world_undone accounts durability vault)) (whole.right trusted);
  there = whole.there;
  staged = whole.staged;
}

-- a vault of which nothing else changed leaves a whole host
pub whole_still : (accounts : Accounts) (old new : VaultState) → new ≡ with_durability new.durability old → IsWhole (state_of accounts old) → IsWhole (state_of accounts new)
whole_still accounts old new same whole = subst (λ v. IsWhole (state_of accounts v)) (sym same) (whole_undone accounts new.durability old whole)
