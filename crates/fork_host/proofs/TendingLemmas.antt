-- What requests of the host itself leave: each view as it was, and bounds on host faults.
use Rattle.std.proofs.Common.{◌≡◌, ◌≢◌, ◌⊎◌, inl, inr, ℕ, ◌≤◌, true, IsTrue, List, [], None, Some, refl, sym, ap, subst, ◌∙◌}
use Rattle.std.specs.Option.{option_map}
use Rattle.std.specs.FinMap.{entries, from_sorted, get}
use Rattle.std.specs.Prelude.{map}
use Rattle.fork_reach.specs.Objects.{Measures, measures_of}
use Rattle.fork_request.specs.Told.{is_host_fault}
use Rattle.fork_request.specs.declared.host_fault.HostFault.TheVariants.{Memory}
use Rattle.fork_request.specs.declared.host_request.HostRequest.{HostRequest}
use Rattle.fork_request.specs.declared.reply.Reply.{Reply}
use Rattle.fork_request.specs.declared.reply.Reply.TheVariants.{Done, Failed}
use Rattle.fork_model.specs.Runs.{HostAsks, HostAnswered, HostFaulted}
use Rattle.fork_model.specs.Sound.{IsOrderlyWorld, IsRightWorld}
use Rattle.fork_model.specs.World.{HostSays, Steps, World}
use Rattle.fork_ledger.specs.declared.fault.VaultFault.{VaultFault}
use Rattle.fork_ledger.specs.declared.fault.VaultFault.TheVariants as ledger
use Rattle.fork_ledger.specs.Kept.{TakesAway}
use Rattle.fork_ledger.specs.Store.{AsksStore}
use Rattle.fork_ledger.specs.Tenants.{Tenants, VaultState, private_of, shape_of}
use Rattle.fork_ledger.proofs.BothLemmas.{same_measures, same_tenants_there}
use Rattle.fork_host.specs.Bounds.{IsBounded}
use Rattle.fork_host.specs.Faults.{NoneOfObjects}
use Rattle.fork_host.specs.Own.{staged_in, visible_in}
use Rattle.fork_host.specs.Rows.{vault_told}
use Rattle.fork_host.specs.Shape.{SameShape, view_shape as shape_seen}
use Rattle.fork_host.specs.Shown.{Account, Accounts, IsWhole, seen_by, state_of, world_of}
use Rattle.fork_host.specs.Staged.{IsStaged}
use Rattle.fork_host.specs.Swept.{Tends, IsTended}
use Rattle.fork_host.proofs.StagedLemmas.{staged_still}
use Rattle.fork_host.proofs.WholeLemmas.{orderly_still, others_still, shape_still}
use Rattle.fork_host.proofs.WorldLemmas.{get_world, known_world, len_world}

-- ---- the vault

-- a request that got no memory did nothing
pub tends_none : (request : HostRequest) (vault : VaultState) → IsTended request vault (Failed Memory) vault → Tends request vault (Failed Memory) vault
tends_none request vault tended = record { tended = tended; honest = refl; kept = λ h. refl; stays = λ h name held. refl; sharp = λ h is done. absurd (cc); sound = λ h is done. absurd (cc) }

pub done_none : (text : List ℕ) → NoneOfObjects (Done text)
done_none text = record { undamaged = λ is. cc; apart = λ is. cc }

pub memory_none : NoneOfObjects (Failed Memory)
memory_none = record { undamaged = λ is. cc; apart = λ is. cc }

pub fault_none : (fault : VaultFault) → fault ≢ ledger.Damaged → fault ≢ ledger.Collision → NoneOfObjects (Failed (vault_told fault))
fault_none ledger.Store undamaged apart = record { undamaged = λ is. cc; apart = λ is. cc }
fault_none ledger.Memory undamaged apart = record { undamaged = λ is. cc; apart = λ is. cc }
fault_none ledger.Damaged undamaged apart = absurd (undamaged refl)
fault_none ledger.Collision undamaged apart = absurd (apart refl)

-- the bounds if names left, and if a fault came in between
pub bounded_swept : (a b : VaultState) (text : List ℕ) → AsksStore a b None → (IsTrue a.honest → TakesAway a.files b.files) → IsBounded [] a b (Done text)
bounded_swept a b text asked away = record {
  honest = asked.honest;
  counted = asked.counted;
  undamaged = λ h is. cc;
  collided = λ h is. absurd (cc);
  stored = λ h _ _ name object whole. inl (record { file = away h name _ whole.file; named = whole.named });
}

pub bounded_unswept : (a b : VaultState) (fault : VaultFault) → fault ≢ ledger.Damaged → fault ≢ ledger.Collision → AsksStore a b (Some fault) → IsBounded [] a b (Failed (vault_told fault))
bounded_unswept a b ledger.Store undamaged apart asked = record { honest = asked.honest; counted = asked.counted; undamaged = λ h is. cc; collided = λ h is. absurd (cc); stored = λ h no_store _. absurd (no_store refl) }
bounded_unswept a b ledger.Memory undamaged apart asked = record { honest = asked.honest; counted = asked.counted; undamaged = λ h is. cc; collided = λ h is. absurd (cc); stored = λ h _ no_memory. absurd (no_memory refl) }
bounded_unswept a b ledger.Damaged undamaged apart asked = absurd (undamaged refl)
bounded_unswept a b ledger.Collision undamaged apart asked = absurd (apart refl)

-- ---- the host

-- the same private maps show the same world
pub world_tended : (accounts : Accounts) (old new : VaultState) → new.tenants ≡ old.tenants → world_of (state_of accounts new) ≡ world_of (state_of accounts old)
unfolding world_of
world_tended accounts old new same = ap (λ (tenants : Tenants). from_sorted (map (λ (entry : List ℕ × Account). (entry.0, seen_by entry.1 (private_of tenants entry.0))) (entries accounts))) same

seen_tended : (old new : VaultState) → shape_of new.tenants ≡ shape_of old.tenants → (t : List ℕ) → measures_of (visible_in new t) ≡ measures_of (visible_in old t)
seen_tended old new same t = ap (λ (p : Measures × Measures). p.0) (same_measures old.tenants new.tenants t same)

orderly_tended : (accounts : Accounts) (old new : VaultState) → shape_of new.tenants ≡ shape_of old.tenants → IsOrderlyWorld (world_of (state_of accounts old)) → IsOrderlyWorld (world_of (state_of accounts new))
orderly_tended accounts old new same orderly = record {
  few = subst (λ n. n ≤ 64) (len_world (state_of accounts old) ∙ sym (len_world (state_of accounts new))) orderly.few;
  named = λ q is. orderly.named q (known_world (state_of accounts old) q ∙ sym (known_world (state_of accounts new) q) ∙ is);
  views = λ q view is.
      orderly_still (state_of accounts old) (state_of accounts new) q q (get accounts q) view (seen_tended old new same q) (sym (get_world (state_of accounts new) q) ∙ is)
      (λ other found. orderly.views q other (get_world (state_of accounts old) q ∙ found));
  to_others = λ q view is.
      others_still (state_of accounts old) (state_of accounts new) q q (get accounts q) view (sym (get_world (state_of accounts new) q) ∙ is)
      (λ other found. orderly.to_others q other (get_world (state_of accounts old) q ∙ found));
}

-- the host stays whole
pub whole_tended : (accounts : Accounts) (old new : VaultState) → shape_of new.tenants ≡ shape_of old.tenants → (IsTrue old.honest → new.tenants ≡ old.tenants) → new.honest ≡ old.honest
    → IsWhole (state_of accounts old) → IsWhole (state_of accounts new)
whole_tended accounts old new shape same honest whole = record {
  orderly = orderly_tended accounts old new shape whole.orderly;
  right = λ trusted. (let before = sym honest ∙ trusted in subst IsRightWorld (sym (world_tended accounts old new (same before))) (whole.right before));
  there = λ q. same_tenants_there old.tenants new.tenants q shape ∙ whole.there q;
  staged = λ q account is. subst (λ h. IsStaged h account.upload (staged_in new q)) (sym honest)
      (staged_still old.honest account.upload (staged_in old q) (staged_in new q) (ap (λ (p : Measures × Measures). p.1) (same_measures old.tenants new.tenants q shape)) (λ h. ap (λ tenants. (private_of tenants q).staged) (same h)) (whole.staged q account is));
}

-- and what each tenant sees keeps its shape
pub shape_tended : (accounts : Accounts) (old new : VaultState) → shape_of new.tenants ≡ shape_of old.tenants → (t : List ℕ) → SameShape t (world_of (state_of accounts old)) (world_of (state_of accounts new))
shape_tended accounts old new same t =
    ap (option_map shape_seen) (get_world (state_of accounts new) t) ∙ shape_still (state_of accounts old) (state_of accounts new) t (get accounts t) (seen_tended old new same t)
    ∙ ap (option_map shape_seen) (sym (get_world (state_of accounts old) t))

-- a request that left the world is a step
pub own_step : (old new : World) (request : HostRequest) (reply : Reply) → HostSays old request reply ⊎ (is_host_fault reply ≡ true) → new ≡ old → Steps old (HostAsks request) reply new
own_step old new request reply (inl says) same = HostAnswered says same
own_step old new request reply (inr fault) same = HostFaulted fault same
