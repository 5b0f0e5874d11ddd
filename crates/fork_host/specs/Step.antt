-- What a step of a host is, and a run of steps (own): all that is promised of one request, from state to state.
use Rattle.std.specs.Prelude.{◌≡◌, ◌≢◌, ◌⊎◌, ℕ, false, true, List, [], ◌∷◌, Some, ⊤}
use Rattle.fork_request.specs.Asked.{ForksOffer}
use Rattle.fork_request.specs.Told.{is_done, is_host_fault}
use Rattle.fork_request.specs.declared.reply.Reply.{Reply}
use Rattle.fork_model.specs.Runs.{Asks, HostAsks}
use Rattle.fork_model.specs.World.{Event, HostSays, Steps, World}
use Rattle.fork_host.specs.Faults.{FaultsWithin}
use Rattle.fork_host.specs.Forked.{ForksOffered}
use Rattle.fork_host.specs.Given.{asker_of, changes_offers_in}
use Rattle.fork_host.specs.Safe.{IsNamedReply, IsTakenFrom, TellsSeen}
use Rattle.fork_host.specs.Sent.{seen_in_world}
use Rattle.fork_host.specs.Shape.{SameOffers, SameShape}
use Rattle.fork_host.specs.Shown.{HostState, IsWhole, Trusted, world_of}
use Rattle.fork_host.specs.Swept.{TendsAt}

-- what is answered to a tenant under a name has that name
abbrev pub IsNamedAt : Event → Reply → Type 0
IsNamedAt (Asks tenant ask) reply = IsNamedReply ask reply
IsNamedAt (HostAsks request) reply = ⊤

-- merge bases are names of what the tenant sees, and replies about the host itself agree with the world
abbrev pub TellsSeenAt : World → Event → Reply → Type 0
TellsSeenAt world (Asks tenant ask) reply = TellsSeen (seen_in_world world tenant) ask reply
TellsSeenAt world (HostAsks request) reply = HostSays world request reply ⊎ (is_host_fault reply ≡ true)

-- a step from state to state. Over an honest store it is a step of the world. Over any store the honesty stays, and the new state
-- is a host's. What is refused or failed keeps each view's shape, and a step that a tenant does not ask keeps that tenant's. Only
-- `offer` and `withdraw` change which repositories are offered. `fork-offer` gives a repository that is offered, and what
-- becomes visible by it is of what the giver sees. What is answered under a name has that name, merge bases are names of what the
-- tenant sees, and replies about the host itself agree with the world. The host faults, and what is done with the store, keep
-- their bounds
pub record IsStep (old : HostState) (event : Event) (reply : Reply) (new : HostState) : Type 0 where
  pub explained : Trusted old → Steps (world_of old) event reply (world_of new)
  pub honest : new.vault.honest ≡ old.vault.honest
  pub whole : IsWhole new
  pub kept : is_done reply ≡ false → (tenant : List ℕ) → SameShape tenant (world_of old) (world_of new)
  pub others : (tenant : List ℕ) → asker_of event ≢ Some tenant → SameShape tenant (world_of old) (world_of new)
  pub offers : changes_offers_in event ≡ false → (tenant : List ℕ) → SameOffers tenant (world_of old) (world_of new)
  pub forked : (tenant giver repository copy : List ℕ) → event ≡ Asks tenant (ForksOffer giver repository copy) → is_done reply ≡ true
      → ForksOffered (world_of old) (world_of new) tenant giver repository copy
  pub takes : (tenant giver repository copy : List ℕ) → event ≡ Asks tenant (ForksOffer giver repository copy)
      → IsTakenFrom (seen_in_world (world_of old) giver) (seen_in_world (world_of old) tenant) (seen_in_world (world_of new) tenant)
  pub named : IsNamedAt event reply
  pub seen : TellsSeenAt (world_of old) event reply
  pub faults : FaultsWithin old event reply new
  pub tends : TendsAt old event reply new

-- these replies, one to each step, lead from state to state
abbrev pub IsRun : HostState → List Event → List Reply → HostState → Type 0
IsRun old [] [] new = new ≡ old
IsRun old (event ∷ events) (reply ∷ replies) new = (mid : HostState) × IsStep old event reply mid × IsRun mid events replies new
IsRun old [] (reply ∷ replies) new = ⊥
IsRun old (event ∷ events) [] new = ⊥

-- what each reply gives a tenant under a name has that name
abbrev pub AreNamedAt : List Event → List Reply → Type 0
AreNamedAt (event ∷ events) (reply ∷ replies) = IsNamedAt event reply × AreNamedAt events replies
AreNamedAt [] replies = ⊤
AreNamedAt (event ∷ events) [] = ⊤
