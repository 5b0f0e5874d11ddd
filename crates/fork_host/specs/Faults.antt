-- Which host faults a step may report, from state to state.
use Rattle.std.specs.Prelude.{◌≡◌, ◌≢◌, ◌⊎◌, false, List, []}
use Rattle.git_name.specs.Object.{Object}
use Rattle.fork_request.specs.declared.host_fault.HostFault.TheVariants.{Damaged, Memory, Collision}
use Rattle.fork_request.specs.Told.{is_host_fault}
use Rattle.fork_request.specs.declared.host_request.HostRequest.{HostRequest}
use Rattle.fork_request.specs.declared.host_request.HostRequest.TheVariants.{Sweep, Collect, Census, Fsck, Tenants, Bad}
use Rattle.fork_request.specs.declared.reply.Reply.{Reply}
use Rattle.fork_request.specs.declared.reply.Reply.TheVariants.{Failed}
use Rattle.fork_model.specs.Runs.{Asks, HostAsks}
use Rattle.fork_model.specs.World.{Event}
use Rattle.fork_host.specs.Bounds.{IsBounded}
use Rattle.fork_host.specs.Sent.{sent_in_world}
use Rattle.fork_host.specs.Shown.{HostState, world_of}

-- no object is read or added: no host fault concerns one
pub record NoneOfObjects (reply : Reply) : Type 0 where
  pub undamaged : reply ≢ Failed Damaged
  pub apart : reply ≢ Failed Collision

-- the host faults of a request of the host itself: lack of memory and failures of the store for a sweep, a collection and a check;
-- lack of memory for the census and the list of tenants; none for a bad request
abbrev pub HostFaults : HostRequest → Reply → Type 0
HostFaults (Sweep most) reply = NoneOfObjects reply
HostFaults Collect reply = NoneOfObjects reply
HostFaults Fsck reply = NoneOfObjects reply
HostFaults Census reply = (is_host_fault reply ≡ false) ⊎ (reply ≡ Failed Memory)
HostFaults Tenants reply = (is_host_fault reply ≡ false) ⊎ (reply ≡ Failed Memory)
HostFaults Bad reply = is_host_fault reply ≡ false

-- the objects that a step brings; a request of the host itself brings none
abbrev pub sent_at : HostState → Event → List Object
sent_at old (Asks tenant ask) = sent_in_world (world_of old) tenant ask
sent_at old (HostAsks request) = []

-- a step keeps the bounds on host faults
abbrev pub FaultsWithin : HostState → Event → Reply → HostState → Type 0
FaultsWithin old (Asks tenant ask) reply new = IsBounded (sent_in_world (world_of old) tenant ask) old.vault new.vault reply
FaultsWithin old (HostAsks request) reply new = HostFaults request reply × IsBounded [] old.vault new.vault reply
