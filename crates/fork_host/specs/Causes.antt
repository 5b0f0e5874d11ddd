-- Why a host fault is reported in a run (own).
use Rattle.std.specs.Prelude.{◌≡◌, ◌≢◌, List, [], ◌∷◌, ◌++◌}
use Rattle.std.specs.List.{AllByRecursion}
use Rattle.git_name.specs.Object.{Object}
use Rattle.git_name.specs.Count.{greatest_count}
use Rattle.fork_request.specs.declared.host_fault.HostFault.TheVariants.{Store, Damaged, Memory, Collision}
use Rattle.fork_request.specs.declared.reply.Reply.{Reply}
use Rattle.fork_request.specs.declared.reply.Reply.TheVariants.{Failed}
use Rattle.fork_model.specs.World.{Event}
use Rattle.fork_host.specs.Bounds.{IsCollision}
use Rattle.fork_host.specs.Faults.{sent_at}
use Rattle.fork_host.specs.Shown.{HostState, Trusted}
use Rattle.fork_host.specs.Step.{IsRun}

-- the objects that were sent along a run
abbrev pub sent_along : (old : HostState) (events : List Event) (replies : List Reply) (new : HostState) → IsRun old events replies new → List Object
sent_along old [] [] new along = []
sent_along old (event ∷ events) (reply ∷ replies) new along = sent_at old event ++ sent_along along.0 events replies new along.2
sent_along old [] (reply ∷ replies) new along = []
sent_along old (event ∷ events) [] new along = []

-- the store did not fail, and memory did not run out
pub record IsCalm (reply : Reply) : Type 0 where
  pub store : reply ≢ Failed Store
  pub memory : reply ≢ Failed Memory

-- over an honest store, and with no `store` and no `memory` before it, `collision` is reported only if an object that was sent in
-- the run differs from another of its name, which was also sent in the run or was on the store before it
abbrev pub CollidesForCause : Type 0
CollidesForCause = (old new : HostState) (events : List Event) (replies front back : List Reply) (along : IsRun old events replies new) → Trusted old → replies ≡ front ++ Failed Collision ∷ back → AllByRecursion IsCalm front
    → IsCollision (sent_along old events replies new along) old.vault.files

-- over an honest store `damaged` is never reported
abbrev pub NeverDamaged : Type 0
NeverDamaged = (old new : HostState) (events : List Event) (replies : List Reply) → IsRun old events replies new → Trusted old → AllByRecursion (λ reply. reply ≢ Failed Damaged) replies

-- over any store `store` is reported only if the count of failures rose, or is at its greatest
abbrev pub FailsForCause : Type 0
FailsForCause = (old new : HostState) (events : List Event) (replies : List Reply) → IsRun old events replies new → new.vault.failures ≡ old.vault.failures → old.vault.failures ≢ greatest_count
    → AllByRecursion (λ reply. reply ≢ Failed Store) replies
