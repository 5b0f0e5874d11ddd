-- What holds between the steps of a run (own): what a census reports there, and what a collection leaves.
use Rattle.std.specs.Prelude.{◌≡◌, ◌⊎◌, ◌++◌, ℕ, true, List, [], ◌∷◌, length, Contains}
use Rattle.std.specs.List.{AllByRecursion}
use Rattle.git_name.specs.Object.{Object}
use Rattle.loose_store.specs.Stored.{Whole}
use Rattle.fork_request.specs.declared.host_request.HostRequest.TheVariants.{Census, Collect}
use Rattle.fork_request.specs.declared.reply.Reply.{Reply}
use Rattle.fork_request.specs.declared.reply.Reply.TheVariants.{Done}
use Rattle.fork_ledger.specs.Taken.{is_taken}
use Rattle.fork_model.specs.Runs.{Asks, HostAsks}
use Rattle.fork_model.specs.View.{View}
use Rattle.fork_model.specs.World.{Event, number_line}
use Rattle.fork_host.specs.Causes.{IsCalm, sent_along}
use Rattle.fork_host.specs.Sent.{sent_by}
use Rattle.fork_host.specs.Shown.{HostState, Trusted}
use Rattle.fork_host.specs.Step.{IsRun, IsStep}

-- a tenant's request that brings no objects, whatever the tenant sees
abbrev pub BringsNothing : Event → Type 0
BringsNothing (Asks tenant ask) = (view : View) → sent_by view ask ≡ []
BringsNothing (HostAsks request) = ⊥

-- after such requests a census reports how many names were catalogued before them, whatever follows it
abbrev pub CountsWhatStood : Type 0
CountsWhatStood = (old new : HostState) (front back : List Event) (told after : List Reply) (text : List ℕ) → IsRun old (front ++ HostAsks Census ∷ back) (told ++ Done text ∷ after) new → length told ≡ length front
    → AllByRecursion BringsNothing front → text ≡ number_line (length old.vault.places.names)

-- over an honest store, after a collection that was answered and steps that reported no `store` and no `memory`, an object is whole
-- on the store only under a name that was held when it was collected, or if it was sent in those steps
abbrev pub LeavesHeldAndSent : Type 0
LeavesHeldAndSent = (old mid new : HostState) (text : List ℕ) (events : List Event) (replies : List Reply) (along : IsRun mid events replies new) → Trusted old → IsStep old (HostAsks Collect) (Done text) mid → AllByRecursion IsCalm replies
    → (name : List ℕ) (object : Object) → Whole new.vault.files name object → (is_taken old.vault.tenants name ≡ true) ⊎ Contains (sent_along mid events replies new along) object
