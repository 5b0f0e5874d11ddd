-- Which host faults a step may report, depending on what happened to the store under the vault.
use Rattle.std.specs.Prelude.{◌≡◌, ◌≢◌, ◌⊎◌, ℕ, IsTrue, List, Contains, Option}
use Rattle.git_name.specs.Object.{Object, object_name}
use Rattle.git_name.specs.Count.{Rises}
use Rattle.loose_store.specs.Files.{Files}
use Rattle.loose_store.specs.Stored.{Whole}
use Rattle.fork_reach.specs.Faults.{CountsFault}
use Rattle.fork_reach.specs.declared.source.SourceFault.{SourceFault}
use Rattle.fork_reach.specs.declared.source.SourceFault.TheVariants as source
use Rattle.fork_request.specs.declared.host_fault.HostFault.TheVariants.{Memory, Store, Damaged, Collision}
use Rattle.fork_request.specs.declared.reply.Reply.{Reply}
use Rattle.fork_request.specs.declared.reply.Reply.TheVariants.{Done, Unchanged, Refused, Failed}
use Rattle.fork_ledger.specs.Tenants.{VaultState}
use Rattle.fork_ledger.specs.AllStaged.{StoresAmong}
use Rattle.std.specs.Prelude.{Some}

-- a failure of the store is counted and reported, and nothing else is
abbrev pub CountsReply : ℕ → ℕ → Reply → Type 0
CountsReply before now (Done text) = now ≡ before
CountsReply before now Unchanged = now ≡ before
CountsReply before now (Refused refusal) = now ≡ before
CountsReply before now (Failed Memory) = now ≡ before
CountsReply before now (Failed Store) = Rises before now
CountsReply before now (Failed Damaged) = now ≡ before
CountsReply before now (Failed Collision) = now ≡ before

-- two different objects of one name met: one was sent, and the other was sent too, or is on the store
pub record IsCollision (sent : List Object) (files : Files) : Type 0 where
  pub object : Object
  pub other : Object
  pub comes : Contains sent object
  pub met : Contains sent other ⊎ Whole files (object_name object) other
  pub named : object_name other ≡ object_name object
  pub differ : other ≢ object

-- the store stays as honest as it was. The host faults of a step in which these objects were sent: `store` only if the count of
-- failures rose; `damaged` never over an honest store; and over an honest store `collision` only if two different objects of one
-- name met. An honest store gains nothing that was not sent, except that a fault of the store or lack of memory may leave anything
-- under the one name that was written
pub record IsBounded (sent : List Object) (old new : VaultState) (reply : Reply) : Type 0 where
  pub honest : new.honest ≡ old.honest
  pub counted : CountsReply old.failures new.failures reply
  pub undamaged : IsTrue old.honest → reply ≢ Failed Damaged
  pub collided : IsTrue old.honest → reply ≡ Failed Collision → IsCollision sent old.files
  pub stored : IsTrue old.honest → reply ≢ Failed Store → reply ≢ Failed Memory → StoresAmong sent old.files new.files

-- the store was asked successfully, and at most these objects were added to it
pub record Gains (sent : List Object) (old new : VaultState) : Type 0 where
  pub honest : new.honest ≡ old.honest
  pub failures : new.failures ≡ old.failures
  pub stored : IsTrue old.honest → StoresAmong sent old.files new.files

-- the store was read, with this fault or none, and the catalogue is as it was
pub record ReadsStore (old new : VaultState) (fault : Option SourceFault) : Type 0 where
  pub honest : new.honest ≡ old.honest
  pub counted : CountsFault old.failures new.failures fault
  pub files : IsTrue old.honest → new.files ≡ old.files
  pub places : new.places ≡ old.places
  pub undamaged : IsTrue old.honest → fault ≢ Some source.Damaged
