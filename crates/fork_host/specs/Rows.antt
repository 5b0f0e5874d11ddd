-- The result of a row of the answer: the row itself, or a host fault: only lack of memory, unless the row asks the store.
use Rattle.std.specs.Prelude.{◌≡◌, ℕ, Bool, IsTrue, true, List, [], Contains, Result, Ok, Err}
use Rattle.std.specs.FinMap.{contains_key, empty, retain_keys}
use Rattle.fork_request.specs.declared.host_fault.HostFault.{HostFault}
use Rattle.fork_request.specs.declared.host_fault.HostFault.TheVariants.{Memory, Store, Damaged, Collision}
use Rattle.fork_request.specs.declared.reply.Reply.{Reply}
use Rattle.fork_request.specs.declared.reply.Reply.TheVariants.{Done, Refused, Failed}
use Rattle.fork_reach.specs.declared.source.SourceFault.{SourceFault}
use Rattle.fork_reach.specs.declared.source.SourceFault.TheVariants as source
use Rattle.fork_ledger.specs.declared.fault.VaultFault.{VaultFault}
use Rattle.fork_ledger.specs.declared.fault.VaultFault.TheVariants as ledger
use Rattle.fork_reach.specs.Objects.{measures_of}
use Rattle.fork_reach.specs.Source.{Objects}
use Rattle.fork_query.specs.declared.query_error.QueryError.{QueryError}
use Rattle.fork_query.specs.declared.query_error.QueryError.TheVariants as query
use Rattle.fork_model.specs.Answer.{pruned_reply}
use Rattle.fork_model.specs.View.{View}
use Rattle.fork_host.specs.Made.{Made, made_of}

pub data Gives (row : Reply × View) (old : View) (reply : Reply) (new : View) : Type 0 where
  -- the row's reply and view
  Given : reply ≡ row.0 → new ≡ row.1 → Gives row old reply new
  -- lack of memory, which leaves the view
  Wanting : reply ≡ Failed Memory → new ≡ old → Gives row old reply new

-- a view without the objects of its offers: if the view is right, what it sees determines them
abbrev pub plain : View → View × Made
plain view = (record view { made = empty }, made_of view.made)

-- the result of a row that asks the store, without the objects of offers
pub data Yields (row : Reply × View) (old : View) (reply : Reply) (new : View) : Type 0 where
  -- the row's reply and view
  Yielded : reply ≡ row.0 → plain new ≡ plain row.1 → Yields row old reply new
  -- lack of memory, which leaves the view
  Lacking : reply ≡ Failed Memory → plain new ≡ plain old → Yields row old reply new
  -- a host fault, which leaves it too
  Faulted : (fault : HostFault) → reply ≡ Failed fault → plain new ≡ plain old → Yields row old reply new

-- the same over a store of this honesty
pub record YieldsOver (honest : Bool) (row : Reply × View) (old : View) (reply : Reply) (new : View) : Type 0 where
  pub yields : IsTrue honest → Yields row old reply new

-- how a reply reports a fault of the store
abbrev pub fault_told : SourceFault → HostFault
fault_told source.Store = Store
fault_told source.Damaged = Damaged
fault_told source.Memory = Memory

-- how a reply reports a fault of the vault
abbrev pub vault_told : VaultFault → HostFault
vault_told ledger.Store = Store
vault_told ledger.Damaged = Damaged
vault_told ledger.Memory = Memory
vault_told ledger.Collision = Collision

-- how a reply reports a query's answer
abbrev pub query_told : {B : Type 0} → (B → List ℕ) → Result B QueryError → Reply
query_told view (Ok text) = Done (view text)
query_told view (Err (query.Refused refusal)) = Refused refusal
query_told view (Err (query.Failed fault)) = Failed (fault_told fault)

-- objects are kept, or a host fault leaves all of them
pub data KeepsObjects (kept old : Objects) (reply : Reply) (new : Objects) : Type 0 where
  Kept : reply ≡ pruned_reply old kept → new ≡ kept → KeepsObjects kept old reply new
  Unkept : (fault : HostFault) → reply ≡ Failed fault → new ≡ old → KeepsObjects kept old reply new

-- the same over any store, as far as names, kinds and lengths go: the roots are among those that are kept
pub data IsPruned (roots : List (List ℕ)) (old : Objects) (reply : Reply) (new : Objects) : Type 0 where
  Pruned : (kept : List ℕ → Bool) → reply ≡ pruned_reply old (retain_keys old kept) → measures_of new ≡ measures_of (retain_keys old kept)
      → ((name : List ℕ) → Contains roots name → contains_key old name ≡ true → kept name ≡ true) → IsPruned roots old reply new
  Unpruned : (fault : HostFault) → reply ≡ Failed fault → measures_of new ≡ measures_of old → IsPruned roots old reply new

-- how a source reports a fault of the vault; two objects of one name never meet in a read
abbrev pub fault_read : VaultFault → SourceFault
fault_read ledger.Store = source.Store
fault_read ledger.Damaged = source.Damaged
fault_read ledger.Memory = source.Memory
fault_read ledger.Collision = source.Damaged

abbrev pub read_told : {A : Type 0} → Result A VaultFault → Result A SourceFault
read_told (Ok found) = Ok found
read_told (Err fault) = Err (fault_read fault)
