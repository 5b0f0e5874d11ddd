-- What happens to the catalogue and the store (own). Requests of the host itself, which are sweeps, collections, the census, the
-- check and the list of tenants, change no view; those of tenants only add to the catalogue.
use Rattle.std.specs.Prelude.{◌≡◌, ◌⊎◌, ◌<◌, ◌≤◌, ◌+◌, ◌*◌, ℕ, Bool, true, IsTrue, List, [], length, map, sum}
use Rattle.std.specs.FinMap.{contains_key, get}
use Rattle.std.specs.List.{AllByRecursion}
use Rattle.fork_request.specs.Harms.{Harmed, harm_lines}
use Rattle.fork_request.specs.Told.{is_done}
use Rattle.fork_request.specs.declared.host_request.HostRequest.{HostRequest}
use Rattle.fork_request.specs.declared.host_request.HostRequest.TheVariants.{Sweep, Collect, Census, Fsck, Tenants, Bad}
use Rattle.fork_request.specs.declared.refusal.Refusal.TheVariants.{BadRequest}
use Rattle.fork_request.specs.declared.reply.Reply.{Reply}
use Rattle.fork_request.specs.declared.reply.Reply.TheVariants.{Done, Unchanged, Refused, Failed}
use Rattle.fork_model.specs.Runs.{Asks, HostAsks}
use Rattle.fork_model.specs.World.{Event, number_line}
use Rattle.looks.specs.Growth.{GrowsAmong}
use Rattle.looks.specs.Looks.{Looks, Walks}
use Rattle.looks.specs.Places.{Places, at_start}
use Rattle.looks.specs.Slices.{Collects, Sweeps}
use Rattle.fork_ledger.specs.Harms.{AreFound}
use Rattle.fork_ledger.specs.Taken.{is_taken}
use Rattle.fork_ledger.specs.Tenants.{VaultState}
use Rattle.fork_host.specs.Sent.{sent_in_world, sent_names}
use Rattle.fork_host.specs.Shown.{HostState, world_of}

-- the store has files exactly for the names under which some tenant has an object
abbrev pub IsSharp : VaultState → Type 0
IsSharp vault = (name : List ℕ) → contains_key vault.files name ≡ is_taken vault.tenants name

-- the files of names under which some tenant has an object are as they were
abbrev pub KeepsTaken : VaultState → VaultState → Type 0
KeepsTaken old new = (name : List ℕ) → is_taken old.tenants name ≡ true → get new.files name ≡ get old.files name

-- looks that a fault ended before the last of this many, or no looks
abbrev pub LooksBefore : (List ℕ → Bool) → ℕ → Places → Places → Type 0
LooksBefore held most old new = (new ≡ old) ⊎ ((count : ℕ) × (count < most) × Looks held count old new)

-- looks from the beginning on, or no looks
abbrev pub WalksOn : (List ℕ → Bool) → Places → Places → Type 0
WalksOn held old new = (new ≡ old) ⊎ ((count : ℕ) × Walks held count (at_start old) new)

-- a number is reported, and the catalogue shrank by this many names
pub record Shrinks (old new : Places) (text : List ℕ) : Type 0 where
  pub count : ℕ
  pub told : text ≡ number_line count
  pub left : length new.names + count ≡ length old.names

-- a sweep: at most this many looks, and fewer if a fault ends it
abbrev pub IsSweep : ℕ → VaultState → Reply → VaultState → Type 0
IsSweep most old (Done text) new = Sweeps (is_taken old.tenants) most old.places new.places × Shrinks old.places new.places text
IsSweep most old Unchanged new = ⊥
IsSweep most old (Refused refusal) new = ⊥
IsSweep most old (Failed fault) new = LooksBefore (is_taken old.tenants) most old.places new.places

-- a collection: one whole round of looks, or a part of it if a fault ends it
abbrev pub IsCollection : VaultState → Reply → VaultState → Type 0
IsCollection old (Done text) new = Collects (is_taken old.tenants) old.places new.places × Shrinks old.places new.places text
IsCollection old Unchanged new = ⊥
IsCollection old (Refused refusal) new = ⊥
IsCollection old (Failed fault) new = WalksOn (is_taken old.tenants) old.places new.places

-- the catalogue is as it was, and so are the files of an honest store
pub record IsLeft (old new : VaultState) : Type 0 where
  pub places : new.places ≡ old.places
  pub files : IsTrue old.honest → new.files ≡ old.files

-- the census: reports how many names are catalogued, and changes nothing
abbrev pub IsCensus : VaultState → Reply → VaultState → Type 0
IsCensus old (Done text) new = (text ≡ number_line (length old.places.names)) × (new ≡ old)
IsCensus old Unchanged new = ⊥
IsCensus old (Refused refusal) new = ⊥
IsCensus old (Failed fault) new = new ≡ old

-- the check: reports the harms of the files, and changes nothing of the catalogue and of an honest store
abbrev pub IsCheck : VaultState → Reply → VaultState → Type 0
IsCheck old (Done text) new = ((harms : Harmed) × (text ≡ harm_lines harms) × AreFound harms old) × IsLeft old new
IsCheck old Unchanged new = ⊥
IsCheck old (Refused refusal) new = ⊥
IsCheck old (Failed fault) new = IsLeft old new

-- what is reported and done, by what is asked
abbrev pub IsTended : HostRequest → VaultState → Reply → VaultState → Type 0
IsTended (Sweep most) old reply new = IsSweep most old reply new
IsTended Collect old reply new = IsCollection old reply new
IsTended Census old reply new = IsCensus old reply new
IsTended Fsck old reply new = IsCheck old reply new
IsTended Tenants old reply new = new ≡ old
IsTended Bad old reply new = (reply ≡ Refused BadRequest) × (new ≡ old)

-- what a request of the host itself does: over any store to the catalogue, and over an honest one to the files
pub record Tends (request : HostRequest) (old : VaultState) (reply : Reply) (new : VaultState) : Type 0 where
  pub tended : IsTended request old reply new
  pub honest : new.honest ≡ old.honest
  pub kept : IsTrue old.honest → new.tenants ≡ old.tenants
  pub stays : IsTrue old.honest → KeepsTaken old new
  pub sharp : IsTrue old.honest → request ≡ Collect → is_done reply ≡ true → IsSharp new
  pub sound : IsTrue old.honest → request ≡ Fsck → is_done reply ≡ true → reply ≡ Done []

-- what a step does: a tenant's leaves the place of the next look, and adds to the catalogue only names of what is sent
abbrev pub TendsAt : HostState → Event → Reply → HostState → Type 0
TendsAt old (Asks tenant ask) reply new = GrowsAmong (sent_names (sent_in_world (world_of old) tenant ask)) old.vault.places new.vault.places
TendsAt old (HostAsks request) reply new = Tends request old.vault reply new.vault

-- sweeps of at most this many looks, one after another
abbrev pub sweeps : List ℕ → List Event
sweeps slices = map (λ most. HostAsks (Sweep most)) slices

-- each of them was answered
abbrev pub AreDone : List Reply → Type 0
AreDone replies = AllByRecursion (λ reply. is_done reply ≡ true) replies

-- after sweeps alone that were answered, and that add up to at least twice the number of names that were catalogued, the store has
-- files exactly for the names under which some tenant has an object
abbrev pub SharpAfterSweeps : VaultState → List Event → List Reply → VaultState → Type 0
SharpAfterSweeps old events replies new = (slices : List ℕ) → events ≡ sweeps slices → AreDone replies → 2 * length old.places.names ≤ sum slices → IsSharp new
