-- What `serve` does (own): it adds the given tenants to a host, and serves connections to a socket, one after another or many at
-- once.
use Rattle.std.specs.Prelude.{◌≡◌, ◌⊎◌, ◌≤◌, ℕ, true, List, [], ◌∷◌, Option, None, Some, length, is_some}
use Rattle.fork_command.specs.declared.hosting.Hosting.{Hosting}
use Rattle.fork_frame.specs.declared.frame.Frame.{Frame}
use Rattle.fork_host.specs.Shown.{HostState, Trusted, world_of}
use Rattle.fork_model.specs.World.{Explains}
use Rattle.fork_request.specs.declared.reply.Reply.{Reply}
use Rattle.fork_wire.specs.Sessions.{IsAnswered, IsPrivateRun, events_of}
use Rattle.fork_program.specs.Keeping.{IsSaved}
use Rattle.fork_program.specs.Running.{IsHostOf, IsUnhosted}
use Rattle.fork_program.specs.declared.fault.Fault.{Fault}
use Rattle.fork_program.specs.declared.fault.Fault.TheVariants.{Memory, NotKept, NotSaved, Socket}

-- what frames that came one after another did to the host: those of one connection, up to a pause or however it ended; or those of
-- a round of all connections that were open at once
pub data IsVisit (old new : HostState) : Type 0 where
  -- nothing was asked
  Idle : new ≡ old → IsVisit old new
  -- each of these frames was answered
  Asked : (frames : List Frame) (replies : List Reply) → IsAnswered old new frames replies → IsVisit old new

-- a visit, after which the host's state may have been saved
pub record IsVisitThenSaved (old new : HostState) : Type 0 where
  pub left : HostState
  pub visit : IsVisit old left
  pub saved : IsSaved left new

-- the host went from one state to the other through these states, one after each visit at which a connection paused
abbrev pub Pauses : HostState → List HostState → HostState → Type 0
Pauses old [] new = old ≡ new
Pauses old (next ∷ states) new = IsVisitThenSaved old next × Pauses next states new

-- what a connection did to the host, or what all that were open at once did, round by round
pub record IsConnection (old new : HostState) : Type 0 where
  pub states : List HostState
  pub left : HostState
  pub pauses : Pauses old states left
  pub last : IsVisit left new

-- a connection, after which the host's state may have been saved
pub record IsConnectionThenSaved (old new : HostState) : Type 0 where
  pub left : HostState
  pub connection : IsConnection old left
  pub saved : IsSaved left new

-- the host went from one state to the other through these states, one after each connection
abbrev pub Visits : HostState → List HostState → HostState → Type 0
Visits old [] new = old ≡ new
Visits old (next ∷ states) new = IsConnectionThenSaved old next × Visits next states new

-- `n` connections were served
pub record AreVisits (old new : HostState) (n : ℕ) : Type 0 where
  pub states : List HostState
  pub number : length states ≡ n
  pub chain : Visits old states new

-- at most `n` connections were served
pub record AreSomeVisits (old new : HostState) (n : ℕ) : Type 0 where
  pub states : List HostState
  pub number : length states ≤ n
  pub chain : Visits old states new

-- `n` connections were served, one after another; or rounds of all that were open at once
abbrev pub AreServed : Option ℕ → HostState → HostState → ℕ → Type 0
AreServed None old new n = AreVisits old new n
AreServed (Some most) old new n = IsConnection old new

-- the same for some of them
abbrev pub AreSomeServed : Option ℕ → HostState → HostState → ℕ → Type 0
AreSomeServed None old new n = AreSomeVisits old new n
AreSomeServed (Some most) old new n = IsConnection old new

-- `n` connections to such a host were served
pub record IsListened (hosting : Hosting) (at_once : Option ℕ) (n : ℕ) : Type 0 where
  pub first : HostState
  pub last : HostState
  pub host : IsHostOf hosting first
  pub served : AreServed at_once first last n

-- the faults of a socket
abbrev pub IsUnbound : Fault → Type 0
IsUnbound fault = (fault ≡ Socket) ⊎ (fault ≡ Memory)

-- the faults of keeping a host while it serves
abbrev pub IsLost : Fault → Type 0
IsLost fault = (fault ≡ NotKept) ⊎ (fault ≡ NotSaved)

-- why `n` connections were not served, or why the host was not kept
pub data IsUnlistened (hosting : Hosting) (at_once : Option ℕ) (n : ℕ) (fault : Fault) : Type 0 where
  -- there was no host
  Unhosted : IsUnhosted hosting fault → IsUnlistened hosting at_once n fault
  -- the socket could not be bound
  Unbound : (first : HostState) → IsHostOf hosting first → IsUnbound fault → IsUnlistened hosting at_once n fault
  -- the state could not be saved before the first connection
  Unready : is_some hosting.dir ≡ true → fault ≡ NotSaved → (first : HostState) → IsHostOf hosting first → IsUnlistened hosting at_once n fault
  -- what was served could no longer be kept
  Lost : is_some hosting.dir ≡ true → (first last : HostState) → IsHostOf hosting first → AreSomeServed at_once first last n → IsLost fault → IsUnlistened hosting at_once n fault
  -- listening on the socket failed
  Deaf : (first last : HostState) → IsHostOf hosting first → AreSomeServed at_once first last n → IsUnbound fault → IsUnlistened hosting at_once n fault
  -- all were served, and then the state could not be saved
  Unsaved : is_some hosting.dir ≡ true → fault ≡ NotSaved → IsListened hosting at_once n → IsUnlistened hosting at_once n fault

-- all frames that were answered, and their replies, in the order of time, explain how the world changed, and each tenant's part of
-- them is that of a private host
pub record IsOneRun (old new : HostState) : Type 0 where
  pub frames : List Frame
  pub replies : List Reply
  pub explained : Explains (world_of old) (events_of frames) replies (world_of new)
  pub private_run : IsPrivateRun (world_of old) (events_of frames) replies (world_of new)

-- a whole serving over a trusted store is one run, whatever the connections, and whatever was saved in between
abbrev pub ServingIsOneRun : Type 0
ServingIsOneRun = (at_once : Option ℕ) (old new : HostState) (n : ℕ) → AreServed at_once old new n → Trusted old → IsOneRun old new
