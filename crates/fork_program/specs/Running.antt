-- What `run` does (own): it adds the given tenants to a host, and serves one session of it.
use Rattle.std.specs.Prelude.{◌≡◌, ℕ, true, false, List, Option, is_some}
use Rattle.std.specs.FinMap.{empty}
use Rattle.fork_command.specs.declared.hosting.Hosting.{Hosting}
use Rattle.fork_frame.specs.declared.session_end.Ended.{Ended}
use Rattle.fork_frame.specs.declared.session_end.Ended.TheVariants as ended
use Rattle.fork_host.specs.Shown.{HostState, Trusted, world_of}
use Rattle.fork_wire.specs.Sessions.{IsServed, IsStopped}
use Rattle.fork_wire.specs.declared.fault.SessionFault.TheVariants as session
use Rattle.fork_program.specs.Given.{AreGiven, AreUngiven}
use Rattle.fork_program.specs.Keeping.{IsSaved, IsUnkept, IsUntouched}
use Rattle.fork_program.specs.declared.fault.Fault.{Fault}
use Rattle.fork_program.specs.declared.fault.Fault.TheVariants.{BadFrame, Read, Write, Memory, NotKept, NotSaved}

-- a host without tenants, over a store that is trusted
pub record IsNew (host : HostState) : Type 0 where
  pub trusted : Trusted host
  pub shows : world_of host ≡ empty

-- the host that the tenants are added to: a new one, if no folder keeps it
abbrev pub IsBegun : Hosting → HostState → Type 0
IsBegun hosting host = is_some hosting.dir ≡ false → IsNew host

-- a host that has the given tenants, which see nothing yet; if a folder keeps it, its state may have been saved after that
pub record IsHostOf (hosting : Hosting) (host : HostState) : Type 0 where
  pub begun : HostState
  pub added : HostState
  pub right : IsBegun hosting begun
  pub given : AreGiven hosting.tenants.items begun added
  pub unkept : is_some hosting.dir ≡ false → host ≡ added
  pub saved : IsSaved added host

-- the same, and a folder keeps it
pub record IsKeptHostOf (hosting : Hosting) (host : HostState) : Type 0 where
  pub kept : is_some hosting.dir ≡ true
  pub of : IsHostOf hosting host

-- a session of such a host was served up to this end
pub record IsSessionOf (hosting : Hosting) (input before after : Option (List ℕ)) (ended : Ended) : Type 0 where
  pub first : HostState
  pub last : HostState
  pub host : IsHostOf hosting first
  pub served : IsServed first last input before after ended

-- why a session was not served up to its input's end
abbrev pub EndsEarly : HostState → HostState → Option (List ℕ) → Option (List ℕ) → Option (List ℕ) → Fault → Type 0
EndsEarly first last input before after BadFrame = IsServed first last input before after ended.BadFrame
EndsEarly first last input before after Read = IsStopped first last input before after session.Read
EndsEarly first last input before after Write = IsStopped first last input before after session.Write
EndsEarly first last input before after Memory = IsStopped first last input before after session.Memory
EndsEarly first last input before after NotKept = IsStopped first last input before after session.Journal
EndsEarly first last input before after _ = ⊥

-- why there is no such host
pub data IsUnhosted (hosting : Hosting) (fault : Fault) : Type 0 where
  -- there was no memory for one
  Wanting : fault ≡ Memory → IsUnhosted hosting fault
  -- the host could not be opened in the folder
  Unkept : is_some hosting.dir ≡ true → IsUnkept fault → IsUnhosted hosting fault
  -- a tenant could not be added
  Ungiven : (begun : HostState) → IsBegun hosting begun → AreUngiven (world_of begun) hosting.tenants.items fault → IsUnhosted hosting fault

-- why a session was not served up to its input's end, or the host was not kept
pub data IsUnserved (hosting : Hosting) (input left before after : Option (List ℕ)) (fault : Fault) : Type 0 where
  -- there was no host
  Unhosted : IsUnhosted hosting fault → IsUntouched input left before after → IsUnserved hosting input left before after fault
  -- the state could not be saved before the session
  Unready : is_some hosting.dir ≡ true → fault ≡ NotSaved → (first : HostState) → IsHostOf hosting first → IsUntouched input left before after → IsUnserved hosting input left before after fault
  -- the session was cut short; a journal is the reason only if a folder keeps the host
  Cut : (first last : HostState) → IsHostOf hosting first → (fault ≡ NotKept → is_some hosting.dir ≡ true) → EndsEarly first last input before after fault → IsUnserved hosting input left before after fault
  -- the session was served, and then the state could not be saved
  Unsaved : is_some hosting.dir ≡ true → fault ≡ NotSaved → IsSessionOf hosting input before after ended.Clean → IsUnserved hosting input left before after fault
