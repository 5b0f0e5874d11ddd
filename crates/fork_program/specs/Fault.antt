-- The line that reports a fault (own).
use Rattle.std.specs.Prelude.{ℕ, List, [], ◌∷◌, ◌++◌, codes, decimal}
use Rattle.hex.specs.Hex.{encode_lower}
use Rattle.fork_state.specs.declared.fault.LoadFault.{LoadFault}
use Rattle.fork_state.specs.declared.fault.LoadFault.TheVariants as load
use Rattle.fork_request.specs.declared.host_fault.HostFault.TheVariants as host
use Rattle.fork_wire.specs.declared.again.AgainFault.{AgainFault}
use Rattle.fork_wire.specs.declared.again.AgainFault.TheVariants as again
use Rattle.fork_wire.specs.declared.fault.SessionFault.{SessionFault}
use Rattle.fork_wire.specs.declared.fault.SessionFault.TheVariants as session
use Rattle.loose_store.specs.declared.files.FileFault.{FileFault}
use Rattle.loose_store.specs.declared.files.FileFault.TheVariants as file
use Rattle.fork_program.specs.declared.fault.Fault.{Fault}
use Rattle.fork_program.specs.declared.fault.Fault.TheVariants.{TooLarge, BadObject, BadFrame, Read, Write, Memory, Store, Socket, NoState, NotPacked, Unreadable, Journal, OtherJournal, NotKept, NotSaved, Line, Lost, Damaged, Unsound, OverLimit, There, TooManyTenants, NotThere, BelowUse}

-- the words that report a fault
abbrev pub said_of : Fault → List ℕ
said_of TooLarge = codes "too-large"
said_of BadObject = codes "bad-object"
said_of BadFrame = codes "bad frame"
said_of Read = codes "read"
said_of Write = codes "write"
said_of Memory = codes "memory"
said_of Store = codes "store"
said_of Socket = codes "socket"
said_of NoState = codes "no state"
said_of NotPacked = codes "not packed"
said_of Unreadable = codes "state unreadable"
said_of Journal = codes "journal unreadable"
said_of OtherJournal = codes "journal of another state"
said_of NotKept = codes "journal not written"
said_of NotSaved = codes "state not saved"
said_of (Line line) = codes "state line " ++ decimal line
said_of (Lost name) = codes "lost " ++ encode_lower name
said_of (Damaged name) = codes "damaged " ++ encode_lower name
said_of (Unsound name) = codes "unsound " ++ encode_lower name
said_of (OverLimit tenant) = codes "over limit " ++ tenant
said_of (There tenant) = codes "tenant " ++ tenant ++ codes " is there already"
said_of TooManyTenants = codes "too many tenants"
said_of (NotThere tenant) = codes "tenant " ++ tenant ++ codes " is not there"
said_of (BelowUse tenant used) = codes "limit of " ++ tenant ++ codes " is below its use, " ++ decimal used

-- the line that reports it
abbrev pub fault_line : Fault → List ℕ
fault_line fault = codes "forkhost: " ++ said_of fault ++ 10 ∷ []

-- the fault that reports a session's fault
abbrev pub session_fault : SessionFault → Fault
session_fault session.Read = Read
session_fault session.Write = Write
session_fault session.Memory = Memory
session_fault session.Journal = NotKept

-- the fault that reports that a folder could not be opened
abbrev pub store_fault : FileFault → Fault
store_fault file.Device = Store
store_fault file.Memory = Memory

-- the fault that reports that a state could not be read
abbrev pub state_fault : FileFault → Fault
state_fault file.Device = Unreadable
state_fault file.Memory = Memory

-- the fault that reports that a journal could not be read
abbrev pub journal_fault : FileFault → Fault
journal_fault file.Device = Journal
journal_fault file.Memory = Memory

-- the fault that reports that the requests of a journal could not be repeated
abbrev pub again_fault : AgainFault → Fault
again_fault again.Read = Journal
again_fault again.Memory = Memory
again_fault again.Altered = Journal
again_fault (again.Host host.Memory) = Memory
again_fault (again.Host host.Store) = Store
again_fault (again.Host host.Damaged) = Journal
again_fault (again.Host host.Collision) = Journal

-- the fault that reports that no host could be loaded from a state
abbrev pub load_fault : LoadFault → Fault
load_fault (load.Line line) = Line line
load_fault load.Read = Unreadable
load_fault (load.Lost name) = Lost name
load_fault (load.Damaged name) = Damaged name
load_fault (load.Unsound name) = Unsound name
load_fault (load.OverLimit tenant) = OverLimit tenant
load_fault load.Store = Store
load_fault load.Memory = Memory
