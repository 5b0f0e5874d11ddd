-- The reader's bookkeeping, which no clause of a public function mentions: what one more line does to what was read so far.
use Rattle.std.specs.Prelude.{◌≡◌, ℕ, ◌+◌, ◌≤◌, Bool, true, false, cond, List, [], ◌∷◌, ◌++◌, codes, decimal, length, ⊤}
use Rattle.std.specs.List.{flat_map}
use Rattle.std.specs.FinMap.{empty, entries}
use Rattle.hex.specs.Hex.{encode_lower}
use Rattle.git_name.specs.Text.{ended}
use Rattle.git_refname.specs.Namespace.{expanded}
use Rattle.git_reftx.specs.Repository as git
use Rattle.git_reftx.specs.Repository.{new_repository}
use Rattle.git_reftx.specs.declared.fault.PushRefError.{PushRefError}
use Rattle.git_reftx.specs.declared.fault.PushRefError.TheVariants as push
use Rattle.state_text.specs.declared.fault.AddError.{AddError}
use Rattle.state_text.specs.declared.fault.AddError.TheVariants as add
use Rattle.state_text.specs.declared.fault.OfferError.{OfferError}
use Rattle.state_text.specs.declared.fault.OfferError.TheVariants as offering
use Rattle.state_text.specs.declared.line_fault.LineFault.{LineFault}
use Rattle.state_text.specs.declared.line_fault.LineFault.TheVariants.{Wrong, Memory}
use Rattle.state_text.specs.declared.place.Place.{Place}
use Rattle.state_text.specs.declared.place.Place.TheVariants.{Own, Offered}
use Rattle.state_text.specs.declared.version.Version.{Version}
use Rattle.state_text.specs.declared.version.Version.TheVariants.{One, Two}
use Rattle.state_text.specs.Adding.{fresh, with_seen}
use Rattle.state_text.specs.Offer.{offer_words}
use Rattle.state_text.specs.Place.{IsLast, place_name, with_at}
use Rattle.state_text.specs.States.{IsStates, States, TenantState}
use Rattle.state_text.specs.Text.{VersionTells, tenant_lines, version_line}

-- what was read: states, and whether the HEAD of the last item is still awaited
pub record Taken : Type 0 where
  pub states : States
  pub awaits : Bool

-- whether a repository's line is followed by its HEAD
abbrev pub awaits_head : Version → Bool
awaits_head One = false
awaits_head Two = true

-- lines without the last one
abbrev pub but_last : List (List ℕ) → List (List ℕ)
but_last [] = []
but_last (line ∷ []) = []
but_last (line ∷ next ∷ lines) = line ∷ but_last (next ∷ lines)

-- the lines of states except the last, which is `end`
abbrev pub told_lines : Version → States → List (List ℕ)
told_lines version states = version_line version ∷ flat_map (tenant_lines version) states

-- and without the HEAD that is awaited
abbrev pub open_lines : Version → Taken → List (List ℕ)
open_lines version taken = cond taken.awaits (but_last (told_lines version taken.states)) (told_lines version taken.states)

-- a repository or an offer has just begun, and is a new repository so far
pub record HasJustBegun (states : States) : Type 0 where
  pub before : States
  pub tenant : TenantState
  pub place : Place
  pub last : IsLast tenant place
  pub is : states ≡ before ++ with_at tenant place new_repository ∷ []

-- if a HEAD is awaited, something has just begun, in version 2
abbrev pub AwaitsHead : Version → Taken → Type 0
AwaitsHead version taken = (taken.awaits ≡ true) → (awaits_head version ≡ true) × HasJustBegun taken.states

-- valid states that the version can express
pub record IsRightSoFar (version : Version) (taken : Taken) : Type 0 where
  pub right : IsStates taken.states
  pub tells : VersionTells version taken.states
  pub begun : AwaitsHead version taken

-- a tenant begins
pub record AddsTenant (old : States) (rest : List ℕ) (new : States) : Type 0 where
  pub name : List ℕ
  pub limit : ℕ
  pub spelled : rest ≡ name ++ codes " " ++ decimal limit
  pub added : new ≡ old ++ fresh name limit ∷ []

-- a repository or an offer of the last tenant begins
pub record AddsPlace (old : States) (place : Place) (new : States) : Type 0 where
  pub before : States
  pub tenant : TenantState
  pub last : IsLast tenant place
  pub was : old ≡ before ++ tenant ∷ []
  pub added : new ≡ before ++ with_at tenant place new_repository ∷ []

-- a repository, given by its name
abbrev pub AddsRepository : States → List ℕ → States → Type 0
AddsRepository old rest new = AddsPlace old (Own rest) new

-- an offer, given by its receiver and the repository's name, from version 2 on
pub record AddsOffer (version : Version) (old : States) (rest : List ℕ) (new : States) : Type 0 where
  pub receiver : List ℕ
  pub name : List ℕ
  pub told : awaits_head version ≡ true
  pub spelled : rest ≡ offer_words receiver name
  pub begins : AddsPlace old (Offered receiver name) new

-- what has just begun has this HEAD
pub record AddsHead (old : States) (rest : List ℕ) (new : States) : Type 0 where
  pub before : States
  pub tenant : TenantState
  pub place : Place
  pub head : List ℕ
  pub last : IsLast tenant place
  pub was : old ≡ before ++ with_at tenant place new_repository ∷ []
  pub spelled : rest ≡ expanded (tenant.name ∷ place_name place ∷ []) ++ head
  pub added : new ≡ before ++ with_at tenant place (record { head = head; references = empty }) ∷ []

pub record SaysHead (old : States) (line : List ℕ) (new : States) : Type 0 where
  pub rest : List ℕ
  pub is : line ≡ codes "head " ++ rest
  pub adds : AddsHead old rest new

-- a repository has one more reference
pub record HasReferenceMore (old : git.Repository) (name target : List ℕ) (new : git.Repository) : Type 0 where
  pub head : new.head ≡ old.head
  pub pushed : entries new.references ≡ entries old.references ++ (name, target) ∷ []

-- the last item has one more reference
pub record AddsReference (old : States) (rest : List ℕ) (new : States) : Type 0 where
  pub before : States
  pub tenant : TenantState
  pub place : Place
  pub repository : git.Repository
  pub next : git.Repository
  pub name : List ℕ
  pub target : List ℕ
  pub last : IsLast tenant place
  pub was : old ≡ before ++ with_at tenant place repository ∷ []
  pub more : HasReferenceMore repository name target next
  pub spelled : rest ≡ encode_lower target ++ codes " " ++ expanded (tenant.name ∷ place_name place ∷ []) ++ name
  pub added : new ≡ before ++ with_at tenant place next ∷ []

-- the last tenant sees one more object
pub record AddsSeen (old : States) (rest : List ℕ) (new : States) : Type 0 where
  pub before : States
  pub tenant : TenantState
  pub name : List ℕ
  pub unoffered : tenant.offers ≡ []
  pub spelled : rest ≡ encode_lower name
  pub was : old ≡ before ++ tenant ∷ []
  pub added : new ≡ before ++ with_seen tenant name ∷ []

-- whether a HEAD is awaited before this line, and after it
pub record Goes (before : Bool) (old : Taken) (behind : Bool) (new : Taken) : Type 0 where
  pub was : old.awaits ≡ before
  pub is : new.awaits ≡ behind

-- what the line says
pub data Adds (version : Version) (old : Taken) (line : List ℕ) (new : Taken) : Type 0 where
  Head : awaits_head version ≡ true → Goes true old false new → SaysHead old.states line new.states → Adds version old line new
  Tenant : (rest : List ℕ) → line ≡ codes "tenant " ++ rest → Goes false old false new → AddsTenant old.states rest new.states → Adds version old line new
  Repository : (rest : List ℕ) → line ≡ codes "repo " ++ rest → Goes false old (awaits_head version) new → AddsRepository old.states rest new.states → Adds version old line new
  Reference : (rest : List ℕ) → line ≡ codes "ref " ++ rest → Goes false old false new → AddsReference old.states rest new.states → Adds version old line new
  Seen : (rest : List ℕ) → line ≡ codes "see " ++ rest → Goes false old false new → AddsSeen old.states rest new.states → Adds version old line new
  Offer : (rest : List ℕ) → line ≡ codes "offer " ++ rest → Goes false old true new → AddsOffer version old.states rest new.states → Adds version old line new

-- what holds if the line is wrong; running out of memory reports nothing
abbrev pub WhenWrong : LineFault → Type 0 → Type 0
WhenWrong Wrong said = said
WhenWrong Memory said = ⊤

-- no valid states are the old ones plus this line
abbrev pub Refuses : (States → List ℕ → States → Type 0) → States → List ℕ → LineFault → Type 0
Refuses Says old line fault = WhenWrong fault ((new : States) → IsStates new → Says old line new → ⊥)

-- nothing valid is what was taken plus this line
abbrev pub RefusesLine : Version → Taken → List ℕ → LineFault → Type 0
RefusesLine version old line fault = WhenWrong fault ((new : Taken) → IsRightSoFar version new → Adds version old line new → ⊥)

-- an item that cannot be appended makes a wrong line, unless memory ran out
abbrev pub fault_of : AddError → LineFault
fault_of add.OutOfOrder = Wrong
fault_of add.TooMany = Wrong
fault_of add.Memory = Memory

abbrev pub fault_of_push : PushRefError → LineFault
fault_of_push push.OutOfOrder = Wrong
fault_of_push push.RefConflict = Wrong
fault_of_push push.TooMany = Wrong
fault_of_push push.Memory = Memory

abbrev pub fault_of_offer : OfferError → LineFault
fault_of_offer offering.ToGiver = Wrong
fault_of_offer offering.OutOfOrder = Wrong
fault_of_offer offering.TooMany = Wrong
fault_of_offer offering.Memory = Memory

-- this many lines were read, which are these, and the rest of the text is left
pub record IsReadSoFar (version : Version) (text : List ℕ) (taken : Taken) (lines : ℕ) (rest : List ℕ) : Type 0 where
  pub parts : text ≡ flat_map ended (open_lines version taken) ++ rest
  pub count : lines ≡ length (open_lines version taken)
  pub right : IsRightSoFar version taken
