-- What a journal keeps of a session (own): the frames that may have changed the host.
use Rattle.std.specs.Prelude.{◌≡◌, Option, Result, Ok, Err, Bool, true, false, not, cond, ℕ, List, [], ◌∷◌, flat_map}
use Rattle.std.specs.Io.KnownBytes.{Keeps}
use Rattle.fork_request.specs.Asked.{Ask, Inits, Drops, Forks, Pushes, SendsPart, EndsParts, DropsParts, Updates, SetsHead, MakesOffer, Withdraws, ForksOffer, AsksObject, AsksTree, AsksRevisions, AsksBases, AsksReferences, AsksHead, AsksOffers, AsksRepositories, Fetches, AsksUse, Prunes, NoRequest, asked}
use Rattle.fork_request.specs.declared.reply.Reply.{Reply}
use Rattle.fork_request.specs.declared.reply.Reply.TheVariants.{Done, Unchanged, Refused, Failed}
use Rattle.fork_frame.specs.Frame.{frame_bytes}
use Rattle.fork_frame.specs.declared.asker.Asker.{Asker}
use Rattle.fork_frame.specs.declared.asker.Asker.TheVariants.{Tenant, Host}
use Rattle.fork_frame.specs.declared.frame.Frame.{Frame}
use Rattle.fork_wire.specs.declared.fault.SessionFault.{SessionFault}
use Rattle.fork_wire.specs.declared.fault.SessionFault.TheVariants.{Read, Write, Memory, Journal}

-- a request that only asks: no answer to it changes the view
abbrev pub only_asks : Ask → Bool
only_asks (AsksObject name) = true
only_asks (AsksTree name) = true
only_asks (AsksRevisions repository items) = true
only_asks (AsksBases repository first second) = true
only_asks (AsksReferences repository prefix) = true
only_asks (AsksHead repository) = true
only_asks AsksOffers = true
only_asks (Fetches repository items) = true
only_asks AsksRepositories = true
only_asks AsksUse = true
only_asks NoRequest = true
only_asks (Inits repository) = false
only_asks (Drops repository) = false
only_asks (Forks source copy) = false
only_asks (Pushes repository body) = false
only_asks (SendsPart body) = false
only_asks (EndsParts repository) = false
only_asks DropsParts = false
only_asks (Updates repository body) = false
only_asks (SetsHead repository reference) = false
only_asks (MakesOffer repository receiver) = false
only_asks (Withdraws repository receiver) = false
only_asks (ForksOffer giver repository copy) = false
only_asks Prunes = false

-- a request that ends the upload, even if it is refused
abbrev pub is_part_end : Ask → Bool
is_part_end (EndsParts repository) = true
is_part_end ask = false

-- a request with this reply left the view unchanged
abbrev pub leaves : Ask → Reply → Bool
leaves ask (Done text) = only_asks ask
leaves ask Unchanged = true
leaves ask (Refused refusal) = not (is_part_end ask)
leaves ask (Failed fault) = true

-- what a tenant sends is kept if it may have changed the tenant's view
abbrev pub is_kept_of : Asker → List ℕ → Reply → Bool
is_kept_of (Tenant name) payload reply = not (leaves (asked payload) reply)
is_kept_of Host payload reply = false

abbrev pub is_kept : Frame → Reply → Bool
is_kept frame reply = is_kept_of frame.asker frame.payload reply

-- what is kept of one frame
abbrev pub kept_one : Frame → Reply → List ℕ
kept_one frame reply = cond (is_kept frame reply) (frame_bytes frame) []

-- the frames that are kept of a session
abbrev pub kept_of : List Frame → List Reply → List Frame
kept_of [] replies = []
kept_of (frame ∷ frames) [] = []
kept_of (frame ∷ frames) (reply ∷ replies) = cond (is_kept frame reply) (frame ∷ kept_of frames replies) (kept_of frames replies)

-- the replies to them
abbrev pub replies_kept : List Frame → List Reply → List Reply
replies_kept [] replies = []
replies_kept (frame ∷ frames) [] = []
replies_kept (frame ∷ frames) (reply ∷ replies) = cond (is_kept frame reply) (reply ∷ replies_kept frames replies) (replies_kept frames replies)

-- their bytes
abbrev pub kept_bytes : List Frame → List Reply → List ℕ
kept_bytes frames replies = flat_map frame_bytes (kept_of frames replies)

-- what a session's end says about its journal: a frame could not be kept or synced, or the journal is as complete as it was
abbrev pub TellsCut : {A : Type 0} → Bool → Bool → Result A SessionFault → Type 0
TellsCut before now (Ok ended) = now ≡ before
TellsCut before now (Err Read) = now ≡ before
TellsCut before now (Err Write) = now ≡ before
TellsCut before now (Err Memory) = now ≡ before
TellsCut before now (Err Journal) = now ≡ true

-- if this flag is true, all that was kept is synced, as far as both are known
abbrev pub SyncedIf : Bool → Option (List ℕ) → Option (List ℕ) → Type 0
SyncedIf is synced kept = is ≡ true → Keeps synced kept
