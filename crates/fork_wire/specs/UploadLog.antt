-- What a log of open uploads has of the frames that a journal kept (own).
use Rattle.std.specs.Prelude.{◌≡◌, ℕ, List, [], ◌∷◌, Option, codes, flat_map, option_map}
use Rattle.std.specs.FinMap.{get}
use Rattle.std.specs.Io.KnownBytes.{Appends}
use Rattle.push_stream.specs.Upload.{UploadValue}
use Rattle.fork_request.specs.Asked.{Ask, SendsPart, EndsParts, DropsParts, asked}
use Rattle.fork_request.specs.declared.reply.Reply.{Reply}
use Rattle.fork_model.specs.World.{AreFine, Explains, World}
use Rattle.fork_frame.specs.Frame.{AreFrames, frame_bytes}
use Rattle.fork_frame.specs.declared.asker.Asker.{Asker}
use Rattle.fork_frame.specs.declared.asker.Asker.TheVariants.{Tenant, Host}
use Rattle.fork_frame.specs.declared.frame.Frame.{Frame}
use Rattle.fork_wire.specs.Kept.{kept_of}
use Rattle.fork_wire.specs.Sessions.{events_of}

-- a frame after which the tenant has no open upload. It is always refused, for its word is no name of a repository, and always
-- kept, for it ends an upload whatever it is answered
abbrev pub end_frame : List ℕ → Frame
end_frame tenant = record { asker = Tenant tenant; payload = codes "part-end .\n" }

-- what stands for a tenant's frame: a piece for itself, an end for `part-end` and `part-drop`, and nothing for other requests
abbrev pub stands_for : List ℕ → Ask → Frame → List Frame
stands_for tenant (SendsPart body) frame = frame ∷ []
stands_for tenant (EndsParts repository) frame = end_frame tenant ∷ []
stands_for tenant DropsParts frame = end_frame tenant ∷ []
stands_for tenant ask frame = []

-- what stands for a frame of this asker
abbrev pub stands_by : Asker → Frame → List Frame
stands_by (Tenant tenant) frame = stands_for tenant (asked frame.payload) frame
stands_by Host frame = []

abbrev pub upload_frames : Frame → List Frame
upload_frames frame = stands_by frame.asker frame

-- all bytes that came are frames, and what stands for them was written
pub record AreCopied (came : List ℕ) (before after : Option (List ℕ)) : Type 0 where
  pub frames : List Frame
  pub right : AreFrames frames came
  pub written : Appends before after (flat_map frame_bytes (flat_map upload_frames frames))

-- the upload of a tenant, if there is such a tenant
abbrev pub upload_in : World → List ℕ → Option (Option UploadValue)
upload_in world tenant = option_map (λ view. view.upload) (get world tenant)

-- both worlds have the same tenants, and each has the same upload open
abbrev pub SameUploads : World → World → Type 0
SameUploads one other = (tenant : List ℕ) → upload_in one tenant ≡ upload_in other tenant

-- these frames, done without host faults, lead to the uploads of a world, and a journal would keep each of them
pub record Reopened (frames : List Frame) (replies : List Reply) (after new : World) : Type 0 where
  pub same : SameUploads after new
  pub kept : kept_of frames replies ≡ frames

-- what stands for the frames that were kept of a session leads to the uploads to which the session led, from each world that has
-- the uploads with which it began
abbrev pub CopiesAreEnough : Type 0
CopiesAreEnough = (old new again after : World) (frames : List Frame) (replies more : List Reply) → Explains old (events_of frames) replies new → SameUploads again old
    → Explains again (events_of (flat_map upload_frames (kept_of frames replies))) more after → AreFine more → Reopened (flat_map upload_frames (kept_of frames replies)) more after new
