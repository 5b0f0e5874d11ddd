-- Frames that reopen uploads (own): `part` requests, whose pieces are bytes of the same upload.
use Rattle.std.specs.Prelude.{◌≡◌, ℕ, ◌≤◌, All, List, [], ◌∷◌, ◌++◌, Some, codes, length, map}
use Rattle.std.specs.List.{concat}
use Rattle.push_stream.specs.Upload.{UploadValue, upload_of}
use Rattle.fork_model.specs.View.{View}
use Rattle.fork_frame.specs.Frame.{IsFrame}
use Rattle.fork_frame.specs.declared.asker.Asker.TheVariants.{Tenant}
use Rattle.fork_frame.specs.declared.frame.Frame.{Frame}

-- a frame by which a tenant sends a piece
abbrev pub part_frame : List ℕ → List ℕ → Frame
part_frame tenant piece = record { asker = Tenant tenant; payload = codes "part\n" ++ piece }

-- frames by which a tenant sends these bytes: at least one, and each valid
pub record ArePartFrames (tenant bytes : List ℕ) (frames : List Frame) : Type 0 where
  pub pieces : List (List ℕ)
  pub some : 1 ≤ length pieces
  pub whole : concat pieces ≡ bytes
  pub sent : frames ≡ map (part_frame tenant) pieces
  pub right : All IsFrame frames

-- a view whose open upload has these bytes
abbrev pub with_upload : View → List ℕ → View
with_upload view bytes = record view { upload = Some (upload_of bytes) }

-- frames that reopen this upload
pub record ReopensOne (tenant : List ℕ) (upload : UploadValue) (frames : List Frame) : Type 0 where
  pub bytes : List ℕ
  pub stands : upload_of bytes ≡ upload
  pub parts : ArePartFrames tenant bytes frames

-- frames that reopen these uploads, one after another
abbrev pub Reopens : List (List ℕ × UploadValue) → List Frame → Type 0
Reopens [] frames = frames ≡ []
Reopens (upload ∷ uploads) frames = (first : List Frame) × (rest : List Frame) × (frames ≡ first ++ rest) × ReopensOne upload.0 upload.1 first × Reopens uploads rest
