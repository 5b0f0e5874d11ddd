-- Frames are copied into a log of open uploads, one after another.
use Rattle.std.specs.Prelude.{IfSome}
use Rattle.std.proofs.Common.{◌≡◌, Option, Some, None, ℕ, List, [], ◌∷◌, ◌++◌, sym, ap, ◌∙◌, subst}
use Rattle.std.proofs.lemmas.Grind.{flat_map-append}
use Rattle.std.proofs.lemmas.List.{append-nil}
use Rattle.std.proofs.KnownBytes.{Appends-nil, Appends-trans, Consumes-nil, Consumes-trans}
use Rattle.std.specs.Io.KnownBytes.{Appends, Consumes, IsAtEnd}
use Rattle.std.specs.Prelude.{flat_map}
use Rattle.fork_frame.specs.declared.frame.Frame.{Frame}
use Rattle.fork_frame.specs.Frame.{AreFrames, IsFrame, frame_bytes}
use Rattle.fork_frame.proofs.StreamLemmas.{frames_more, no_frames}
use Rattle.fork_wire.specs.UploadLog.{AreCopied, upload_frames}

-- frames came so far, and what stands for them was written
pub record Copying (input left before after : Option (List ℕ)) : Type 0 where
  pub frames : List Frame
  pub came : List ℕ
  pub right : AreFrames frames came
  pub taken : Consumes input left came
  pub written : Appends before after (flat_map frame_bytes (flat_map upload_frames frames))

one_more : (frame : Frame) → flat_map upload_frames (frame ∷ []) ≡ upload_frames frame
one_more frame = append-nil (upload_frames frame)

copied_more : (frames : List Frame) (frame : Frame) → flat_map frame_bytes (flat_map upload_frames (frames ++ frame ∷ [])) ≡ flat_map frame_bytes (flat_map upload_frames frames) ++ flat_map frame_bytes (upload_frames frame)
copied_more frames frame =
    ap (flat_map frame_bytes) (flat_map-append upload_frames frames (frame ∷ []) ∙ ap (λ more. flat_map upload_frames frames ++ more) (one_more frame))
    ∙ flat_map-append frame_bytes (flat_map upload_frames frames) (upload_frames frame)

-- nothing came yet
pub none_copied : (input before : Option (List ℕ)) → Copying input input before before
none_copied input before = record { frames = []; came = []; right = no_frames; taken = Consumes-nil input; written = Appends-nil before }

-- a frame more
pub more_copied : (input left still_left before during after : Option (List ℕ)) (frame : Frame) → Copying input left before during → IsFrame frame → Consumes left still_left (frame_bytes frame)
    → Appends during after (flat_map frame_bytes (upload_frames frame)) → Copying input still_left before after
more_copied input left still_left before during after frame so_far right taken written = record {
  frames = so_far.frames ++ frame ∷ [];
  came = so_far.came ++ frame_bytes frame;
  right = frames_more so_far.frames so_far.came frame so_far.right right;
  taken = Consumes-trans input left still_left so_far.came (frame_bytes frame) so_far.taken taken;
  written = subst (Appends before after) (sym (copied_more so_far.frames frame))
      (Appends-trans before during after (flat_map frame_bytes (flat_map upload_frames so_far.frames)) (flat_map frame_bytes (upload_frames frame)) so_far.written written);
}

-- nothing is left
whole : (bytes left came : List ℕ) → bytes ≡ came ++ left → left ≡ [] → came ≡ bytes
whole bytes left came parts end = sym (append-nil came) ∙ ap (λ rest. came ++ rest) (sym end) ∙ sym parts

pub all_copied : (input left before after : Option (List ℕ)) → Copying input left before after → IsAtEnd left → IfSome input (λ came. AreCopied came before after)
all_copied None left before after so_far end = tt
all_copied (Some bytes) None before after so_far end = absurd so_far.taken
all_copied (Some bytes) (Some left) before after so_far end = record {
  frames = so_far.frames;
  right = subst (AreFrames so_far.frames) (whole bytes left so_far.came so_far.taken end) so_far.right;
  written = so_far.written;
}
