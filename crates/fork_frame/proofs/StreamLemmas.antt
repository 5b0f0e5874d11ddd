-- The frames of a session: none at first, one more with each reading, and then the end of the input.
use Rattle.std.proofs.Common.{◌≡◌, ℕ, List, [], ◌∷◌, ◌++◌, Option, None, Some, IfSome, refl, sym, ap₂, ◌∙◌}
use Rattle.std.specs.Prelude.{flat_map}
use Rattle.std.specs.Io.KnownBytes.{Consumes, IsAtEnd}
use Rattle.std.proofs.lemmas.List.{append-nil}
use Rattle.std.proofs.lemmas.List.Concat.{flat_map-append, flat_map-cons}
use Rattle.std.proofs.lemmas.List.Elements.{All-append, All-cons, All-nil}
use Rattle.fork_frame.specs.declared.frame.Frame.{Frame}
use Rattle.fork_frame.specs.declared.session_end.Ended.{Ended}
use Rattle.fork_frame.specs.declared.session_end.Ended.TheVariants.{Clean}
use Rattle.fork_frame.specs.Frame.{IsFrame, AreFrames, EndsAt, IsRequestStream, frame_bytes}

pub no_frames : AreFrames [] []
no_frames = record { right = All-nil IsFrame; spelled = refl }

one_more : (f : Frame) → flat_map frame_bytes (f ∷ []) ≡ frame_bytes f
one_more f = flat_map-cons frame_bytes f [] ∙ append-nil (frame_bytes f)

pub frames_more : (frames : List Frame) (bytes : List ℕ) (frame : Frame) → AreFrames frames bytes → IsFrame frame → AreFrames (frames ++ frame ∷ []) (bytes ++ frame_bytes frame)
frames_more frames bytes frame so_far right = record {
  right = All-append IsFrame frames (frame ∷ []) so_far.right (All-cons IsFrame frame [] right (All-nil IsFrame));
  spelled = ap₂ (λ (a b : List ℕ). a ++ b) so_far.spelled (sym (one_more frame)) ∙ sym (flat_map-append frame_bytes frames (frame ∷ []));
}

pub ends_clean : (left : Option (List ℕ)) → IsAtEnd left → IfSome left (EndsAt Clean)
ends_clean None ended = tt
ends_clean (Some rest) ended = ended

-- what was read before the end of a known input is its request stream
pub is_stream : (old left : Option (List ℕ)) (came : List ℕ) (frames : List Frame) (ended : Ended) → Consumes old left came → AreFrames frames came → IfSome left (EndsAt ended)
    → IfSome old (λ input. IsRequestStream input frames ended)
is_stream None left came frames ended taken right ends = tt
is_stream (Some input) None came frames ended taken right ends = absurd taken
is_stream (Some input) (Some rest) came frames ended taken right ends = record { came = came; rest = rest; parts = taken; right = right; ends = ends }
