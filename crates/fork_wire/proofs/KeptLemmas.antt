-- What a journal keeps, frame by frame.
use Rattle.std.proofs.Common.{◌≡◌, ◌∙◌, Bool, true, false, cond, refl, sym, ap, List, [], ◌∷◌, ◌++◌, append_assoc, append-nil, length, arith}
use Rattle.std.specs.Prelude.{flat_map}
use Rattle.std.proofs.lemmas.List.Concat.{flat_map-cons}
use Rattle.fork_request.specs.declared.reply.Reply.{Reply}
use Rattle.fork_frame.specs.Frame.{frame_bytes}
use Rattle.fork_frame.specs.declared.frame.Frame.{Frame}
use Rattle.fork_wire.specs.Kept.{is_kept, kept_bytes, kept_of, kept_one}

first_kept : (b : Bool) (frame : Frame) (frames : List Frame) → flat_map frame_bytes (cond b (frame ∷ frames) frames) ≡ cond b (frame_bytes frame) [] ++ flat_map frame_bytes frames
first_kept true frame frames = flat_map-cons frame_bytes frame frames
first_kept false frame frames = refl

-- of one frame more at the front
pub kept_first : (frame : Frame) (reply : Reply) (frames : List Frame) (replies : List Reply) → kept_bytes (frame ∷ frames) (reply ∷ replies) ≡ kept_one frame reply ++ kept_bytes frames replies
kept_first frame reply frames replies = first_kept (is_kept frame reply) frame (kept_of frames replies)

-- of one frame more at the end
pub kept_more : (frames : List Frame) (replies : List Reply) (frame : Frame) (reply : Reply) → length frames ≡ length replies
    → kept_bytes (frames ++ frame ∷ []) (replies ++ reply ∷ []) ≡ kept_bytes frames replies ++ kept_one frame reply
kept_more [] [] frame reply same = kept_first frame reply [] [] ∙ append-nil (kept_one frame reply)
kept_more [] (r ∷ replies) frame reply same = absurd (omega arith)
kept_more (f ∷ frames) [] frame reply same = absurd (omega arith)
kept_more (f ∷ frames) (r ∷ replies) frame reply same =
    let fewer : length frames ≡ length replies = omega arith in
    kept_first f r (frames ++ frame ∷ []) (replies ++ reply ∷ [])
    ∙ ap (λ bytes. kept_one f r ++ bytes) (kept_more frames replies frame reply fewer)
    ∙ sym (append_assoc (kept_one f r) (kept_bytes frames replies) (kept_one frame reply))
    ∙ ap (λ bytes. bytes ++ kept_one frame reply) (sym (kept_first f r frames replies))

-- as many frames as replies, and one more of each
pub one_longer : (frames : List Frame) (replies : List Reply) (frame : Frame) (reply : Reply) → length frames ≡ length replies → length (frames ++ frame ∷ []) ≡ length (replies ++ reply ∷ [])
one_longer [] [] frame reply same = refl
one_longer [] (r ∷ replies) frame reply same = absurd (omega arith)
one_longer (f ∷ frames) [] frame reply same = absurd (omega arith)
one_longer (f ∷ frames) (r ∷ replies) frame reply same =
    let fewer : length frames ≡ length replies = omega arith in
    let more = one_longer frames replies frame reply fewer in
    omega arith
