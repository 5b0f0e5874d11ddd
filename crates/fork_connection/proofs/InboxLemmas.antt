-- What is pending is a frame and more, or a part of one, or no frame whatever follows.
use Rattle.std.proofs.Common.{◌≡◌, ◌≢◌, ℕ, ◌≤◌, inr, All, Some, List, [], ◌∷◌, ◌++◌, length, take, drop, refl, sym, ap, ◌∙◌, arith, length-take}
use Rattle.std.proofs.lemmas.List.{append-nil, append_assoc, take-append-drop}
use Rattle.fork_frame.specs.declared.line.Line.{Line}
use Rattle.fork_frame.specs.declared.frame.Frame.{Frame}
use Rattle.fork_frame.specs.Line.{IsFrameLine, line_text}
use Rattle.fork_frame.specs.Frame.{IsBad, IsFrame, frame_bytes}
use Rattle.fork_frame.proofs.FrameLemmas.{line_of, is_line_of, line_first, longer, bad_front, bad_line, bad_payload, is_frame}
use Rattle.fork_frame.proofs.LineLemmas.{line_plain, line_short, split_later}
use Rattle.fork_connection.specs.Inbox.{IsPart, OfLine, OfPayload, IsHopeless}
use Rattle.fork_connection.specs.declared.inbox.TheConstants.{LONGEST_LINE}

-- bytes without LF, as many as are searched for a line's, begin no frame
pub no_line_comes : (pending : List ℕ) → All (λ byte. byte ≢ 10) pending → LONGEST_LINE ≤ length pending → IsHopeless pending
no_line_comes pending plain long more = record {
  some = longer (pending ++ more) pending more (omega arith) refl;
  none = λ frame rest right is.
      let later : length pending ≤ length (line_text (line_of frame)) = split_later 10 (line_text (line_of frame)) (frame.payload ++ rest) pending more plain (is ∙ line_first frame rest) in
      let short = line_short (line_of frame) _ (is_line_of frame right) in
      absurd (omega arith);
}

-- more bytes after a line, LF, and what follows
behind_line : (pending text after more : List ℕ) → pending ≡ text ++ 10 ∷ after → pending ++ more ≡ (text ++ 10 ∷ []) ++ (after ++ more)
behind_line pending text after more parts = ap (λ p. p ++ more) parts ∙ (append_assoc text (10 ∷ after) more ∙ sym (append_assoc text (10 ∷ []) (after ++ more)))

-- a line that is no frame's
pub no_right_line : (pending text after : List ℕ) → pending ≡ text ++ 10 ∷ after → All (λ byte. byte ≢ 10) text → ((line : Line) → IsFrameLine line text → ⊥) → IsHopeless pending
no_right_line pending text after parts plain wrong more = bad_line (Some (pending ++ more)) (Some (after ++ more)) text plain (behind_line pending text after more parts) wrong

-- a whole frame, and what follows it
pub takes_frame : (frame : Frame) (line : Line) (pending text after : List ℕ) → pending ≡ text ++ 10 ∷ after → IsFrameLine line text → line.len ≤ length after
    → frame.asker ≡ line.asker → frame.payload ≡ take line.len after → IsFrame frame × (pending ≡ frame_bytes frame ++ drop line.len after)
takes_frame frame line pending text after parts right enough asker payload =
    let long : length (take line.len after) ≡ line.len = (let is = length-take line.len after in omega (arith, is)) in
    let whole = is_frame frame line text right asker (ap (λ (l : List ℕ). length l) payload ∙ long) in
    let joined : (text ++ 10 ∷ take line.len after) ++ drop line.len after ≡ text ++ 10 ∷ after =
    append_assoc text (10 ∷ take line.len after) (drop line.len after) ∙ ap (λ t. text ++ 10 ∷ t) (take-append-drop line.len after) in
    (whole.0, parts ∙ (sym joined ∙ ap (λ t. t ++ drop line.len after) (ap (λ p. text ++ 10 ∷ p) (sym payload) ∙ whole.1)))

-- what is left of a part at the end of the input is no frame
pub part_is_bad : (pending : List ℕ) → 1 ≤ length pending → IsPart pending → IsBad pending
part_is_bad pending some (OfLine plain short) = bad_front (Some pending) (Some []) pending some plain (sym (append-nil pending)) (inr refl)
part_is_bad pending some (OfPayload line text payload right short parts) =
    bad_payload (Some pending) (Some payload) (Some []) text payload line (line_plain line text right) (parts ∙ sym (append_assoc text (10 ∷ []) payload)) right short (sym (append-nil payload)) refl
