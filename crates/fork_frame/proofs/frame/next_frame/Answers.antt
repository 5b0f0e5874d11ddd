use Rattle.std.proofs.Common.{[], ◌∷◌, ◌++◌, subst, refl}
use Rattle.std.proofs.lemmas.List.{append_assoc}
use Rattle.std.proofs.KnownBytes.{Consumes-trans}
use Rattle.std.specs.Io.KnownBytes.{Consumes}
use Rattle.fork_frame.proofs.FrameLemmas.{finds_no_line, finds_no_right_line, finds_short_payload, is_frame}
use Rattle.fork_frame.proofs.frame.next_frame.Goals as goal

pub returns-in-NoLine-clause-next : goal.returns-in-NoLine-clause-next
returns-in-NoLine-clause-next g c = finds_no_line _ _ (rw c.in-NoLine.is at c.in_ok-text.ensures.taken)

pub returns-in_default-clause-next : goal.returns-in_default-clause-next
returns-in_default-clause-next g c =
    let taken = rw c.in-Line.is at c.in_ok-text.ensures.taken in
    finds_no_right_line _ _ c.in-Line.text taken.0 taken.1 taken.2 (rw c.as_bytes.ensures at c.in_default.ensures.none)

pub returns-in_default-2-clause-next : goal.returns-in_default-2-clause-next
returns-in_default-2-clause-next g c =
    let taken = rw c.in-Line.is at c.in_ok-text.ensures.taken in
    let short = rw c.in_default-2.is at c.in_ok-payload.ensures.none in
    let text = c.in-Line.text in
    finds_short_payload _ _ _ text short.0 c.in-Some.line taken.0 taken.2 (rw c.as_bytes.ensures at c.in-Some.ensures.found) short.1 short.2 short.3
    (subst (Consumes _ _) (append_assoc text (10 ∷ []) short.0) (Consumes-trans _ _ _ (text ++ 10 ∷ []) short.0 taken.2 short.2))

pub returns-clause-next : goal.returns-clause-next
returns-clause-next g c =
    let taken = rw c.in-Line.is at c.in_ok-text.ensures.taken in
    let text = c.in-Line.text in
    let payload = c.in-Some-2.payload in
    let whole = rw c.in-Some-2.is at c.in_ok-payload.ensures.some in
    let frame = is_frame (record { asker = c.in-Some.line.asker; payload = payload }) c.in-Some.line text (rw c.as_bytes.ensures at c.in-Some.ensures.found) refl whole.0 in
    (frame.0, subst (Consumes _ _) frame.1 (subst (Consumes _ _) (append_assoc text (10 ∷ []) payload) (Consumes-trans _ _ _ (text ++ 10 ∷ []) payload taken.2 whole.1)))
