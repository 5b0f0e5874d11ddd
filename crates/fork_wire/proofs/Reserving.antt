-- Frames that are served again, one by one.
use Rattle.std.proofs.Common.{◌≡◌, ◌≤◌, ◌⊎◌, inl, inr, false, Option, None, Some, ℕ, ◌+◌, List, [], ◌∷◌, ◌++◌, length, length-append, refl, sym, subst, arith}
use Rattle.std.specs.Prelude.{IfSome}
use Rattle.std.specs.Io.KnownBytes.{Consumes, IsAtEnd}
use Rattle.fork_model.specs.World.{AreFine}
use Rattle.fork_request.specs.Told.{is_host_fault}
use Rattle.fork_request.specs.declared.reply.Reply.{Reply}
use Rattle.fork_host.specs.Shown.{HostState}
use Rattle.fork_frame.specs.Frame.{EndsAt, IsBad, IsFrame, IsRequestStream, frame_bytes}
use Rattle.fork_frame.specs.declared.session_end.Ended.{Ended}
use Rattle.fork_frame.specs.declared.session_end.Ended.TheVariants.{Clean, BadFrame}
use Rattle.fork_frame.specs.declared.frame.Frame.{Frame}
use Rattle.fork_frame.proofs.StreamLemmas.{ends_clean, is_stream}
use Rattle.fork_wire.specs.Again.{IsAnsweredAgain, IsServedAgain}
use Rattle.fork_wire.proofs.Going.{Going, answered_so_far, going_more, not_yet}

-- so many frames were answered, and none by a host fault; nothing is known of a writer or a journal
pub record Reserving (old new : HostState) (input left : Option (List ℕ)) (count : ℕ) : Type 0 where
  pub going : Going old new input left None None None None
  pub fine : AreFine going.replies
  pub number : length going.frames ≡ count

pub none_again : (host : HostState) (input : Option (List ℕ)) → Reserving host host input input 0
unfolding not_yet
none_again host input = record { going = not_yet host input None None; fine = tt; number = refl }

fine_more : (replies : List Reply) (reply : Reply) → AreFine replies → is_host_fault reply ≡ false → AreFine (replies ++ reply ∷ [])
fine_more [] reply fine last = (last, tt)
fine_more (r ∷ replies) reply fine last = (fine.0, fine_more replies reply fine.1 last)

one_more : (frames : List Frame) (frame : Frame) (count : ℕ) → length frames ≡ count → length (frames ++ frame ∷ []) ≡ count + 1
one_more frame_list frame count is = omega (arith, length-append frame_list (frame ∷ []))

pub more_again : (old mid new : HostState) (input left still_left : Option (List ℕ)) (count : ℕ) (frame : Frame) → Reserving old mid input left count → IsFrame frame → Consumes left still_left (frame_bytes frame) → IsAnsweredAgain mid new frame
    → Reserving old new input still_left (count + 1)
unfolding going_more
more_again old mid new input left still_left count frame so_far right taken again = record {
  going = going_more old mid new input left still_left None None None None None None frame again.reply so_far.going right taken again.step tt tt;
  fine = fine_more so_far.going.replies again.reply so_far.fine again.fine;
  number = one_more so_far.going.frames frame count so_far.number;
}

-- the stream that was served
stream_of_input : (input left : Option (List ℕ)) (came : List ℕ) (frames : List Frame) (ended : Ended) → IfSome input (λ bytes. IsRequestStream bytes frames ended) → IfSome input (λ bytes. (ended : Ended) × IsRequestStream bytes frames ended)
stream_of_input None left came frames ended stream = tt
stream_of_input (Some bytes) left came frames ended stream = (ended, stream)

ended_again : (old new : HostState) (input left : Option (List ℕ)) (count : ℕ) (ended : Ended) → Reserving old new input left count → IfSome left (EndsAt ended) → IsServedAgain old new input count
ended_again old new input left count ended so_far ends = record {
  frames = so_far.going.frames;
  replies = so_far.going.replies;
  answered = answered_so_far old new so_far.going.frames so_far.going.replies so_far.going.ran;
  fine = so_far.fine;
  number = so_far.number;
  read = stream_of_input input left so_far.going.came so_far.going.frames ended (is_stream input left so_far.going.came so_far.going.frames ended so_far.going.taken so_far.going.right ends);
}

pub clean_again : (old new : HostState) (input left : Option (List ℕ)) (count : ℕ) → Reserving old new input left count → IsAtEnd left → IsServedAgain old new input count
clean_again old new input left count so_far end = ended_again old new input left count Clean so_far (ends_clean left end)

pub bad_again : (old new : HostState) (input left : Option (List ℕ)) (count : ℕ) → Reserving old new input left count → IfSome left IsBad → IsServedAgain old new input count
bad_again old new input left count so_far bad = ended_again old new input left count BadFrame so_far bad

pub at_most_one : (n : ℕ) {A B : Type 0} → ((n ≡ 0) × A) ⊎ ((n ≡ 1) × B) → n ≤ 1
at_most_one n (inl none) = omega (arith, none.0)
at_most_one n (inr one) = omega (arith, one.0)

-- a frame that was answered, or passed over, after so many
pub one_or_none : (old mid new : HostState) (count more total : ℕ) (frame : Frame) → Reserving old mid None None count → IsFrame frame
    → ((more ≡ 0) × (new ≡ mid)) ⊎ ((more ≡ 1) × IsAnsweredAgain mid new frame) → total ≡ count + more → Reserving old new None None total
one_or_none old mid new count more total frame so_far right (inl passed) is =
    subst (λ (n : ℕ). Reserving old new None None n) (omega (arith, passed.0, is)) (subst (λ (host : HostState). Reserving old host None None count) (sym passed.1) so_far)
one_or_none old mid new count more total frame so_far right (inr answered) is =
    subst (λ (n : ℕ). Reserving old new None None n) (omega (arith, answered.0, is)) (more_again old mid new None None None count frame so_far right tt answered.1)
