-- A session continues by one frame, and ends.
use Rattle.std.specs.Prelude.{IfSome}
use Rattle.std.proofs.Common.{◌≡◌, ◌≢◌, Option, Some, None, inl, inr, refl, ℕ, List, [], ◌∷◌, ◌++◌, sym, ap, ◌∙◌, subst, length}
use Rattle.std.proofs.lemmas.Grind.{flat_map-append}
use Rattle.std.proofs.lemmas.List.{append-nil, map-append}
use Rattle.std.proofs.KnownBytes.{Appends-kept, Appends-nil, Appends-trans, Consumes-nil, Consumes-trans}
use Rattle.std.specs.Io.KnownBytes.{Appends, Consumes, Keeps}
use Rattle.fork_request.specs.Told.{bytes_of}
use Rattle.fork_request.specs.declared.reply.Reply.{Reply}
use Rattle.fork_model.specs.World.{World, Event, Explains}
use Rattle.fork_model.proofs.Meetings.{run_alone, run_private}
use Rattle.fork_host.specs.Shown.{HostState, world_of}
use Rattle.fork_host.specs.Step.{IsRun, IsStep}
use Rattle.fork_host.proofs.StepLemmas.{run_explained, run_more}
use Rattle.fork_frame.specs.declared.frame.Frame.{Frame}
use Rattle.fork_frame.specs.Frame.{AreFrames, IsFrame, frame_bytes}
use Rattle.fork_frame.specs.Reply.{WritesFront, reply_frame}
use Rattle.fork_frame.proofs.StreamLemmas.{frames_more, no_frames}
use Rattle.fork_wire.specs.declared.fault.SessionFault.{SessionFault}
use Rattle.fork_wire.specs.declared.fault.SessionFault.TheVariants.{Read, Write, Memory, Journal}
use Rattle.fork_wire.proofs.KeptLemmas.{kept_more, one_longer}
use Rattle.fork_wire.specs.Kept.{kept_bytes, kept_one}
use Rattle.fork_wire.specs.Sessions.{BeginsWith, IsAnswered, IsPrivateRun, IsStopped, IsTelling, LacksReply, event_of, events_of, frames_of}

-- what came so far was answered by what went out so far, and the journal has what is to be kept of it
pub record Going (old new : HostState) (input left before after first now : Option (List ℕ)) : Type 0 where
  pub frames : List Frame
  pub replies : List Reply
  pub came : List ℕ
  pub right : AreFrames frames came
  pub taken : Consumes input left came
  pub ran : IsRun old (events_of frames) replies new
  pub written : Appends before after (frames_of replies)
  pub equal : length frames ≡ length replies
  pub kept : Appends first now (kept_bytes frames replies)

one_reply : (reply : Reply) → frames_of (reply ∷ []) ≡ reply_frame (bytes_of reply)
one_reply reply = append-nil (reply_frame (bytes_of reply))

pub replies_more : (replies : List Reply) (reply : Reply) → frames_of (replies ++ reply ∷ []) ≡ frames_of replies ++ reply_frame (bytes_of reply)
replies_more replies reply = flat_map-append (λ r. reply_frame (bytes_of r)) replies (reply ∷ []) ∙ ap (λ bytes. frames_of replies ++ bytes) (one_reply reply)

events_more : (frames : List Frame) (frame : Frame) → events_of (frames ++ frame ∷ []) ≡ events_of frames ++ event_of frame ∷ []
events_more frames frame = map-append event_of frames (frame ∷ [])

-- a frame more was answered
pub run_on : (old mid new : HostState) (frames : List Frame) (replies : List Reply) (frame : Frame) (reply : Reply) → IsRun old (events_of frames) replies mid → IsStep mid (event_of frame) reply new
    → IsRun old (events_of (frames ++ frame ∷ [])) (replies ++ reply ∷ []) new
run_on old mid new frames replies frame reply so_far step =
    subst (λ events. IsRun old events (replies ++ reply ∷ []) new) (sym (events_more frames frame)) (run_more old mid new (events_of frames) replies (event_of frame) reply so_far step)

-- and kept
pub kept_on : (first then now : Option (List ℕ)) (frames : List Frame) (replies : List Reply) (frame : Frame) (reply : Reply) → length frames ≡ length replies → Appends first then (kept_bytes frames replies) → Appends then now (kept_one frame reply)
    → Appends first now (kept_bytes (frames ++ frame ∷ []) (replies ++ reply ∷ []))
kept_on first then now frames replies frame reply equal kept more =
    subst (Appends first now) (sym (kept_more frames replies frame reply equal)) (Appends-trans first then now (kept_bytes frames replies) (kept_one frame reply) kept more)

-- and its reply went out
unfoldable pub going_more : (old mid new : HostState) (input left still_left before during after first then now : Option (List ℕ)) (frame : Frame) (reply : Reply) → Going old mid input left before during first then → IsFrame frame → Consumes left still_left (frame_bytes frame)
    → IsStep mid (event_of frame) reply new → Appends during after (reply_frame (bytes_of reply)) → Appends then now (kept_one frame reply)
    → Going old new input still_left before after first now
going_more old mid new input left still_left before during after first then now frame reply so_far right taken step written kept = record {
  frames = so_far.frames ++ frame ∷ [];
  replies = so_far.replies ++ reply ∷ [];
  came = so_far.came ++ frame_bytes frame;
  right = frames_more so_far.frames so_far.came frame so_far.right right;
  taken = Consumes-trans input left still_left so_far.came (frame_bytes frame) so_far.taken taken;
  ran = run_on old mid new so_far.frames so_far.replies frame reply so_far.ran step;
  written = subst (Appends before after) (sym (replies_more so_far.replies reply)) (Appends-trans before during after (frames_of so_far.replies) (reply_frame (bytes_of reply)) so_far.written written);
  equal = one_longer so_far.frames so_far.replies frame reply so_far.equal;
  kept = kept_on first then now so_far.frames so_far.replies frame reply so_far.equal so_far.kept kept;
}

-- the input begins with the frames that were taken
pub begins_with : (input left : Option (List ℕ)) (came : List ℕ) (frames : List Frame) → Consumes input left came → AreFrames frames came → IfSome input (BeginsWith frames)
begins_with None left came frames taken right = tt
begins_with (Some bytes) None came frames taken right = absurd taken
begins_with (Some bytes) (Some rest) came frames taken right = (came, rest, right, taken)

-- a run is private
pub private_of : (old new : World) (events : List Event) (replies : List Reply) → Explains old events replies new → IsPrivateRun old events replies new
private_of old new events replies run = record {
  met = λ tenant view again here fine. run_private tenant old new events replies view again fine here;
  steady = λ tenant view here fine leaves. run_alone tenant old new events replies view run fine leaves here;
}

-- nothing was written
pub none_written : (a : Option (List ℕ)) (bytes : List ℕ) → WritesFront a a bytes
none_written a bytes = record { front = []; rest = bytes; parts = refl; written = Appends-nil a }

memory_apart : (fault : SessionFault) → fault ≡ Memory → fault ≡ Write → ⊥
memory_apart fault is other = cc

journal_apart : (fault : SessionFault) → fault ≡ Journal → fault ≡ Write → ⊥
journal_apart fault is other = cc

telling_more : (frames : List Frame) (frame : Frame) (input : Option (List ℕ)) → IsTelling (frames ++ frame ∷ []) input
telling_more [] frame input = tt
telling_more (first ∷ frames) frame input = tt

-- what was answered so far
pub answered_so_far : (old new : HostState) (frames : List Frame) (replies : List Reply) → IsRun old (events_of frames) replies new → IsAnswered old new frames replies
answered_so_far old new frames replies ran = record {
  ran = ran;
  private_run = λ trusted. private_of (world_of old) (world_of new) (events_of frames) replies (run_explained old new (events_of frames) replies ran trusted);
}

-- nothing was answered yet
unfoldable pub not_yet : (host : HostState) (input before first : Option (List ℕ)) → Going host host input input before before first first
not_yet host input before first = record {
  frames = [];
  replies = [];
  came = [];
  right = no_frames;
  taken = Consumes-nil input;
  ran = refl;
  written = Appends-nil before;
  equal = refl;
  kept = Appends-nil first;
}

-- a frame was answered, and its reply did not go out, or not wholly
pub unsent : (old mid new : HostState) (input left still_left before during after first then : Option (List ℕ)) (frame : Frame) (reply : Reply) (fault : SessionFault) → Going old mid input left before during first then → IsFrame frame → Consumes left still_left (frame_bytes frame)
    → IsStep mid (event_of frame) reply new → (fault ≡ Read → ⊥) → (fault ≢ Write → Keeps during after) → WritesFront during after (reply_frame (bytes_of reply)) → IsStopped old new input before after fault
unsent old mid new input left still_left before during after first then frame reply fault so_far right taken step other kept broken =
    let frames = so_far.frames ++ frame ∷ [] in
    let replies = so_far.replies ++ reply ∷ [] in
    let came = so_far.came ++ frame_bytes frame in
    let lacks : fault ≢ Write → LacksReply replies before after = λ is. record { sent = so_far.replies; last = reply; parts = refl; written = Appends-kept before during after (frames_of so_far.replies) so_far.written (kept is) } in
    record {
      frames = frames;
      replies = replies;
      answered = answered_so_far old new frames replies (run_on old mid new so_far.frames so_far.replies frame reply so_far.ran step);
      read = begins_with input still_left came frames (Consumes-trans input left still_left so_far.came (frame_bytes frame) so_far.taken taken) (frames_more so_far.frames so_far.came frame so_far.right right);
      written = λ is. absurd (other is);
      told = λ is. telling_more so_far.frames frame input;
      broken = λ is. inl (record { sent = so_far.replies; last = reply; parts = refl; mid = during; written = so_far.written; broken = broken });
      memory = λ is. inr (lacks (λ write. memory_apart fault is write));
      unkept = λ is. lacks (λ write. journal_apart fault is write);
    }

-- and it was kept
pub unsent_kept : (old mid new : HostState) (input left still_left before during after first then now : Option (List ℕ)) (frame : Frame) (reply : Reply) (fault : SessionFault) (so_far : Going old mid input left before during first then) → IsFrame frame → Consumes left still_left (frame_bytes frame)
    → IsStep mid (event_of frame) reply new → (fault ≡ Read → ⊥) → (fault ≢ Write → Keeps during after) → WritesFront during after (reply_frame (bytes_of reply)) → Appends then now (kept_one frame reply)
    → (session : IsStopped old new input before after fault) × Appends first now (kept_bytes session.frames session.replies)
unfolding unsent
unsent_kept old mid new input left still_left before during after first then now frame reply fault so_far right taken step other kept broken more = (
  unsent old mid new input left still_left before during after first then frame reply fault so_far right taken step other kept broken,
  kept_on first then now so_far.frames so_far.replies frame reply so_far.equal so_far.kept more,
)
