-- A session that is served again, and one that is served in two halves.
use Rattle.std.proofs.Common.{◌≡◌, ◌∙◌, Bool, true, false, cond, refl, sym, ap, ap₂, subst, ℕ, List, [], ◌∷◌, ◌++◌, Option, Some, None}
use Rattle.std.specs.Prelude.{All}
use Rattle.std.proofs.lemmas.List.{append_assoc, append-nil, map-append}
use Rattle.std.proofs.lemmas.List.Concat.{flat_map-append}
use Rattle.std.proofs.lemmas.List.Elements.{All-append, All-cons, All-head, All-nil, All-tail}
use Rattle.fork_frame.specs.Frame.{IsFrame, IsRequestStream, frame_bytes}
use Rattle.fork_frame.specs.declared.asker.Asker.{Asker}
use Rattle.fork_frame.specs.declared.asker.Asker.TheVariants.{Tenant, Host}
use Rattle.fork_frame.specs.declared.session_end.Ended.{Ended}
use Rattle.fork_frame.specs.declared.session_end.Ended.TheVariants.{Clean}
use Rattle.fork_frame.specs.declared.frame.Frame.{Frame}
use Rattle.fork_host.specs.Shown.{HostState, Trusted, world_of}
use Rattle.fork_host.specs.Step.{IsRun}
use Rattle.fork_host.proofs.StepLemmas.{run_explained, run_joined as states_joined}
use Rattle.fork_wire.specs.Again.{AreSettled, is_settled, is_settled_host, settled}
use Rattle.fork_wire.specs.Kept.{is_kept, is_kept_of, kept_of, replies_kept}
use Rattle.fork_wire.specs.Sessions.{IsAnswered, event_of, events_of}
use Rattle.fork_wire.proofs.Going.{answered_so_far}
use Rattle.fork_wire.proofs.Leaving.{step_leaves}
use Rattle.std.specs.FinMap.{get, insert}
use Rattle.git_name.specs.Name.{name_cmp}
use Rattle.fork_request.specs.Asked.{Ask}
use Rattle.fork_request.specs.Told.{is_host_fault}
use Rattle.fork_request.specs.declared.host_request.HostRequest.{HostRequest}
use Rattle.fork_request.specs.declared.host_request.HostRequest.TheVariants.{Sweep, Collect, Census, Fsck, Tenants, Bad}
use Rattle.fork_request.specs.declared.refusal.Refusal.TheVariants.{UnknownTenant}
use Rattle.fork_request.specs.declared.reply.Reply.{Reply}
use Rattle.fork_request.specs.declared.reply.Reply.TheVariants.{Done, Unchanged, Refused, Failed}
use Rattle.fork_model.specs.Answer.{answer}
use Rattle.fork_model.specs.Context.{met_by}
use Rattle.fork_model.specs.Runs.{Asks, HostAsks, Answered, Unknown, Faulted, TenantStep, OwnStep, HostAnswered, HostFaulted}
use Rattle.fork_model.specs.World.{AreFine, Event, Explains, HostSays, Steps, World}

one_value : {X : Type 0} (o : Option X) (x y : X) → o ≡ Some x → o ≡ Some y → x ≡ y
one_value o x y is other = cc

none_value : {X : Type 0} (o : Option X) (x : X) → o ≡ None → o ≡ Some x → ⊥
none_value o x is other = cc

true_false : (b : Bool) → b ≡ true → b ≡ false → ⊥
true_false b is other = cc

same_answer : (old new new2 : World) (name : List ℕ) (ask : Ask) (reply reply2 : Reply) → TenantStep name_cmp met_by answer (Refused UnknownTenant) is_host_fault old name ask reply new → TenantStep name_cmp met_by answer (Refused UnknownTenant) is_host_fault old name ask reply2 new2
    → is_host_fault reply ≡ false → is_host_fault reply2 ≡ false → (reply ≡ reply2) × (new ≡ new2)
same_answer old new new2 name ask reply reply2 (Answered view here told set) (Answered view2 here2 told2 set2) fine fine2 =
    let same = one_value (get old name) view view2 here here2 in
    (told ∙ ap (λ v. (answer (met_by old name) v ask).0) same ∙ sym told2, set ∙ ap (λ v. insert old name (answer (met_by old name) v ask).1) same ∙ sym set2)
same_answer old new new2 name ask reply reply2 (Answered view here told set) (Unknown none told2 stays) fine fine2 = absurd (none_value (get old name) view none here)
same_answer old new new2 name ask reply reply2 (Unknown none told stays) (Answered view here told2 set) fine fine2 = absurd (none_value (get old name) view none here)
same_answer old new new2 name ask reply reply2 (Unknown none told stays) (Unknown none2 told2 stays2) fine fine2 = (told ∙ sym told2, stays ∙ sym stays2)
same_answer old new new2 name ask reply reply2 (Faulted bad stays) other fine fine2 = absurd (true_false (is_host_fault reply) bad fine)
same_answer old new new2 name ask reply reply2 (Answered view here told set) (Faulted bad stays) fine fine2 = absurd (true_false (is_host_fault reply2) bad fine2)
same_answer old new new2 name ask reply reply2 (Unknown none told stays) (Faulted bad stays2) fine fine2 = absurd (true_false (is_host_fault reply2) bad fine2)

-- what is settled is told alike
same_saying : (world : World) (ask : HostRequest) (reply reply2 : Reply) → is_settled_host ask ≡ true → HostSays world ask reply → HostSays world ask reply2 → reply ≡ reply2
same_saying world Tenants reply reply2 is says says2 = says ∙ sym says2
same_saying world Bad reply reply2 is says says2 = says ∙ sym says2
same_saying world (Sweep most) reply reply2 is says says2 = absurd (cc)
same_saying world Collect reply reply2 is says says2 = absurd (cc)
same_saying world Census reply reply2 is says says2 = absurd (cc)
same_saying world Fsck reply reply2 is says says2 = absurd (cc)

-- a step without a host fault has one outcome
same_own : (old new new2 : World) (ask : HostRequest) (reply reply2 : Reply) → OwnStep is_host_fault HostSays old ask reply new → OwnStep is_host_fault HostSays old ask reply2 new2
    → is_host_fault reply ≡ false → is_host_fault reply2 ≡ false → (is_settled_host ask ≡ true → reply ≡ reply2) × (new ≡ new2)
same_own old new new2 ask reply reply2 (HostAnswered says stays) (HostAnswered says2 stays2) fine fine2 = (λ is. same_saying old ask reply reply2 is says says2, stays ∙ sym stays2)
same_own old new new2 ask reply reply2 (HostFaulted bad stays) other fine fine2 = absurd (true_false (is_host_fault reply) bad fine)
same_own old new new2 ask reply reply2 (HostAnswered says stays) (HostFaulted bad stays2) fine fine2 = absurd (true_false (is_host_fault reply2) bad fine2)

same_step : (old new new2 : World) (event : Event) (reply reply2 : Reply) → Steps old event reply new → Steps old event reply2 new2 → is_host_fault reply ≡ false → is_host_fault reply2 ≡ false
    → (is_settled event ≡ true → reply ≡ reply2) × (new ≡ new2)
same_step old new new2 (Asks name ask) reply reply2 step step2 fine fine2 = (let same = same_answer old new new2 name ask reply reply2 step step2 fine fine2 in (λ is. same.0, same.1))
same_step old new new2 (HostAsks ask) reply reply2 step step2 fine fine2 = same_own old new new2 ask reply reply2 step step2 fine fine2

-- and so has a run
pub same_world_run : (old new old2 new2 : World) (events : List Event) (replies replies2 : List Reply) → old ≡ old2 → Explains old events replies new → Explains old2 events replies2 new2 → AreFine replies → AreFine replies2 → new ≡ new2
same_world_run old new old2 new2 [] [] [] same run run2 fine fine2 = run ∙ same ∙ sym run2
same_world_run old new old2 new2 [] [] (r ∷ replies2) same run run2 fine fine2 = absurd run2
same_world_run old new old2 new2 [] (r ∷ replies) replies2 same run run2 fine fine2 = absurd run
same_world_run old new old2 new2 (e ∷ events) [] replies2 same run run2 fine fine2 = absurd run
same_world_run old new old2 new2 (e ∷ events) (r ∷ replies) [] same run run2 fine fine2 = absurd run2
same_world_run old new old2 new2 (e ∷ events) (r ∷ replies) (s ∷ replies2) same run run2 fine fine2 =
    let step = same_step old run.0 run2.0 e r s run.1 (subst (λ w. Steps w e s run2.0) (sym same) run2.1) fine.0 fine2.0 in
    same_world_run run.0 new run2.0 new2 events replies replies2 step.1 run.2 run2.2 fine.1 fine2.1

-- with the same replies, where they are settled
settled_front : (b : Bool) (reply reply2 : Reply) (replies replies2 : List Reply) → (b ≡ true → reply ≡ reply2) → replies ≡ replies2 → cond b (reply ∷ replies) replies ≡ cond b (reply2 ∷ replies2) replies2
settled_front true reply reply2 replies replies2 one rest = ap₂ (λ (head : Reply) (tail : List Reply). head ∷ tail) (one refl) rest
settled_front false reply reply2 replies replies2 one rest = rest

pub same_run : (old new old2 new2 : World) (events : List Event) (replies replies2 : List Reply) → old ≡ old2 → Explains old events replies new → Explains old2 events replies2 new2 → AreFine replies → AreFine replies2
    → (settled events replies ≡ settled events replies2) × (AreSettled events → replies ≡ replies2)
same_run old new old2 new2 [] [] [] same run run2 fine fine2 = (refl, λ are. refl)
same_run old new old2 new2 [] [] (r ∷ replies2) same run run2 fine fine2 = absurd run2
same_run old new old2 new2 [] (r ∷ replies) replies2 same run run2 fine fine2 = absurd run
same_run old new old2 new2 (e ∷ events) [] replies2 same run run2 fine fine2 = absurd run
same_run old new old2 new2 (e ∷ events) (r ∷ replies) [] same run run2 fine fine2 = absurd run2
same_run old new old2 new2 (e ∷ events) (r ∷ replies) (s ∷ replies2) same run run2 fine fine2 =
    let step = same_step old run.0 run2.0 e r s run.1 (subst (λ w. Steps w e s run2.0) (sym same) run2.1) fine.0 fine2.0 in
    let rest = same_run run.0 new run2.0 new2 events replies replies2 step.1 run.2 run2.2 fine.1 fine2.1 in
    (settled_front (is_settled e) r s (settled events replies) (settled events replies2) step.0 rest.0, λ are. ap₂ (λ (head : Reply) (tail : List Reply). head ∷ tail) (step.0 are.0) (rest.1 are.1))

-- two runs, one behind the other, are one
pub run_joined : (old mid new : World) (events more : List Event) (replies others : List Reply) → Explains old events replies mid → Explains mid more others new → Explains old (events ++ more) (replies ++ others) new
run_joined old mid new [] more [] others run rest = subst (λ w. Explains w more others new) run rest
run_joined old mid new [] more (r ∷ replies) others run rest = absurd run
run_joined old mid new (e ∷ events) more [] others run rest = absurd run
run_joined old mid new (e ∷ events) more (r ∷ replies) others run rest = (run.0, run.1, run_joined run.0 mid new events more replies others run.2 rest)

-- one frame more at the front: where it is kept the run has its step, and where not its step leaves the world
kept_front : (old mid new : World) (frame : Frame) (reply : Reply) (frames : List Frame) (replies : List Reply) (b : Bool) → is_kept frame reply ≡ b → Steps old (event_of frame) reply mid → Explains mid (events_of frames) replies new
    → Explains old (events_of (cond b (frame ∷ frames) frames)) (cond b (reply ∷ replies) replies) new
kept_front old mid new frame reply frames replies true is step run = (mid, step, run)
kept_front old mid new frame reply frames replies false is step run = subst (λ w. Explains w (events_of frames) replies new) (step_leaves old mid frame.asker frame.payload reply step is) run

pub kept_run : (old new : World) (frames : List Frame) (replies : List Reply) → Explains old (events_of frames) replies new → Explains old (events_of (kept_of frames replies)) (replies_kept frames replies) new
kept_run old new [] [] run = run
kept_run old new [] (r ∷ replies) run = absurd run
kept_run old new (f ∷ frames) [] run = absurd run
kept_run old new (f ∷ frames) (r ∷ replies) run =
    kept_front old run.0 new f r (kept_of frames replies) (replies_kept frames replies) (is_kept f r) refl run.1 (kept_run run.0 new frames replies run.2)

-- a host fault is never kept
kept_fine : (asker : Asker) (payload : List ℕ) (reply : Reply) → is_kept_of asker payload reply ≡ true → is_host_fault reply ≡ false
kept_fine (Tenant name) payload (Done text) is = refl
kept_fine (Tenant name) payload Unchanged is = refl
kept_fine (Tenant name) payload (Refused refusal) is = refl
kept_fine (Tenant name) payload (Failed fault) is = absurd (cc)
kept_fine Host payload reply is = absurd (cc)

fine_front : (frame : Frame) (reply : Reply) (replies : List Reply) (b : Bool) → is_kept frame reply ≡ b → AreFine replies → AreFine (cond b (reply ∷ replies) replies)
fine_front frame reply replies true is fine = (kept_fine frame.asker frame.payload reply is, fine)
fine_front frame reply replies false is fine = fine

pub fine_kept : (frames : List Frame) (replies : List Reply) → AreFine (replies_kept frames replies)
fine_kept [] replies = tt
fine_kept (f ∷ frames) [] = tt
fine_kept (f ∷ frames) (r ∷ replies) = fine_front f r (replies_kept frames replies) (is_kept f r) refl (fine_kept frames replies)

-- what is kept of right frames are right frames
right_front : (frame : Frame) (frames : List Frame) (b : Bool) → IsFrame frame → All IsFrame frames → All IsFrame (cond b (frame ∷ frames) frames)
right_front frame frames true right all = All-cons IsFrame frame frames right all
right_front frame frames false right all = all

pub right_kept : (frames : List Frame) (replies : List Reply) → All IsFrame frames → All IsFrame (kept_of frames replies)
right_kept [] replies all = All-nil IsFrame
right_kept (f ∷ frames) [] all = All-nil IsFrame
right_kept (f ∷ frames) (r ∷ replies) all = right_front f (kept_of frames replies) (is_kept f r) (All-head IsFrame f frames all) (right_kept frames replies (All-tail IsFrame f frames all))

-- two sessions of host states
pub joined : (old mid new : HostState) (frames others : List Frame) (replies more : List Reply) → IsAnswered old mid frames replies → IsAnswered mid new others more → IsAnswered old new (frames ++ others) (replies ++ more)
joined old mid new frames others replies more one other =
    answered_so_far old new (frames ++ others) (replies ++ more)
    (subst (λ es. IsRun old es (replies ++ more) new) (sym (map-append event_of frames others)) (states_joined old mid new (events_of frames) (events_of others) replies more one.ran other.ran))

-- what was answered over an honest store is a run of the world
pub explained_of : (old new : HostState) (frames : List Frame) (replies : List Reply) → IsAnswered old new frames replies → Trusted old → Explains (world_of old) (events_of frames) replies (world_of new)
explained_of old new frames replies one trusted = run_explained old new (events_of frames) replies one.ran trusted

-- two streams, of which the first ends behind a whole frame
pub streams_joined : (input more : List ℕ) (frames others : List Frame) (ended : Ended) → IsRequestStream input frames Clean → IsRequestStream more others ended → IsRequestStream (input ++ more) (frames ++ others) ended
streams_joined input more frames others ended one other = record {
  came = one.came ++ other.came;
  rest = other.rest;
  parts = ap₂ (λ (a b : List ℕ). a ++ b) (one.parts ∙ ap (λ (r : List ℕ). one.came ++ r) one.ends ∙ append-nil one.came) other.parts ∙ sym (append_assoc one.came other.came other.rest);
  right = record {
    right = All-append IsFrame frames others one.right.right other.right.right;
    spelled = ap₂ (λ (a b : List ℕ). a ++ b) one.right.spelled other.right.spelled ∙ sym (flat_map-append frame_bytes frames others);
  };
  ends = other.ends;
}

pub served_again : (old new : HostState) (frames : List Frame) (replies : List Reply) (old2 new2 : HostState) (replies2 : List Reply) → IsAnswered old new frames replies → AreFine replies → IsAnswered old2 new2 frames replies2 → AreFine replies2
    → Trusted old → Trusted old2 → world_of old ≡ world_of old2 → (settled (events_of frames) replies ≡ settled (events_of frames) replies2) × (AreSettled (events_of frames) → replies ≡ replies2)
served_again old new frames replies old2 new2 replies2 one fine other fine2 trusted trusted2 same =
    same_run (world_of old) (world_of new) (world_of old2) (world_of new2) (events_of frames) replies replies2 same (explained_of old new frames replies one trusted) (explained_of old2 new2 frames replies2 other trusted2) fine fine2

pub worlds_again : (old new : HostState) (frames : List Frame) (replies : List Reply) (old2 new2 : HostState) (replies2 : List Reply) → IsAnswered old new frames replies → AreFine replies → IsAnswered old2 new2 frames replies2 → AreFine replies2
    → Trusted old → Trusted old2 → world_of old ≡ world_of old2 → world_of new ≡ world_of new2
worlds_again old new frames replies old2 new2 replies2 one fine other fine2 trusted trusted2 same =
    same_world_run (world_of old) (world_of new) (world_of old2) (world_of new2) (events_of frames) replies replies2 same (explained_of old new frames replies one trusted) (explained_of old2 new2 frames replies2 other trusted2) fine fine2

pub kept_again : (old new : HostState) (frames : List Frame) (replies : List Reply) (old2 new2 : HostState) (replies2 : List Reply) → IsAnswered old new frames replies → IsAnswered old2 new2 (kept_of frames replies) replies2 → AreFine replies2
    → Trusted old → Trusted old2 → world_of old ≡ world_of old2 → world_of new ≡ world_of new2
kept_again old new frames replies old2 new2 replies2 one other fine2 trusted trusted2 same =
    same_world_run (world_of old) (world_of new) (world_of old2) (world_of new2) (events_of (kept_of frames replies)) (replies_kept frames replies) replies2 same
    (kept_run (world_of old) (world_of new) frames replies (explained_of old new frames replies one trusted)) (explained_of old2 new2 (kept_of frames replies) replies2 other trusted2) (fine_kept frames replies) fine2
