-- What a tenant is told in two sessions.
use Rattle.std.proofs.Common.{◌≡◌, ◌∙◌, Bool, true, false, cond, ℕ, List, [], ◌∷◌, map, refl, sym, ap}
use Rattle.std.specs.Ordering.{eq_by_cmp}
use Rattle.git_name.specs.Name.{name_cmp}
use Rattle.fork_request.specs.Asked.{Ask, asked}
use Rattle.fork_request.specs.declared.reply.Reply.{Reply}
use Rattle.fork_model.specs.World.{Agree, Explains, IsUnfaulted, LeavesOffers, own}
use Rattle.fork_model.specs.Disclosure.{happenings}
use Rattle.fork_model.proofs.DisclosureLemmas.{runs_agree_happened}
use Rattle.fork_model.proofs.Meetings.{runs_agree}
use Rattle.fork_host.specs.Shown.{HostState, Trusted, world_of}
use Rattle.fork_frame.specs.declared.asker.Asker.{Asker}
use Rattle.fork_frame.specs.declared.asker.Asker.TheVariants.{Tenant, Host}
use Rattle.fork_frame.specs.declared.frame.Frame.{Frame}
use Rattle.fork_wire.proofs.AgainLemmas.{explained_of}
use Rattle.fork_wire.specs.Sessions.{IsAnswered, event_by, events_of, frames_of, is_of, payloads_of, told_to}

asked_once : (payload : List ℕ) (asks : List Ask) (payloads : List (List ℕ)) (b : Bool) → asks ≡ map asked payloads → cond b (asked payload ∷ asks) asks ≡ map asked (cond b (payload ∷ payloads) payloads)
asked_once payload asks payloads true is = ap (λ rest. asked payload ∷ rest) is
asked_once payload asks payloads false is = is

asked_by : (tenant : List ℕ) (asker : Asker) (payload : List ℕ) (frames : List Frame) → own tenant (events_of frames) ≡ map asked (payloads_of tenant frames)
    → own tenant (event_by asker payload ∷ events_of frames) ≡ map asked (cond (is_of tenant asker) (payload ∷ payloads_of tenant frames) (payloads_of tenant frames))
asked_by tenant (Tenant name) payload frames is = asked_once payload (own tenant (events_of frames)) (payloads_of tenant frames) (eq_by_cmp name_cmp tenant name) is
asked_by tenant Host payload frames is = is

-- what a tenant asks is what its payloads ask
own_sent : (tenant : List ℕ) (frames : List Frame) → own tenant (events_of frames) ≡ map asked (payloads_of tenant frames)
own_sent tenant [] = refl
own_sent tenant (frame ∷ frames) = asked_by tenant frame.asker frame.payload frames (own_sent tenant frames)

pub sessions_agree : (tenant : List ℕ) (old new : HostState) (frames : List Frame) (replies : List Reply) (old2 new2 : HostState) (frames2 : List Frame) (replies2 : List Reply)
    → IsAnswered old new frames replies → IsUnfaulted tenant (events_of frames) replies → LeavesOffers tenant (events_of frames) replies → IsAnswered old2 new2 frames2 replies2 → IsUnfaulted tenant (events_of frames2) replies2 → LeavesOffers tenant (events_of frames2) replies2
    → Trusted old → Trusted old2 → Agree tenant (world_of old) (world_of old2) → payloads_of tenant frames ≡ payloads_of tenant frames2
    → (told_to tenant frames replies ≡ told_to tenant frames2 replies2) × Agree tenant (world_of new) (world_of new2)
sessions_agree tenant old new frames replies old2 new2 frames2 replies2 one fine leaves other fine2 leaves2 trusted trusted2 agree same =
    let asks = own_sent tenant frames ∙ ap (map asked) same ∙ sym (own_sent tenant frames2) in
    let both = runs_agree tenant (world_of old) (world_of new) (events_of frames) replies (world_of old2) (world_of new2) (events_of frames2) replies2
    (explained_of old new frames replies one trusted) fine leaves (explained_of old2 new2 frames2 replies2 other trusted2) fine2 leaves2 agree asks in
    (ap frames_of both.0, both.1)

-- and where the same happens to it, offers that are made to it and withdrawn among that
pub sessions_agree_happened : (tenant : List ℕ) (old new : HostState) (frames : List Frame) (replies : List Reply) (old2 new2 : HostState) (frames2 : List Frame) (replies2 : List Reply)
    → (run : Explains (world_of old) (events_of frames) replies (world_of new)) → IsUnfaulted tenant (events_of frames) replies → (run2 : Explains (world_of old2) (events_of frames2) replies2 (world_of new2)) → IsUnfaulted tenant (events_of frames2) replies2
    → Agree tenant (world_of old) (world_of old2) → happenings tenant (world_of old) (events_of frames) replies (world_of new) run ≡ happenings tenant (world_of old2) (events_of frames2) replies2 (world_of new2) run2
    → (told_to tenant frames replies ≡ told_to tenant frames2 replies2) × Agree tenant (world_of new) (world_of new2)
sessions_agree_happened tenant old new frames replies old2 new2 frames2 replies2 run fine run2 fine2 agree same =
    let both = runs_agree_happened tenant (world_of old) (world_of new) (events_of frames) replies (world_of old2) (world_of new2) (events_of frames2) replies2 run fine run2 fine2 agree same in
    (ap frames_of both.0, both.1)
