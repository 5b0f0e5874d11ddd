-- What stands for the frames that were kept leads to the same uploads.
use Rattle.std.proofs.Common.{◌≡◌, ◌∙◌, Bool, true, false, cond, not, ap, ap₂, refl, subst, sym, ℕ, ◌+◌, List, [], ◌∷◌, ◌++◌, Option, Some, None}
use Rattle.std.specs.Prelude.{codes, flat_map, length, nat_lt, option_map}
use Rattle.std.specs.FinMap.{get, get-insert}
use Rattle.std.specs.Ordering.{eq_by_cmp}
use Rattle.std.proofs.lemmas.List.Concat.{flat_map-cons}
use Rattle.git_name.specs.Name.{name_cmp}
use Rattle.git_name.proofs.Names.{name_total}
use Rattle.push_stream.specs.Upload.{UploadValue, continued}
use Rattle.fork_request.specs.Asked.{Ask, Inits, Drops, Forks, Pushes, SendsPart, EndsParts, DropsParts, Updates, SetsHead, MakesOffer, Withdraws, ForksOffer, AsksObject, AsksTree, AsksRevisions, AsksBases, AsksReferences, AsksHead, AsksOffers, AsksRepositories, Fetches, AsksUse, Prunes, NoRequest, asked}
use Rattle.fork_request.specs.Told.{is_host_fault}
use Rattle.fork_request.specs.declared.refusal.Refusal.TheVariants.{BadName, StagedTooLong, UnknownTenant}
use Rattle.fork_request.specs.declared.reply.Reply.{Reply}
use Rattle.fork_request.specs.declared.reply.Reply.TheVariants.{Done, Unchanged, Refused, Failed}
use Rattle.fork_reach.proofs.KeptObjects.{tied_names}
use Rattle.fork_model.specs.Answer.{answer, open_upload, part_answer, part_end_answer}
use Rattle.fork_model.specs.Context.{Context, met_by}
use Rattle.fork_model.specs.Provenance.{IsUploadFrom, Stays, Ends, GoesOn, part_in, ends_upload}
use Rattle.fork_model.specs.Runs.{Answered, Unknown, Faulted, TenantStep}
use Rattle.fork_model.specs.View.{View}
use Rattle.fork_model.specs.World.{AreFine, Explains, Steps, World}
use Rattle.fork_model.proofs.ProvenanceLemmas.{upload_from}
use Rattle.fork_frame.specs.declared.asker.Asker.{Asker}
use Rattle.fork_frame.specs.declared.asker.Asker.TheVariants.{Tenant, Host}
use Rattle.fork_frame.specs.declared.frame.Frame.{Frame}
use Rattle.fork_wire.specs.Kept.{is_kept, is_kept_of, kept_of, leaves}
use Rattle.fork_wire.specs.Sessions.{event_by, event_of, events_of}
use Rattle.fork_wire.specs.UploadLog.{CopiesAreEnough, Reopened, SameUploads, end_frame, stands_by, stands_for, upload_frames, upload_in}
use Rattle.fork_wire.proofs.Leaving.{step_leaves}

-- the upload after a request that was kept
abbrev after_ask : Ask → Option UploadValue → Option UploadValue
after_ask (SendsPart body) upload = Some (continued (open_upload upload) body)
after_ask (EndsParts repository) upload = None
after_ask DropsParts upload = None
after_ask ask upload = upload

-- a part goes on
part_after : (view : View) (body : List ℕ) (reply : Reply) (upload : Option UploadValue) → leaves (SendsPart body) reply ≡ false → IsUploadFrom view (SendsPart body, reply) upload → upload ≡ Some (continued (open_upload view.upload) body)
part_after view body (Done text) upload kept (Stays part end is) = absurd (cc)
part_after view body (Done text) upload kept (Ends end is) = absurd (cc)
part_after view body (Done text) upload kept (GoesOn more part is) = cc
part_after view body Unchanged upload kept from = absurd (cc)
part_after view body (Refused refusal) upload kept from = absurd (cc)
part_after view body (Failed fault) upload kept from = absurd (cc)

-- an end leaves none
end_after : (view : View) (repository : List ℕ) (reply : Reply) (upload : Option UploadValue) → leaves (EndsParts repository) reply ≡ false → IsUploadFrom view (EndsParts repository, reply) upload → upload ≡ None
end_after view repository (Done text) upload kept (Stays part end is) = absurd (cc)
end_after view repository (Done text) upload kept (Ends end is) = is
end_after view repository (Done text) upload kept (GoesOn more part is) = absurd (cc)
end_after view repository Unchanged upload kept from = absurd (cc)
end_after view repository (Refused refusal) upload kept (Stays part end is) = absurd (cc)
end_after view repository (Refused refusal) upload kept (Ends end is) = is
end_after view repository (Refused refusal) upload kept (GoesOn more part is) = absurd (cc)
end_after view repository (Failed fault) upload kept from = absurd (cc)

drop_after : (view : View) (reply : Reply) (upload : Option UploadValue) → leaves DropsParts reply ≡ false → IsUploadFrom view (DropsParts, reply) upload → upload ≡ None
drop_after view (Done text) upload kept (Stays part end is) = absurd (cc)
drop_after view (Done text) upload kept (Ends end is) = is
drop_after view (Done text) upload kept (GoesOn more part is) = absurd (cc)
drop_after view Unchanged upload kept from = absurd (cc)
drop_after view (Refused refusal) upload kept from = absurd (cc)
drop_after view (Failed fault) upload kept from = absurd (cc)

-- all other requests leave it
stays : (view : View) (ask : Ask) (reply : Reply) (upload : Option UploadValue) → part_in (ask, reply) ≡ [] → ends_upload (ask, reply) ≡ false → IsUploadFrom view (ask, reply) upload → upload ≡ view.upload
stays view ask reply upload no_part no_end (Stays part end is) = is
stays view ask reply upload no_part no_end (Ends end is) = absurd (cc)
stays view ask reply upload no_part no_end (GoesOn body part is) = absurd (cc)

goes_after : (view : View) (ask : Ask) (reply : Reply) (upload : Option UploadValue) → leaves ask reply ≡ false → IsUploadFrom view (ask, reply) upload → upload ≡ after_ask ask view.upload
goes_after view (Inits repository) reply upload kept from = stays view _ reply upload refl refl from
goes_after view (Drops repository) reply upload kept from = stays view _ reply upload refl refl from
goes_after view (Forks source copy) reply upload kept from = stays view _ reply upload refl refl from
goes_after view (Pushes repository body) reply upload kept from = stays view _ reply upload refl refl from
goes_after view (SendsPart body) reply upload kept from = part_after view body reply upload kept from
goes_after view (EndsParts repository) reply upload kept from = end_after view repository reply upload kept from
goes_after view DropsParts reply upload kept from = drop_after view reply upload kept from
goes_after view (Updates repository body) reply upload kept from = stays view _ reply upload refl refl from
goes_after view (SetsHead repository reference) reply upload kept from = stays view _ reply upload refl refl from
goes_after view (MakesOffer repository receiver) reply upload kept from = stays view _ reply upload refl refl from
goes_after view (Withdraws repository receiver) reply upload kept from = stays view _ reply upload refl refl from
goes_after view (ForksOffer giver repository copy) reply upload kept from = stays view _ reply upload refl refl from
goes_after view (AsksObject name) reply upload kept from = stays view _ reply upload refl refl from
goes_after view (AsksTree name) reply upload kept from = stays view _ reply upload refl refl from
goes_after view (AsksRevisions repository items) reply upload kept from = stays view _ reply upload refl refl from
goes_after view (AsksBases repository first second) reply upload kept from = stays view _ reply upload refl refl from
goes_after view (AsksReferences repository prefix) reply upload kept from = stays view _ reply upload refl refl from
goes_after view (AsksHead repository) reply upload kept from = stays view _ reply upload refl refl from
goes_after view AsksOffers reply upload kept from = stays view _ reply upload refl refl from
goes_after view AsksRepositories reply upload kept from = stays view _ reply upload refl refl from
goes_after view (Fetches repository items) reply upload kept from = stays view _ reply upload refl refl from
goes_after view AsksUse reply upload kept from = stays view _ reply upload refl refl from
goes_after view Prunes reply upload kept from = stays view _ reply upload refl refl from
goes_after view NoRequest reply upload kept from = stays view _ reply upload refl refl from

-- the uploads of a world after a tenant's request that was kept
abbrev upload_after : World → List ℕ → Ask → List ℕ → Option (Option UploadValue)
upload_after world name ask q = cond (eq_by_cmp name_cmp q name) (option_map (after_ask ask) (upload_in world q)) (upload_in world q)

fault_left : (ask : Ask) (reply : Reply) → is_host_fault reply ≡ true → leaves ask reply ≡ false → ⊥
fault_left ask (Done text) bad kept = cc
fault_left ask Unchanged bad kept = cc
fault_left ask (Refused refusal) bad kept = cc
fault_left ask (Failed fault) bad kept = cc

set_there : (old : World) (name : List ℕ) (ask : Ask) (view new : View) (q : List ℕ) → get old name ≡ Some view → new.upload ≡ after_ask ask view.upload → (b : Bool) → (b ≡ true → q ≡ name) → option_map (λ (v : View). v.upload) (cond b (Some new) (get old q)) ≡ cond b (option_map (after_ask ask) (upload_in old q)) (upload_in old q)
set_there old name ask view new q here is true same = ap Some is ∙ ap (λ (o : Option View). option_map (after_ask ask) (option_map (λ (v : View). v.upload) o)) (sym (ap (get old) (same refl) ∙ here))
set_there old name ask view new q here is false same = refl

none_there : (old : World) (name : List ℕ) (ask : Ask) (q : List ℕ) → get old name ≡ None → (b : Bool) → (b ≡ true → q ≡ name) → upload_in old q ≡ cond b (option_map (after_ask ask) (upload_in old q)) (upload_in old q)
none_there old name ask q none true same =
    let here = ap (get old) (same refl) ∙ none in
    ap (option_map (λ (v : View). v.upload)) here ∙ sym (ap (λ (o : Option View). option_map (after_ask ask) (option_map (λ (v : View). v.upload) o)) here)
none_there old name ask q none false same = refl

step_after : (old new : World) (name : List ℕ) (ask : Ask) (reply : Reply) → TenantStep name_cmp met_by answer (Refused UnknownTenant) is_host_fault old name ask reply new → leaves ask reply ≡ false → (q : List ℕ) → upload_in new q ≡ upload_after old name ask q
step_after old new name ask reply (Answered view here told set) kept q =
    ap (λ (w : World). upload_in w q) set
    ∙ ap (option_map (λ (v : View). v.upload)) (get-insert name_total old name _ q)
    ∙ set_there old name ask view _ q here (goes_after view ask reply _ kept (subst (λ r. IsUploadFrom view (ask, r) (answer (met_by old name) view ask).1.upload) (sym told) (upload_from (met_by old name) view ask))) (eq_by_cmp name_cmp q name) (tied_names q name)
step_after old new name ask reply (Unknown none told is) kept q = ap (λ (w : World). upload_in w q) is ∙ none_there old name ask q none (eq_by_cmp name_cmp q name) (tied_names q name)
step_after old new name ask reply (Faulted bad is) kept q = absurd (fault_left ask reply bad kept)

-- ---- what stands for one frame, in a world with the same uploads
-- the same request by itself, with a reply by which it would be kept too
abbrev IsAgain : World → List ℕ → Ask → World → Reply → Type 0
IsAgain again name ask after reply = (leaves ask reply ≡ false) × ((q : List ℕ) → upload_in after q ≡ upload_after again name ask q)

again_of : (again after : World) (name : List ℕ) (ask : Ask) (reply : Reply) → TenantStep name_cmp met_by answer (Refused UnknownTenant) is_host_fault again name ask reply after → leaves ask reply ≡ false → IsAgain again name ask after reply
again_of again after name ask reply step kept = (kept, step_after again after name ask reply step kept)

-- a part is answered by the upload alone
part_reply : (context : Context) (view : View) (body : List ℕ) → (answer context view (SendsPart body)).0 ≡ cond {A = Reply} (nat_lt 33554432 ((open_upload view.upload).count + length body)) (Refused StagedTooLong) (Done [])
unfolding answer part_answer
part_reply context view body = by (nat_lt 33554432 ((open_upload view.upload).count + length body))
  where
    by : (b : Bool) → (cond {A = Reply × View} b (Refused StagedTooLong, view) (Done [], record view { upload = Some (continued (open_upload view.upload) body) })).0 ≡ cond {A = Reply} b (Refused StagedTooLong) (Done [])
    by true = refl
    by false = refl

same_part : (context other : Context) (view more : View) (body : List ℕ) → more.upload ≡ view.upload → (answer other more (SendsPart body)).0 ≡ (answer context view (SendsPart body)).0
same_part context other view more body same =
    part_reply other more body
    ∙ ap (λ (u : Option UploadValue). cond {A = Reply} (nat_lt 33554432 ((open_upload u).count + length body)) (Refused StagedTooLong) (Done [])) same
    ∙ sym (part_reply context view body)

-- the view of a tenant of one world, in the other
its_view : (one other : Option View) (view : View) → one ≡ Some view → option_map (λ (v : View). v.upload) other ≡ option_map (λ (v : View). v.upload) one → (more : View) × (other ≡ Some more) × (more.upload ≡ view.upload)
its_view one None view here same = absurd (cc)
its_view one (Some more) view here same = (more, refl, cc)

found_apart : (o : Option View) (view : View) → o ≡ Some view → o ≡ None → ⊥
found_apart o view here none = cc

found_same : (o : Option View) (one other : View) → o ≡ Some one → o ≡ Some other → one ≡ other
found_same o one other here there = cc

part_again : (old new again after : World) (name body : List ℕ) (reply next : Reply) → TenantStep name_cmp met_by answer (Refused UnknownTenant) is_host_fault old name (SendsPart body) reply new → leaves (SendsPart body) reply ≡ false → SameUploads again old
    → TenantStep name_cmp met_by answer (Refused UnknownTenant) is_host_fault again name (SendsPart body) next after → is_host_fault next ≡ false → leaves (SendsPart body) next ≡ false
part_again old new again after name body reply next (Answered view here told set) kept same (Answered more there said put) fine =
    let its = its_view (get old name) (get again name) view here (same name) in
    let own : more.upload ≡ view.upload = ap (λ (v : View). v.upload) (found_same (get again name) more its.0 there its.1) ∙ its.2 in
    ap (leaves (SendsPart body)) (said ∙ same_part (met_by old name) (met_by again name) view more body own ∙ sym told) ∙ kept
part_again old new again after name body reply next (Answered view here told set) kept same (Unknown none said is) fine =
    let its = its_view (get old name) (get again name) view here (same name) in absurd (found_apart (get again name) its.0 its.1 none)
part_again old new again after name body reply next (Answered view here told set) kept same (Faulted bad is) fine = absurd (cc)
part_again old new again after name body reply next (Unknown none told is) kept same step fine = absurd (cc (ap (leaves (SendsPart body)) told))
part_again old new again after name body reply next (Faulted bad is) kept same step fine = absurd (fault_left (SendsPart body) reply bad kept)

-- an end into no repository is refused, and kept
end_told : (context : Context) (view : View) → (answer context view (EndsParts (codes "."))).0 ≡ Refused (BadName (codes "."))
unfolding answer part_end_answer Rattle.fork_request.specs.Names.is_plain_name
end_told context view = refl

end_kept : (again after : World) (name : List ℕ) (reply : Reply) → TenantStep name_cmp met_by answer (Refused UnknownTenant) is_host_fault again name (EndsParts (codes ".")) reply after → is_host_fault reply ≡ false → leaves (EndsParts (codes ".")) reply ≡ false
end_kept again after name reply (Answered view here told set) fine = ap (leaves (EndsParts (codes "."))) (told ∙ end_told (met_by again name) view)
end_kept again after name reply (Unknown none told is) fine = ap (leaves (EndsParts (codes "."))) told
end_kept again after name reply (Faulted bad is) fine = absurd (cc)

-- ---- what stands for the frames of a session
-- one step
abbrev one_step : (again after : World) (frame : Frame) (more : List Reply) → Explains again (events_of (frame ∷ [])) more after → AreFine more → (reply : Reply) × (more ≡ reply ∷ []) × Steps again (event_of frame) reply after × (is_host_fault reply ≡ false)
one_step again after frame [] run fine = absurd run
one_step again after frame (reply ∷ []) run fine = (reply, refl, subst (λ w. Steps again (event_of frame) reply w) (sym run.2) run.1, fine.0)
one_step again after frame (reply ∷ next ∷ more) run fine = absurd run.2

-- what stands for one frame leads to the upload after its request, and is kept
record IsCopied (again after : World) (name : List ℕ) (ask : Ask) (frames : List Frame) (more : List Reply) : Type 0 where
  goes : (q : List ℕ) → upload_in after q ≡ upload_after again name ask q
  kept : kept_of frames more ≡ frames

kept_one : (frame : Frame) (reply : Reply) → is_kept frame reply ≡ true → kept_of (frame ∷ []) (reply ∷ []) ≡ frame ∷ []
kept_one frame reply kept = ap (λ (b : Bool). cond b (frame ∷ []) []) kept

not_left : (b : Bool) → b ≡ false → not b ≡ true
not_left b is = ap not is

part_copied : (old new again after : World) (name payload body : List ℕ) (reply : Reply) (more : List Reply) → asked payload ≡ SendsPart body → TenantStep name_cmp met_by answer (Refused UnknownTenant) is_host_fault old name (SendsPart body) reply new → leaves (SendsPart body) reply ≡ false
    → SameUploads again old → Explains again (events_of ((record { asker = Tenant name; payload = payload }) ∷ [])) more after → AreFine more → IsCopied again after name (SendsPart body) ((record { asker = Tenant name; payload = payload }) ∷ []) more
part_copied old new again after name payload body reply more asks step kept same run fine =
    let frame : Frame = record { asker = Tenant name; payload = payload } in
    let one = one_step again after frame more run fine in
    let again_step = subst (λ (ask : Ask). TenantStep name_cmp met_by answer (Refused UnknownTenant) is_host_fault again name ask one.0 after) asks one.2 in
    let left = part_again old new again after name body reply one.0 step kept same again_step one.3 in
    record {
      goes = step_after again after name (SendsPart body) one.0 again_step left;
      kept = ap (kept_of (frame ∷ [])) one.1 ∙ kept_one frame one.0 (not_left _ (ap (λ ask. leaves ask one.0) asks ∙ left));
    }

end_copied : (again after : World) (name : List ℕ) (more : List Reply) → Explains again (events_of (end_frame name ∷ [])) more after → AreFine more → IsCopied again after name DropsParts (end_frame name ∷ []) more
unfolding asked
end_copied again after name more run fine =
    let one = one_step again after (end_frame name) more run fine in
    let asks : asked (codes "part-end .\n") ≡ EndsParts (codes ".") = refl in
    let again_step = subst (λ (ask : Ask). TenantStep name_cmp met_by answer (Refused UnknownTenant) is_host_fault again name ask one.0 after) asks one.2 in
    let left = end_kept again after name one.0 again_step one.3 in
    record {
      goes = step_after again after name (EndsParts (codes ".")) one.0 again_step left;
      kept = ap (kept_of (end_frame name ∷ [])) one.1 ∙ kept_one (end_frame name) one.0 (not_left _ (ap (λ ask. leaves ask one.0) asks ∙ left));
    }

same_anyway : {X : Type 0} (b : Bool) (o : Option X) → o ≡ cond b (option_map (λ x. x) o) o
same_anyway true None = refl
same_anyway true (Some x) = refl
same_anyway false o = refl

nothing_copied : (again after : World) (name : List ℕ) (ask : Ask) (more : List Reply) → after_ask ask ≡ (λ upload. upload) → Explains again [] more after → IsCopied again after name ask [] more
nothing_copied again after name ask [] leaves run = record {
  goes = λ q. ap (λ (w : World). upload_in w q) run ∙ same_anyway (eq_by_cmp name_cmp q name) (upload_in again q) ∙ ap (λ f. cond (eq_by_cmp name_cmp q name) (option_map f (upload_in again q)) (upload_in again q)) (sym leaves);
  kept = refl;
}
nothing_copied again after name ask (reply ∷ more) leaves run = absurd run

tenant_copied : (old new again after : World) (name payload : List ℕ) (ask : Ask) (reply : Reply) (more : List Reply) → asked payload ≡ ask → TenantStep name_cmp met_by answer (Refused UnknownTenant) is_host_fault old name ask reply new → leaves ask reply ≡ false
    → SameUploads again old → Explains again (events_of (stands_for name ask (record { asker = Tenant name; payload = payload }))) more after → AreFine more
    → IsCopied again after name ask (stands_for name ask (record { asker = Tenant name; payload = payload })) more
tenant_copied old new again after name payload (SendsPart body) reply more asks step kept same run fine = part_copied old new again after name payload body reply more asks step kept same run fine
tenant_copied old new again after name payload (EndsParts repository) reply more asks step kept same run fine = (let is = end_copied again after name more run fine in record { goes = is.goes; kept = is.kept })
tenant_copied old new again after name payload DropsParts reply more asks step kept same run fine = end_copied again after name more run fine
tenant_copied old new again after name payload (Inits repository) reply more asks step kept same run fine = nothing_copied again after name (Inits repository) more refl run
tenant_copied old new again after name payload (Drops repository) reply more asks step kept same run fine = nothing_copied again after name (Drops repository) more refl run
tenant_copied old new again after name payload (Forks source copy) reply more asks step kept same run fine = nothing_copied again after name (Forks source copy) more refl run
tenant_copied old new again after name payload (Pushes repository body) reply more asks step kept same run fine = nothing_copied again after name (Pushes repository body) more refl run
tenant_copied old new again after name payload (Updates repository body) reply more asks step kept same run fine = nothing_copied again after name (Updates repository body) more refl run
tenant_copied old new again after name payload (SetsHead repository reference) reply more asks step kept same run fine = nothing_copied again after name (SetsHead repository reference) more refl run
tenant_copied old new again after name payload (MakesOffer repository receiver) reply more asks step kept same run fine = nothing_copied again after name (MakesOffer repository receiver) more refl run
tenant_copied old new again after name payload (Withdraws repository receiver) reply more asks step kept same run fine = nothing_copied again after name (Withdraws repository receiver) more refl run
tenant_copied old new again after name payload (ForksOffer giver repository copy) reply more asks step kept same run fine = nothing_copied again after name (ForksOffer giver repository copy) more refl run
tenant_copied old new again after name payload (AsksObject object) reply more asks step kept same run fine = nothing_copied again after name (AsksObject object) more refl run
tenant_copied old new again after name payload (AsksTree object) reply more asks step kept same run fine = nothing_copied again after name (AsksTree object) more refl run
tenant_copied old new again after name payload (AsksRevisions repository items) reply more asks step kept same run fine = nothing_copied again after name (AsksRevisions repository items) more refl run
tenant_copied old new again after name payload (AsksBases repository first second) reply more asks step kept same run fine = nothing_copied again after name (AsksBases repository first second) more refl run
tenant_copied old new again after name payload (AsksReferences repository prefix) reply more asks step kept same run fine = nothing_copied again after name (AsksReferences repository prefix) more refl run
tenant_copied old new again after name payload (AsksHead repository) reply more asks step kept same run fine = nothing_copied again after name (AsksHead repository) more refl run
tenant_copied old new again after name payload AsksOffers reply more asks step kept same run fine = nothing_copied again after name AsksOffers more refl run
tenant_copied old new again after name payload AsksRepositories reply more asks step kept same run fine = nothing_copied again after name AsksRepositories more refl run
tenant_copied old new again after name payload (Fetches repository items) reply more asks step kept same run fine = nothing_copied again after name (Fetches repository items) more refl run
tenant_copied old new again after name payload AsksUse reply more asks step kept same run fine = nothing_copied again after name AsksUse more refl run
tenant_copied old new again after name payload Prunes reply more asks step kept same run fine = nothing_copied again after name Prunes more refl run
tenant_copied old new again after name payload NoRequest reply more asks step kept same run fine = nothing_copied again after name NoRequest more refl run

told_false : (b : Bool) → not b ≡ true → b ≡ false
told_false true is = absurd (cc)
told_false false is = refl

-- what stands for one frame that was kept
frame_copied : (old new again after : World) (asker : Asker) (payload : List ℕ) (reply : Reply) (more : List Reply) → Steps old (event_by asker payload) reply new → is_kept_of asker payload reply ≡ true → SameUploads again old
    → Explains again (events_of (stands_by asker (record { asker = asker; payload = payload }))) more after → AreFine more → Reopened (stands_by asker (record { asker = asker; payload = payload })) more after new
frame_copied old new again after (Tenant name) payload reply more step kept same run fine =
    let ask = asked payload in
    let left = told_false (leaves ask reply) kept in
    let is = tenant_copied old new again after name payload ask reply more refl step left same run fine in
    record {
      same = λ q. is.goes q ∙ ap (λ (o : Option (Option UploadValue)). cond (eq_by_cmp name_cmp q name) (option_map (after_ask ask) o) o) (same q) ∙ sym (step_after old new name ask reply step left q);
      kept = is.kept;
    }
frame_copied old new again after Host payload reply more step kept same run fine = absurd (cc)

-- a run is cut in two
record IsCut (old new : World) (first second : List Frame) (replies : List Reply) : Type 0 where
  mid : World
  before : List Reply
  behind : List Reply
  parts : replies ≡ before ++ behind
  one : Explains old (events_of first) before mid
  other : Explains mid (events_of second) behind new
  fine : AreFine before
  fine_behind : AreFine behind

cut : (old new : World) (first second : List Frame) (replies : List Reply) → Explains old (events_of (first ++ second)) replies new → AreFine replies → IsCut old new first second replies
cut old new [] second replies run fine = record { mid = old; before = []; behind = replies; parts = refl; one = refl; other = run; fine = tt; fine_behind = fine }
cut old new (frame ∷ first) second [] run fine = absurd run
cut old new (frame ∷ first) second (reply ∷ replies) run fine =
    let is = cut run.0 new first second replies run.2 fine.1 in
    record {
      mid = is.mid;
      before = reply ∷ is.before;
      behind = is.behind;
      parts = ap (λ more. reply ∷ more) is.parts;
      one = (run.0, run.1, is.one);
      other = is.other;
      fine = (fine.0, is.fine);
      fine_behind = is.fine_behind;
    }

-- what is kept of two parts
kept_joined : (old mid : World) (first second : List Frame) (before behind : List Reply) → Explains old (events_of first) before mid → kept_of (first ++ second) (before ++ behind) ≡ kept_of first before ++ kept_of second behind
kept_joined old mid [] second [] behind run = refl
kept_joined old mid [] second (reply ∷ before) behind run = absurd run
kept_joined old mid (frame ∷ first) second [] behind run = absurd run
kept_joined old mid (frame ∷ first) second (reply ∷ before) behind run = by (is_kept frame reply) (kept_joined run.0 mid first second before behind run.2)
  where
    by : (b : Bool) → kept_of (first ++ second) (before ++ behind) ≡ kept_of first before ++ kept_of second behind
        → cond b (frame ∷ kept_of (first ++ second) (before ++ behind)) (kept_of (first ++ second) (before ++ behind)) ≡ cond b (frame ∷ kept_of first before) (kept_of first before) ++ kept_of second behind
    by true rest = ap (λ more. frame ∷ more) rest
    by false rest = rest

-- what stands for frames that were kept leads to the uploads of this world, from each world with the uploads of that one
abbrev Leads : World → World → List Frame → Type 0
Leads old new kept = (again after : World) (more : List Reply) → SameUploads again old → Explains again (events_of (flat_map upload_frames kept)) more after → AreFine more → Reopened (flat_map upload_frames kept) more after new

first_copied : (old mid new : World) (frame : Frame) (kept : List Frame) (reply : Reply) → Steps old (event_of frame) reply mid → Leads mid new kept → (b : Bool) → is_kept frame reply ≡ b → Leads old new (cond b (frame ∷ kept) kept)
first_copied old mid new frame kept reply step others true is again after more same run fine =
    let rest = flat_map upload_frames kept in
    let joined = flat_map-cons upload_frames frame kept in
    let parts = cut again after (upload_frames frame) rest more (subst (λ fs. Explains again (events_of fs) more after) joined run) fine in
    let one = frame_copied old mid again parts.mid frame.asker frame.payload reply parts.before step is same parts.one parts.fine in
    let all = others parts.mid after parts.behind one.same parts.other parts.fine_behind in
    record {
      same = all.same;
      kept = ap (λ fs. kept_of fs more) joined ∙ ap (kept_of (upload_frames frame ++ rest)) parts.parts ∙ kept_joined again parts.mid (upload_frames frame) rest parts.before parts.behind parts.one
          ∙ ap₂ (λ (a b : List Frame). a ++ b) one.kept all.kept ∙ sym joined;
    }
first_copied old mid new frame kept reply step others false is again after more same run fine =
    others again after more (λ q. same q ∙ ap (λ (w : World). upload_in w q) (sym (step_leaves old mid frame.asker frame.payload reply step is))) run fine

nothing_kept : (old new : World) → new ≡ old → Leads old new []
nothing_kept old new is again after [] same run fine = record { same = λ q. ap (λ (w : World). upload_in w q) run ∙ same q ∙ ap (λ (w : World). upload_in w q) (sym is); kept = refl }
nothing_kept old new is again after (reply ∷ more) same run fine = absurd run

leads : (old new : World) (frames : List Frame) (replies : List Reply) → Explains old (events_of frames) replies new → Leads old new (kept_of frames replies)
leads old new [] [] run = nothing_kept old new run
leads old new [] (reply ∷ replies) run = absurd run
leads old new (frame ∷ frames) [] run = absurd run
leads old new (frame ∷ frames) (reply ∷ replies) run = first_copied old run.0 new frame (kept_of frames replies) reply run.1 (leads run.0 new frames replies run.2) (is_kept frame reply) refl

pub copies : CopiesAreEnough
copies old new again after frames replies more run same more_run fine = leads old new frames replies run again after more same more_run fine
