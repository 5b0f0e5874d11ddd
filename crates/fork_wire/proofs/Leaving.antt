-- A frame that is not kept leaves the world, and a prune that is kept changes it.
use Rattle.std.proofs.Common.{◌≡◌, ◌≢◌, ◌∙◌, Bool, true, false, cond, nat_eq, not, refl, sym, ap, subst, ℕ, List, [], Option, Some, unwrap_or, arith}
use Rattle.std.proofs.lemmas.Bool.Decides.{nat_tests}
use Rattle.git_name.specs.Name.{name_cmp}
use Rattle.git_name.proofs.Names.{name_exact, name_total}
use Rattle.fork_request.specs.Asked.{Ask, Inits, Drops, Forks, Pushes, SendsPart, EndsParts, DropsParts, Updates, SetsHead, MakesOffer, Withdraws, ForksOffer, AsksObject, AsksTree, AsksRevisions, AsksBases, AsksReferences, AsksHead, AsksOffers, AsksRepositories, Fetches, AsksUse, Prunes, NoRequest, asked, asked_host}
use Rattle.fork_request.specs.Names.{is_plain_name}
use Rattle.fork_request.specs.declared.name.TheConstants.{MAX_REPOSITORY_NAME}
use Rattle.fork_request.specs.Told.{is_host_fault}
use Rattle.fork_request.specs.declared.reply.Reply.{Reply}
use Rattle.fork_request.specs.declared.reply.Reply.TheVariants.{Done, Unchanged, Refused, Failed}
use Rattle.fork_request.specs.declared.refusal.Refusal.TheVariants.{UnknownTenant}
use Rattle.std.specs.FinMap.{get, insert}
use Rattle.fork_model.specs.Answer.{answer, left_by, prune_answer, pruned, cat_file_answer, ls_tree_answer, rev_list_answer, merge_base_answer, references_answer, head_answer, fetch_answer, quota_answer, repositories_answer, offers_answer}
use Rattle.fork_model.specs.Context.{Context, met_by}
use Rattle.fork_model.specs.Runs.{Answered, Unknown, Faulted, TenantStep}
use Rattle.fork_model.specs.View.{View}
use Rattle.fork_reach.specs.Objects.{use_of}
use Rattle.fork_model.specs.World.{HostSays, Steps, World}
use Rattle.fork_model.proofs.IsolationLemmas.{own_request}
use Rattle.fork_model.proofs.Refusals.{refusal_keeps, unchanged_stays}
use Rattle.fork_model.proofs.StepLemmas.{answer_tells}
use Rattle.fork_model.proofs.Worlds.{insert_same}
use Rattle.fork_frame.specs.declared.asker.Asker.{Asker}
use Rattle.fork_frame.specs.declared.asker.Asker.TheVariants.{Tenant, Host}
use Rattle.fork_wire.proofs.OpeningLemmas.{written_there}
use Rattle.fork_wire.specs.Kept.{is_part_end, is_kept_of, leaves, only_asks}
use Rattle.fork_wire.specs.Sessions.{event_by}

-- a row whose test chooses between two replies
tested : (view : View) (b : Bool) (x y : Reply) → (cond {A = Reply × View} b (x, view) (y, view)).1 ≡ view
tested view true x y = refl
tested view false x y = refl

-- a request that only asks leaves the view
pub asking_leaves : (context : Context) (view : View) (ask : Ask) → only_asks ask ≡ true → (answer context view ask).1 ≡ view
unfolding answer offers_answer cat_file_answer ls_tree_answer rev_list_answer merge_base_answer references_answer head_answer fetch_answer quota_answer repositories_answer
asking_leaves context view (Inits repository) is = absurd (cc)
asking_leaves context view (Drops repository) is = absurd (cc)
asking_leaves context view (Forks source copy) is = absurd (cc)
asking_leaves context view (Pushes repository body) is = absurd (cc)
asking_leaves context view (SendsPart body) is = absurd (cc)
asking_leaves context view (EndsParts repository) is = absurd (cc)
asking_leaves context view DropsParts is = absurd (cc)
asking_leaves context view (Updates repository body) is = absurd (cc)
asking_leaves context view (SetsHead repository reference) is = absurd (cc)
asking_leaves context view (MakesOffer repository receiver) is = absurd (cc)
asking_leaves context view (Withdraws repository receiver) is = absurd (cc)
asking_leaves context view (ForksOffer giver repository copy) is = absurd (cc)
asking_leaves context view AsksOffers is = refl
asking_leaves context view (AsksObject name) is = refl
asking_leaves context view (AsksTree name) is = refl
asking_leaves context view (AsksRevisions repository items) is = tested view (is_plain_name MAX_REPOSITORY_NAME repository) _ _
asking_leaves context view (AsksBases repository first second) is = tested view (is_plain_name MAX_REPOSITORY_NAME repository) _ _
asking_leaves context view (AsksReferences repository prefix) is = tested view (is_plain_name MAX_REPOSITORY_NAME repository) _ _
asking_leaves context view (AsksHead repository) is = tested view (is_plain_name MAX_REPOSITORY_NAME repository) _ _
asking_leaves context view (Fetches repository items) is = tested view (is_plain_name MAX_REPOSITORY_NAME repository) _ _
asking_leaves context view AsksRepositories is = refl
asking_leaves context view AsksUse is = refl
asking_leaves context view Prunes is = absurd (cc)
asking_leaves context view NoRequest is = refl

-- what a refusal leaves is the view, but where the upload ends
left_there : (view : View) (ask : Ask) → not (is_part_end ask) ≡ true → left_by view ask ≡ view
left_there view (Inits repository) is = refl
left_there view (Drops repository) is = refl
left_there view (Forks source copy) is = refl
left_there view (Pushes repository body) is = refl
left_there view (SendsPart body) is = refl
left_there view (EndsParts repository) is = absurd (cc)
left_there view DropsParts is = refl
left_there view (Updates repository body) is = refl
left_there view (SetsHead repository reference) is = refl
left_there view (MakesOffer repository receiver) is = refl
left_there view (Withdraws repository receiver) is = refl
left_there view (ForksOffer giver repository copy) is = refl
left_there view AsksOffers is = refl
left_there view (AsksObject name) is = refl
left_there view (AsksTree name) is = refl
left_there view (AsksRevisions repository items) is = refl
left_there view (AsksBases repository first second) is = refl
left_there view (AsksReferences repository prefix) is = refl
left_there view (AsksHead repository) is = refl
left_there view (Fetches repository items) is = refl
left_there view AsksRepositories is = refl
left_there view AsksUse is = refl
left_there view Prunes is = refl
left_there view NoRequest is = refl

-- an answer of which it is told that the view is left leaves it
answer_leaves : (context : Context) (view : View) (ask : Ask) (reply : Reply) → reply ≡ (answer context view ask).0 → leaves ask reply ≡ true → (answer context view ask).1 ≡ view
answer_leaves context view ask (Done text) told is = asking_leaves context view ask is
answer_leaves context view ask Unchanged told is = unchanged_stays context view ask (sym told)
answer_leaves context view ask (Refused refusal) told is = refusal_keeps context view ask refusal (sym told) ∙ left_there view ask is
answer_leaves context view ask (Failed fault) told is = (let fine = answer_tells context view ask in let no : ⊥ = cc (ap is_host_fault told) in absurd no)

told_true : (b : Bool) → not b ≡ false → b ≡ true
told_true true is = refl
told_true false is = absurd (cc)

tenant_leaves : (old new : World) (name : List ℕ) (ask : Ask) (reply : Reply) → TenantStep name_cmp met_by answer (Refused UnknownTenant) is_host_fault old name ask reply new → leaves ask reply ≡ true → new ≡ old
tenant_leaves old new name ask reply (Answered view here told set) is =
    set ∙ ap (λ v. insert old name v) (answer_leaves (met_by old name) view ask reply told is) ∙ insert_same name_total name_exact old name view here
tenant_leaves old new name ask reply (Unknown none told stays) is = stays
tenant_leaves old new name ask reply (Faulted bad stays) is = stays

-- a step by a frame that is not kept leaves the world
pub step_leaves : (old new : World) (asker : Asker) (payload : List ℕ) (reply : Reply) → Steps old (event_by asker payload) reply new → is_kept_of asker payload reply ≡ false → new ≡ old
step_leaves old new (Tenant name) payload reply step is = tenant_leaves old new name (asked payload) reply step (told_true (leaves (asked payload) reply) is)
step_leaves old new Host payload reply step is = own_request name_cmp name_total met_by answer (Refused UnknownTenant) is_host_fault HostSays old new (asked_host payload) reply step

-- ---- a prune that is kept changed its tenant's view
pruned_changes : (context : Context) (view : View) (reply : Reply) → reply ≡ (answer context view Prunes).0 → leaves Prunes reply ≡ false → (answer context view Prunes).1 ≡ view → ⊥
unfolding answer prune_answer
pruned_changes context view reply told kept same =
    let equal = ap (λ (v : View). use_of v.objects) same in
    let all : nat_eq (use_of (pruned view).objects) (use_of view.objects) ≡ true = grind (arith, nat_tests) in
    let unchanged : reply ≡ Unchanged = told ∙ ap (λ (b : Bool). cond b Unchanged (Done [])) all in
    cc (ap (leaves Prunes) unchanged)

fault_leaves : (reply : Reply) → is_host_fault reply ≡ true → leaves Prunes reply ≡ true
fault_leaves (Done text) bad = absurd (cc)
fault_leaves Unchanged bad = absurd (cc)
fault_leaves (Refused refusal) bad = absurd (cc)
fault_leaves (Failed fault) bad = refl

tenant_changes : (old new : World) (name : List ℕ) (reply : Reply) → TenantStep name_cmp met_by answer (Refused UnknownTenant) is_host_fault old name Prunes reply new → leaves Prunes reply ≡ false → new ≢ old
tenant_changes old new name reply (Answered view here told set) kept same =
    let after = (answer (met_by old name) view Prunes).1 in
    let both : Some after ≡ Some view = sym (written_there old name after) ∙ ap (λ (w : World). get w name) (sym set ∙ same) ∙ here in
    pruned_changes (met_by old name) view reply told kept (ap (λ (o : Option View). unwrap_or o view) both)
tenant_changes old new name reply (Unknown none told stays) kept same = cc (ap (leaves Prunes) told)
tenant_changes old new name reply (Faulted bad stays) kept same = cc (fault_leaves reply bad)

told_false : (b : Bool) → not b ≡ true → b ≡ false
told_false true is = absurd (cc)
told_false false is = refl

pub prune_changes : (old new : World) (asker : Asker) (payload : List ℕ) (reply : Reply) → asked payload ≡ Prunes → Steps old (event_by asker payload) reply new → is_kept_of asker payload reply ≡ true → new ≢ old
prune_changes old new (Tenant name) payload reply asks step is =
    tenant_changes old new name reply (subst (λ ask. TenantStep name_cmp met_by answer (Refused UnknownTenant) is_host_fault old name ask reply new) asks step)
    (told_false (leaves Prunes reply) (ap (λ ask. not (leaves ask reply)) (sym asks) ∙ is))
prune_changes old new Host payload reply asks step is = absurd (cc)
