-- `missing` is reported only if the tenant lacks what it names.
use Rattle.std.proofs.Common.{◌≡◌, ℕ, ◌+◌, Bool, true, false, cond, List, [], Option, None, Some, is_some, refl, sym, ap, ◌∙◌, length, Ok}
use Rattle.std.specs.Prelude.{nat_eq, nat_le, nat_lt}
use Rattle.std.specs.FinMap.{get, contains_key, insert, len, remove}
use Rattle.git_reftx.specs.Repository.{Repository, branch_in, new_repository}
use Rattle.push_stream.specs.Upload.{continued}
use Rattle.fork_query.specs.Fetch.{fetch_told}
use Rattle.fork_query.specs.Head.{head_told}
use Rattle.fork_query.specs.Items.{commit_of_item, object_of_item}
use Rattle.fork_query.specs.MergeBase.{bases_told}
use Rattle.fork_query.specs.Objects.{object_told}
use Rattle.fork_query.specs.RevList.{revisions_told}
use Rattle.fork_query.specs.Trees.{entries_at_end, tree_told}
use Rattle.fork_query.specs.Peel.{peeled}
use Rattle.fork_request.specs.Asked.{Ask, Inits, Drops, Forks, Pushes, SendsPart, EndsParts, DropsParts, Updates, SetsHead, MakesOffer, Withdraws, ForksOffer, AsksObject, AsksTree, AsksRevisions, AsksBases, AsksReferences, AsksHead, AsksOffers, AsksRepositories, Fetches, AsksUse, Prunes, NoRequest}
use Rattle.fork_request.specs.Names.{is_plain_name}
use Rattle.fork_request.specs.declared.refusal.Refusal.TheVariants.{BadName, Missing, NoRepository, NoUpload, RepositoryExists, StagedTooLong, TooMany, NoOffer, OfferExists, OverQuota}
use Rattle.fork_request.specs.declared.reply.Reply.{Reply}
use Rattle.fork_request.specs.declared.reply.Reply.TheVariants.{Done, Unchanged, Refused}
use Rattle.git_name.specs.Maps.{joined}
use Rattle.fork_reach.specs.Objects.{use_of}
use Rattle.fork_model.specs.Answer.{fork_offer_answer, fork_offered, offer_answer, offer_in, offers_answer, withdraw_answer, answer, init_answer, drop_answer, fork_answer, push_answer, part_answer, part_end_answer, part_drop_answer, update_answer, set_head_answer, cat_file_answer, ls_tree_answer, rev_list_answer, merge_base_answer, fetch_answer, references_answer, head_answer, quota_answer, repositories_answer, prune_answer, pruned, copied, end_in, few_items, named_repository, repository_added, open_upload, push_into, told_over, told_references, update_in, without_upload, set_head_in, with_head}
use Rattle.fork_model.specs.Offer.{Offer, Pair}
use Rattle.fork_model.specs.Context.{Context, met_by}
use Rattle.fork_model.specs.Missing.{IsMissing}
use Rattle.fork_model.specs.Runs.{Asks, Answered, Unknown, Faulted}
use Rattle.fork_model.specs.View.{View}
use Rattle.fork_model.specs.World.{World, Steps}
use Rattle.fork_model.proofs.ToldItems.{bases_lack_of, commit_unseen_of, fetched_selected, few_of, in_repository_of, item_of, object_of, refused_of, selected_of, tree_of, unseen_of}
use Rattle.fork_model.proofs.ToldLinks.{push_of, upload_of_end}
use Rattle.fork_model.proofs.ToldTargets.{moved_of}

-- a row whose reply is never `missing`
abbrev Never : List ℕ → Reply × View → Type 0
Never name row = row.0 ≡ Refused (Missing name) → ⊥

either : (name : List ℕ) (b : Bool) (x y : Reply × View) → Never name x → Never name y → Never name (cond b x y)
either name true x y left right = left
either name false x y left right = right

added_row : (view : View) (name word : List ℕ) (repository : Repository) → Never name (repository_added view word repository)
added_row view name word repository =
    either name (contains_key view.repositories word) (Refused (RepositoryExists word), view) _ (λ is. cc)
    (either name (nat_le 256 (len view.repositories)) (Refused TooMany, view) (Done [], record view { repositories = insert view.repositories word repository }) (λ is. cc) (λ is. cc))

copied_row : (view : View) (name source copy : List ℕ) (o : Option Repository) → Never name (copied view source copy o)
copied_row view name source copy None is = cc
copied_row view name source copy (Some repository) is = added_row view name copy repository is

with_head_row : (view : View) (name word : List ℕ) (old : Repository) (reference : List ℕ) (o : Option (List ℕ)) → Never name (with_head view word old reference o)
with_head_row view name word old reference None is = cc
with_head_row view name word old reference (Some branch) is = cc

set_head_row : (view : View) (name word reference : List ℕ) (o : Option Repository) → Never name (set_head_in view word reference o)
set_head_row view name word reference None is = cc
set_head_row view name word reference (Some old) is = with_head_row view name word old reference (branch_in reference) is

head_row : (name word : List ℕ) (o : Option Repository) → told_over word (λ repository. Ok (head_told repository)) o ≡ Refused (Missing name) → ⊥
head_row name word None is = cc
head_row name word (Some repository) is = cc

named_never : (view : View) (name word : List ℕ) (row : Reply × View) → Never name row → Never name (named_repository view word row)
named_never view name word row done = either name (is_plain_name 64 word) row (Refused (BadName word), view) done (λ is. cc)

references_row : (view : View) (name word : List ℕ) (prefix : Option (List ℕ)) (o : Option Repository) → told_references view word prefix o ≡ Refused (Missing name) → ⊥
references_row view name word prefix None is = cc
references_row view name word prefix (Some repository) is = cc

part_row : (view : View) (name body : List ℕ) → Never name (part_answer view body)
unfolding part_answer
part_row view name body = either name (nat_lt 33554432 ((open_upload view.upload).count + length body)) (Refused StagedTooLong, view) (Done [], record view { upload = Some (continued (open_upload view.upload) body) }) (λ is. cc) (λ is. cc)

part_drop_row : (view : View) (name : List ℕ) → Never name (part_drop_answer view)
unfolding part_drop_answer
part_drop_row view name = either name (is_some view.upload) (Done [], without_upload view) (Refused NoUpload, view) (λ is. cc) (λ is. cc)

offer_row : (view : View) (name word receiver : List ℕ) (o : Option Repository) → Never name (offer_in view word receiver o)
offer_row view name word receiver None = λ tells. cc
offer_row view name word receiver (Some repository) =
    either name (contains_key view.made (receiver, word)) (Refused (OfferExists receiver word), view) _ (λ tells. cc) (either name (nat_le 256 (len view.made)) (Refused TooMany, view) _ (λ tells. cc) (λ tells. cc))

fork_offered_row : (view : View) (name : List ℕ) (key : Pair) (copy : List ℕ) (o : Option Offer) → Never name (fork_offered view key copy o)
fork_offered_row view name key copy None = λ tells. cc
fork_offered_row view name key copy (Some offer) =
    either name (contains_key view.repositories copy) (Refused (RepositoryExists copy), view) _ (λ tells. cc)
    (either name (nat_le 256 (len view.repositories)) (Refused TooMany, view) _ (λ tells. cc)
    (either name (nat_lt view.limit (use_of (joined view.objects offer.objects))) (Refused OverQuota, view) _ (λ tells. cc) (λ tells. cc)))

never_pruned : {A : Type 0} (name : List ℕ) (all : Bool) → cond all Unchanged (Done []) ≡ Refused (Missing name) → A
never_pruned name true is = absurd (cc)
never_pruned name false is = absurd (cc)

-- for each request
pub missing_of : (context : Context) (view : View) (name : List ℕ) (ask : Ask) → (answer context view ask).0 ≡ Refused (Missing name) → IsMissing view name ask
unfolding answer offer_answer withdraw_answer fork_offer_answer offers_answer init_answer drop_answer fork_answer push_answer part_end_answer update_answer set_head_answer cat_file_answer ls_tree_answer rev_list_answer merge_base_answer fetch_answer references_answer head_answer quota_answer repositories_answer prune_answer object_told tree_told revisions_told fetch_told
missing_of context view name (AsksObject asked) is = object_of view.objects asked name (get view.objects asked) refl is
missing_of context view name (AsksTree asked) is = tree_of view.objects asked name (entries_at_end view.objects (peeled view.objects asked)) (get view.objects asked) refl is
missing_of context view name (AsksRevisions repository items) is =
    in_repository_of view repository name _ (λ o. (few_items items (told_over repository (λ r. revisions_told view.objects r items) o), view)) (λ tells. absent_few items _ tells)
    (λ references tells. (
    let few = few_of items _ name tells in (
      few.0,
      item_of view.objects references (commit_of_item view.objects references) items name (commit_unseen_of view.objects references name) (selected_of _ view.objects name (refused_of _ (Missing name) few.1)),
    )
    )) is
  where
    absent_few : (xs : List (List ℕ)) (word : List ℕ) → few_items xs (Refused (NoRepository word)) ≡ Refused (Missing name) → ⊥
    absent_few xs word tells = (let few = few_of xs (Refused (NoRepository word)) name tells in let words = few.1 in cc)
missing_of context view name (AsksBases repository first second) is =
    in_repository_of view repository name _ (λ o. (told_over repository (λ r. bases_told view.objects r first second) o, view)) (λ tells. cc)
    (λ references tells. bases_lack_of view.objects references first second name (refused_of _ (Missing name) tells)) is
missing_of context view name (Fetches repository items) is =
    in_repository_of view repository name _ (λ o. (few_items items (told_over repository (λ r. fetch_told view.objects r items) o), view)) (λ tells. absent_few items _ tells)
    (λ references tells. (
    let few = few_of items _ name tells in (
      few.0,
      item_of view.objects references (object_of_item view.objects references) items name (unseen_of view.objects references name) (fetched_selected _ view.objects name (refused_of _ (Missing name) few.1)),
    )
    )) is
  where
    absent_few : (xs : List (List ℕ)) (word : List ℕ) → few_items xs (Refused (NoRepository word)) ≡ Refused (Missing name) → ⊥
    absent_few xs word tells = (let few = few_of xs (Refused (NoRepository word)) name tells in let words = few.1 in cc)
missing_of context view name (Updates repository body) is = in_repository_of view repository name _ (update_in view repository body) (λ tells. cc) (λ references tells. moved_of view repository references body name tells) is
missing_of context view name (Pushes repository body) is = in_repository_of view repository name _ (push_into view repository body) (λ tells. cc) (λ references tells. push_of view repository references body name tells) is
missing_of context view name (EndsParts repository) is = in_repository_of view repository name _ (end_in view repository) (λ tells. cc) (λ references tells. upload_of_end view repository references name tells) is
missing_of context view name (Inits word) is = named_never view name word _ (added_row view name word new_repository) is
missing_of context view name (Drops word) is =
    named_never view name word _ (either name (contains_key view.repositories word) (Done [], record view { repositories = remove view.repositories word }) (Refused (NoRepository word), view) (λ tells. cc) (λ tells. cc)) is
missing_of context view name (Forks source copy) is = named_never view name source _ (named_never view name copy _ (copied_row view name source copy (get view.repositories source))) is
missing_of context view name (SendsPart body) is = part_row view name body is
missing_of context view name DropsParts is = part_drop_row view name is
missing_of context view name (AsksReferences word prefix) is = named_never view name word _ (references_row view name word prefix (get view.repositories word)) is
missing_of context view name (SetsHead word reference) is = named_never view name word _ (set_head_row view name word reference (get view.repositories word)) is
missing_of context view name (AsksHead word) is = named_never view name word _ (head_row name word (get view.repositories word)) is
missing_of context view name (MakesOffer word receiver) is =
    named_never view name word _ (either name _ _ (Refused (BadName receiver), view) (offer_row view name word receiver (get view.repositories word)) (λ tells. cc)) is
missing_of context view name (Withdraws word receiver) is =
    named_never view name word _ (either name _ _ (Refused (BadName receiver), view) (either name (contains_key view.made (receiver, word)) _ (Refused (NoOffer receiver word), view) (λ tells. cc) (λ tells. cc)) (λ tells. cc)) is
missing_of context view name (ForksOffer giver word copy) is =
    either name _ _ (Refused (BadName giver), view) (named_never view name word _ (named_never view name copy _ (fork_offered_row view name (giver, word) copy (get context.offered (giver, word))))) (λ tells. cc) is
missing_of context view name AsksOffers is = cc
missing_of context view name AsksUse is = cc
missing_of context view name AsksRepositories is = cc
missing_of context view name Prunes is = never_pruned name (nat_eq (use_of (pruned view).objects) (use_of view.objects)) is
missing_of context view name NoRequest is = cc

some_same : (a b : View) → Some a ≡ Some b → a ≡ b
some_same a b is = cc

-- in a step from any world in which the tenant has this view
pub missing_step : (old new : World) (t : List ℕ) (view : View) (name : List ℕ) (ask : Ask) → get old t ≡ Some view → Steps old (Asks t ask) (Refused (Missing name)) new → IsMissing view name ask
missing_step old new t view name ask here (Answered other there tells set) =
    missing_of (met_by old t) view name ask (ap (λ v. (answer (met_by old t) v ask).0) (some_same view other (sym here ∙ there)) ∙ sym tells)
missing_step old new t view name ask here (Unknown absent tells stays) = (let differs : ⊥ = cc (sym absent ∙ here) in absurd differs)
missing_step old new t view name ask here (Faulted bad stays) = (let differs : ⊥ = cc bad in absurd differs)
