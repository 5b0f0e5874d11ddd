-- What each row of the answer does: it refuses and leaves what a refusal leaves, or it succeeds and leaves a sound view sound.
use Rattle.std.proofs.Common.{◌≡◌, ℕ, ◌+◌, ◌≤◌, Bool, true, false, cond, List, [], Option, Some, None, Result, Ok, Err, refl, sym, ap, subst, ◌∙◌, arith, is_some, inl, inr, ◌∷◌, ◌&&◌, ◌≢◌, not, length, ◌-◌}
use Rattle.std.specs.Prelude.{Contains, nat_eq, nat_le, nat_lt, map}
use Rattle.std.specs.Option.{option_map}
use Rattle.std.specs.Ordering.{eq_by_cmp}
use Rattle.std.specs.FinMap.{get, get-insert, get-remove, get-empty, insert, remove, retain_keys, contains_key, len, len-insert, len-remove, len-empty, len-entries, entries, empty}
use Rattle.std.proofs.lemmas.Bool.Decides.{nat_tests}
use Rattle.git_name.specs.Maps.{joined}
use Rattle.git_name.specs.Object.{Object, object_name}
use Rattle.git_name.specs.Same.{same_name}
use Rattle.std.proofs.lemmas.Bool.{and_parts}
use Rattle.git_name.specs.Name.{name_cmp}
use Rattle.git_name.proofs.Names.{name_total}
use Rattle.git_reftx.specs.declared.command.Command.{Command}
use Rattle.git_reftx.specs.declared.fault.CommandFault.{CommandFault}
use Rattle.git_reftx.specs.declared.fault.TxRefusal.{TxRefusal}
use Rattle.git_reftx.specs.Reading.{commands_of}
use Rattle.git_reftx.specs.Repository.{IsBranch, Repository, branch_in, new_repository}
use Rattle.git_reftx.specs.Transaction.{References, is_commit, least_upper, transacted}
use Rattle.git_reftx.proofs.BranchLemmas.{branch_right, main_right}
use Rattle.push_stream.specs.declared.fault.StreamFault.{StreamFault}
use Rattle.push_stream.specs.Stream.{AreObjects, finished, sent_in, stream_of}
use Rattle.push_stream.specs.Upload.{UploadValue, continued}
use Rattle.push_stream.proofs.ObjectLemmas.{continued_right, stream_right}
use Rattle.fork_push.specs.declared.refusal.PushRefusal.{PushRefusal}
use Rattle.fork_push.specs.declared.refusal.PushRefusal.TheVariants.{Stream}
use Rattle.fork_push.specs.Push.{judged}
use Rattle.fork_reach.specs.Objects.{use_of, with_objects}
use Rattle.fork_reach.specs.Reach.{is_reached, linked_names}
use Rattle.fork_reach.proofs.ReachLemmas.{next_reached, root_reached}
use Rattle.fork_reach.specs.Source.{Objects, kind_in}
use Rattle.fork_query.specs.Fetch.{fetch_told}
use Rattle.fork_query.specs.Head.{head_told}
use Rattle.fork_query.specs.MergeBase.{bases_told}
use Rattle.fork_query.specs.Objects.{object_told}
use Rattle.fork_query.specs.References.{listing}
use Rattle.fork_query.specs.RevList.{revisions_told}
use Rattle.fork_query.specs.Trees.{tree_told}
use Rattle.fork_request.specs.Asked.{Ask, Inits, Drops, Forks, Pushes, SendsPart, EndsParts, DropsParts, Updates, SetsHead, MakesOffer, Withdraws, ForksOffer, AsksObject, AsksTree, AsksRevisions, AsksBases, AsksReferences, AsksHead, AsksOffers, AsksRepositories, Fetches, AsksUse, Prunes, NoRequest}
use Rattle.fork_request.specs.Names.{IsRepositoryName, IsTenantName, is_plain_name}
use Rattle.fork_request.proofs.NameLemmas.{plain_name}
use Rattle.fork_request.specs.declared.refusal.Refusal.{Refusal}
use Rattle.fork_request.specs.declared.refusal.Refusal.TheVariants.{BadName, BadRef, BadRequest, NoOffer, NoRepository, NoUpload, OfferExists, OverQuota, RepositoryExists, StagedTooLong, TooMany, UploadOpen}
use Rattle.fork_request.specs.declared.reply.Reply.{Reply}
use Rattle.fork_request.specs.declared.reply.Reply.TheVariants.{Done, Unchanged, Refused}
use Rattle.fork_model.specs.Answer.{Finished, answer, fork_offer_answer, fork_offered, named_receiver, offer_added, offer_answer, offer_in, offer_taken, offers_answer, withdraw_answer, withdrawn, left_by, without_upload, init_answer, drop_answer, fork_answer, push_answer, part_answer, part_end_answer, part_drop_answer, update_answer, set_head_answer, cat_file_answer, ls_tree_answer, rev_list_answer, merge_base_answer, fetch_answer, references_answer, head_answer, quota_answer, repositories_answer, prune_answer, pruned, roots_of, named_repository, repository_added, dropped, copied, push_into, pushed, taken, open_upload, upload_into, end_in, upload_ended, update_in, carried_out, with_references, with_head, set_head_in, reply_of, told_over, told_references, transaction_refusal, command_refusal, push_refusal}
use Rattle.fork_model.specs.Context.{Context}
use Rattle.fork_model.specs.Offer.{Offer, Offers, Pair, offered}
use Rattle.fork_model.specs.Sound.{AreReferences, IsOffer, IsOrderly, IsReach, IsRight, IsSound, IsSoundBeside, MayTake}
use Rattle.fork_model.specs.View.{View, Repositories}
use Rattle.fork_reach.proofs.KeptObjects.{at_key, kept_all, named_all, tied_names}
use Rattle.fork_model.proofs.ClosedLemmas.{closed_both, right_both}
use Rattle.fork_model.proofs.KeptLemmas.{all_kept, closed_kept, named_kept, offer_rooted, references_right, right_kept, target_rooted, use_of-kept}
use Rattle.fork_model.proofs.EntryLemmas.{pair_total}
use Rattle.fork_model.proofs.OfferLemmas.{AreAmong, among_joined, left_before, new_reach, offer_inserted, other_inserted, other_removed, reach_grows, reach_kept}
use Rattle.fork_model.proofs.PushLemmas.{AreHeld, IsAccepted, accepted, held_right}
use Rattle.fork_model.proofs.TransactionLemmas.{sound_transacted}

-- offers are as they were, except under this key, if one is given
abbrev pub SameBut : Option Pair → Offers → Offers → Type 0
SameBut None old new = new ≡ old
SameBut (Some key) old new = (other : Pair) → other ≢ key → get new other ≡ get old other

-- a repository that a tenant with these objects may have under this name
record MayStand (objects : Objects) (name : List ℕ) (repository : Repository) : Type 0 where
  word : IsRepositoryName name
  branch : IsBranch repository.head
  sound : AreReferences objects repository.references

-- this holds of each of these repositories
abbrev MayAllStand : Objects → Repositories → Type 0
MayAllStand objects repositories = (name : List ℕ) (repository : Repository) → get repositories name ≡ Some repository → MayStand objects name repository

-- a view stays orderly if each of its new repositories may exist
with_repositories : (view : View) (repositories : Repositories) → IsOrderly view → len repositories ≤ 256 → MayAllStand view.objects repositories → IsOrderly (record view { repositories = repositories })
with_repositories view repositories orderly few each = record {
  upload = orderly.upload;
  within_limit = orderly.within_limit;
  limit = orderly.limit;
  few_repositories = few;
  repositories = λ name repository is. (each name repository is).word;
  heads = λ name repository is. (each name repository is).branch;
  references = λ name repository is. (each name repository is).sound;
  few_offers = orderly.few_offers;
  offers = orderly.offers;
}

-- and stays right
still_right : (view : View) (repositories : Repositories) → IsRight view → IsRight (record view { repositories = repositories })
still_right view repositories right = record { named = right.named; right = right.right; closed = right.closed; offered = right.offered; upload = right.upload }

-- one more repository may exist beside others
each_inserted : (objects : Objects) (repositories : Repositories) (word : List ℕ) (new : Repository) → MayStand objects word new → MayAllStand objects repositories → MayAllStand objects (insert repositories word new)
each_inserted objects repositories word new right others name repository is =
    elim (at_key (eq_by_cmp name_cmp name word) new repository (get repositories name) (sym (get-insert name_total repositories word new name) ∙ is)) [
      | inl here ↦ subst (λ n. MayStand objects n repository) (sym (tied_names name word here.0)) (subst (MayStand objects word) here.1 right)
      | inr there ↦ others name repository there
    ]

-- the repositories of an orderly view may exist
sound_each : (view : View) → IsOrderly view → MayAllStand view.objects view.repositories
sound_each view sound name repository is = record { word = sound.repositories name repository is; branch = sound.heads name repository is; sound = sound.references name repository is }

-- an existing repository may get other references, or another HEAD
other_references : (view : View) (word : List ℕ) (old : Repository) (new : References) → IsOrderly view → get view.repositories word ≡ Some old → (objects : Objects) → AreReferences objects new
    → MayStand objects word (record old { references = new })
other_references view word old new orderly there objects sound = record { word = orderly.repositories word old there; branch = orderly.heads word old there; sound = sound }

other_head : (view : View) (word : List ℕ) (old : Repository) (branch : List ℕ) → IsOrderly view → get view.repositories word ≡ Some old → IsBranch branch → MayStand view.objects word (record old { head = branch })
other_head view word old branch orderly there is = record { word = orderly.repositories word old there; branch = is; sound = orderly.references word old there }

few_more : (here : Bool) (n : ℕ) → nat_le 256 n ≡ false → n ≤ 256 → cond here n (n + 1) ≤ 256
few_more true n room few = few
few_more false n room few = grind (arith, nat_tests)

some_absent : {X : Type 0} (x : X) → None ≡ Some x → ⊥
some_absent x is = cc

none_left : {A : Type 0} (xs : List A) → length xs ≡ 0 → xs ≡ []
none_left [] is = refl
none_left (x ∷ xs) is = absurd (omega arith)

some_same : {X : Type 0} (x y : X) → Some x ≡ Some y → x ≡ y
some_same x y is = cc

no_entries : entries (empty {X = List ℕ} {R = name_cmp}) ≡ []
no_entries = none_left (entries (empty {X = List ℕ} {R = name_cmp})) (sym (len-entries (empty {X = List ℕ} {R = name_cmp})) ∙ len-empty name_cmp (List ℕ))

-- no references
none_right : (objects : Objects) → AreReferences objects empty
none_right objects = record {
  each = λ reference target is. absurd (some_absent target (sym (get-empty {X = List ℕ} name_cmp reference) ∙ is));
  apart = ap (λ es. least_upper (map (λ e. e.0) es)) no_entries;
  few = subst (λ n. n ≤ 4096) (sym (len-empty name_cmp (List ℕ))) (omega arith);
}

fewer : (here : Bool) (n : ℕ) → n ≤ 256 → cond here (n - 1) n ≤ 256
fewer true n few = omega arith
fewer false n few = few

found_before : {X : Type 0} (b : Bool) (o : Option X) (x : X) → cond b None o ≡ Some x → o ≡ Some x
found_before true o x is = absurd (cc)
found_before false o x is = is

-- a new repository may exist
new_stands : (objects : Objects) (word : List ℕ) → IsRepositoryName word → MayStand objects word new_repository
new_stands objects word right = record { word = right; branch = main_right; sound = none_right objects }

-- references stay valid when objects are added
pub references_kept : (objects both : Objects) (references : References) → ((name : List ℕ) → contains_key objects name ≡ true → get both name ≡ get objects name) → AreReferences objects references → AreReferences both references
references_kept objects both references grown right = record {
  each = λ reference target is.
      let at = right.each reference target is in
      let kept = grown target at.there in
      record {
        named = at.named;
        there = ap is_some kept ∙ at.there;
        commit = λ branch. ap (λ o. is_commit (option_map (λ object. object.kind) o)) kept ∙ at.commit branch;
      };
  apart = right.apart;
  few = right.few;
}

still_few : (view : View) (word : List ℕ) (old new : Repository) → get view.repositories word ≡ Some old → len view.repositories ≤ 256 → len (insert view.repositories word new) ≤ 256
still_few view word old new there few =
    subst (λ n. n ≤ 256) (sym (len-insert name_total view.repositories word new ∙ ap (λ b. cond b (len view.repositories) (len view.repositories + 1)) (ap is_some there))) few

-- an offer may have been made over other objects if its references are valid over them
with_other_objects : (objects others : Objects) (key : Pair) (offer : Offer) → (AreReferences objects offer.repository.references → AreReferences others offer.repository.references) → IsOffer objects key offer → IsOffer others key offer
with_other_objects objects others key offer holds is = record { receiver = is.receiver; named = is.named; head = is.head; references = holds is.references }

-- an accepted push leaves an orderly view
pub orderly_pushed : (view : View) (word : List ℕ) (old : Repository) (new : References) (commands : List Command) (both : Objects) → ((name : List ℕ) → contains_key view.objects name ≡ true → get both name ≡ get view.objects name) → get view.repositories word ≡ Some old
    → IsRepositoryName word → transacted old.references commands (kind_in both) ≡ Ok new → use_of both ≤ view.limit → IsOrderly view
    → IsOrderly (record view { repositories = insert view.repositories word (record old { references = new }); objects = both })
orderly_pushed view word old new commands both grown there right carried within orderly =
    let kept = λ (references : References). references_kept view.objects both references grown in
    let each = each_inserted both view.repositories word (record old { references = new })
    (other_references view word old new orderly there both (sound_transacted both old.references new commands (kept old.references (orderly.references word old there)) carried))
    (λ name repository is. record { word = orderly.repositories name repository is; branch = orderly.heads name repository is; sound = kept repository.references (orderly.references name repository is) }) in
    record {
      upload = orderly.upload;
      within_limit = within;
      limit = orderly.limit;
      few_repositories = still_few view word old (record old { references = new }) there orderly.few_repositories;
      repositories = λ name repository is. (each name repository is).word;
      heads = λ name repository is. (each name repository is).branch;
      references = λ name repository is. (each name repository is).sound;
      few_offers = orderly.few_offers;
      offers = λ key offer is. with_other_objects view.objects both key offer (kept offer.repository.references) (orderly.offers key offer is);
    }

-- and a right one
right_pushed : (view : View) (word : List ℕ) (old : Repository) (new : References) (held : List Command × List Object) → AreObjects held.1
    → IsAccepted (with_objects view.objects held.1) old.references view.limit (held.0, map object_name held.1) new → IsRight view
    → IsRight (record view { repositories = insert view.repositories word (record old { references = new }); objects = with_objects view.objects held.1 })
right_pushed view word old new held are accepted right = record {
  named = named_all view.objects held.1 right.named;
  right = right_both view.objects held.1 right.right are;
  closed = closed_both view.objects held.1 right.closed accepted.met;
  offered = λ key offer is. reach_grows view.objects (with_objects view.objects held.1) offer right.closed (λ name seen. kept_all view.objects held.1 name seen) (right.offered key offer is);
  upload = right.upload;
}

-- a view with another upload, or none
orderly_upload : (view : View) (upload : Option UploadValue) → ((value : UploadValue) → upload ≡ Some value → value.count ≤ 33554432) → IsOrderly view → IsOrderly (record view { upload = upload })
orderly_upload view upload few orderly = record {
  upload = few;
  within_limit = orderly.within_limit;
  limit = orderly.limit;
  few_repositories = orderly.few_repositories;
  repositories = orderly.repositories;
  heads = orderly.heads;
  references = orderly.references;
  few_offers = orderly.few_offers;
  offers = orderly.offers;
}

right_upload : (view : View) (upload : Option UploadValue) → ((value : UploadValue) → upload ≡ Some value → AreObjects (sent_in value.stream)) → IsRight view → IsRight (record view { upload = upload })
right_upload view upload are right = record { named = right.named; right = right.right; closed = right.closed; offered = right.offered; upload = are }

pub orderly_without : (view : View) → IsOrderly view → IsOrderly (without_upload view)
orderly_without view orderly = orderly_upload view None (λ value is. absurd (some_absent value is)) orderly

pub right_without : (view : View) → IsRight view → IsRight (without_upload view)
right_without view right = right_upload view None (λ value is. absurd (some_absent value is)) right

open_right : (upload : Option UploadValue) → ((value : UploadValue) → upload ≡ Some value → AreObjects (sent_in value.stream)) → AreObjects (sent_in (open_upload upload).stream)
open_right (Some upload) right = right upload refl
open_right None right = stream_right []

counted : (upload : UploadValue) (piece : List ℕ) → nat_lt 33554432 (upload.count + length piece) ≡ false → (continued upload piece).count ≤ 33554432
unfolding continued
counted upload piece fits = grind (arith, nat_tests)

-- the kept objects include the roots that exist
abbrev pub HasRoots : View → (List ℕ → Bool) → Type 0
HasRoots view kept = (target : List ℕ) → Contains (roots_of view) target → contains_key view.objects target ≡ true → kept target ≡ true

-- if no root is removed, the view stays in order
pub orderly_kept : (view : View) (kept : List ℕ → Bool) → HasRoots view kept → IsOrderly view → IsOrderly (record view { objects = retain_keys view.objects kept })
orderly_kept view kept rooted orderly =
    let fits = use_of-kept view.objects kept in
    let before = orderly.within_limit in
    record {
      upload = orderly.upload;
      within_limit = omega arith;
      limit = orderly.limit;
      few_repositories = orderly.few_repositories;
      repositories = orderly.repositories;
      heads = orderly.heads;
      references = λ word repository is. references_right view.objects kept repository.references (λ reference target points. rooted target (target_rooted view word repository reference target is points)) (orderly.references word repository is);
      few_offers = orderly.few_offers;
      offers = λ key offer is. with_other_objects view.objects (retain_keys view.objects kept) key offer
          (references_right view.objects kept offer.repository.references (λ reference target points. rooted target (offer_rooted view key offer reference target is points))) (orderly.offers key offer is);
    }

roots_kept : (view : View) → HasRoots view (is_reached (linked_names view.objects) view.objects (roots_of view))
roots_kept view target at there = root_reached (linked_names view.objects) view.objects (roots_of view) target at there

orderly_pruned : (view : View) → IsOrderly view → IsOrderly (pruned view)
orderly_pruned view orderly = orderly_kept view (is_reached (linked_names view.objects) view.objects (roots_of view)) (roots_kept view) orderly

-- if nothing that a root reaches is removed, it stays right
right_pruned : (view : View) → IsRight view → IsRight (pruned view)
right_pruned view right =
    let next = linked_names view.objects in
    let kept = is_reached next view.objects (roots_of view) in
    let closed = closed_kept view.objects kept (λ from name. next_reached next view.objects (roots_of view) from name) right.closed in
    record {
      named = named_kept view.objects kept right.named;
      right = right_kept view.objects kept right.right;
      closed = closed;
      offered = λ key offer is. reach_kept view.objects kept offer closed (λ reference target points. roots_kept view target (offer_rooted view key offer reference target is points)) (right.offered key offer is);
      upload = right.upload;
    }

-- a view stays orderly if each of its new offers may have been made
with_offers : (view : View) (made : Offers) → IsOrderly view → len made ≤ 256 → ((key : Pair) (offer : Offer) → get made key ≡ Some offer → IsOffer view.objects key offer) → IsOrderly (record view { made = made })
with_offers view made orderly few each = record {
  upload = orderly.upload;
  within_limit = orderly.within_limit;
  limit = orderly.limit;
  few_repositories = orderly.few_repositories;
  repositories = orderly.repositories;
  heads = orderly.heads;
  references = orderly.references;
  few_offers = few;
  offers = each;
}

-- and right, if each holds what its references reach
right_offers : (view : View) (made : Offers) → IsRight view → ((key : Pair) (offer : Offer) → get made key ≡ Some offer → IsReach view.objects offer) → IsRight (record view { made = made })
right_offers view made right each = record { named = right.named; right = right.right; closed = right.closed; offered = each; upload = right.upload }

-- the key of the offer that a request changes
abbrev pub changed_by : Ask → Option Pair
changed_by (MakesOffer repository receiver) = Some (receiver, repository)
changed_by (Withdraws repository receiver) = Some (receiver, repository)
changed_by ask = None

-- whether a request may be answered that it left the view
abbrev pub may_stay : Ask → Bool
may_stay Prunes = true
may_stay ask = false

pub data GoesTo (context : Context) (view left : View) (changed : Option Pair) (stays : Bool) (row : Reply × View) : Type 0 where
  -- a refusal, which leaves this view
  Refuses : (refusal : Refusal) → row.0 ≡ Refused refusal → row.1 ≡ left → GoesTo context view left changed stays row
  -- `ok` alone, and the view as it was
  Stays : stays ≡ true → row.0 ≡ Unchanged → row.1 ≡ view → GoesTo context view left changed stays row
  -- data, the same offers but for one, and a view that stays in order and right, if what is offered may be taken
  Does : (text : List ℕ) → row.0 ≡ Done text → SameBut changed view.made row.1.made
      → (MayTake context view.objects → IsOrderly view → IsOrderly row.1) → (IsSoundBeside context view.objects → IsSound view → IsRight row.1) → GoesTo context view left changed stays row

module _ (context : Context) where
  -- a row whose refusal leaves the view, and which leaves the offers
  abbrev IsRow : View → Reply × View → Type 0
  IsRow view row = GoesTo context view view None false row

  -- a row that does not look at offers
  does : {view left : View} {changed : Option Pair} {stays : Bool} {row : Reply × View} → (text : List ℕ) → row.0 ≡ Done text → SameBut changed view.made row.1.made → (IsOrderly view → IsOrderly row.1) → (IsRight view → IsRight row.1) → GoesTo context view left changed stays row
  does text told made orderly right = Does text told made (λ may. orderly) (λ beside sound. right sound.right)

  refuses : (view : View) (refusal : Refusal) → IsRow view (Refused refusal, view)
  refuses view refusal = Refuses refusal refl refl

  -- by a test
  either : (view : View) (b : Bool) (x y : Reply × View) → (b ≡ true → IsRow view x) → (b ≡ false → IsRow view y) → IsRow view (cond b x y)
  either view true x y left right = left refl
  either view false x y left right = right refl

  -- a row about a repository with a valid name
  named_row : (view : View) (word : List ℕ) (row : Reply × View) → (IsRepositoryName word → IsRow view row) → IsRow view (named_repository view word row)
  named_row view word row right = either view (is_plain_name 64 word) row (Refused (BadName word), view) (λ is. right (plain_name 64 word is)) (λ _. refuses view (BadName word))

  added_row : (view : View) (word : List ℕ) (repository : Repository) → (IsOrderly view → MayStand view.objects word repository) → IsRow view (repository_added view word repository)
  added_row view word repository right =
      either view (contains_key view.repositories word) (Refused (RepositoryExists word), view) _ (λ _. refuses view (RepositoryExists word)) (λ _.
      either view (nat_le 256 (len view.repositories)) (Refused TooMany, view) (Done [], record view { repositories = insert view.repositories word repository }) (λ _. refuses view TooMany) (λ room.
      does [] refl refl (λ sound. with_repositories view (insert view.repositories word repository) sound
      (subst (λ n. n ≤ 256) (sym (len-insert name_total view.repositories word repository)) (few_more (contains_key view.repositories word) (len view.repositories) room sound.few_repositories))
      (each_inserted view.objects view.repositories word repository (right sound) (sound_each view sound)))
      (still_right view (insert view.repositories word repository))))

  dropped_row : (view : View) (word : List ℕ) → IsRow view (dropped view word)
  dropped_row view word =
      either view (contains_key view.repositories word) (Done [], record view { repositories = remove view.repositories word }) (Refused (NoRepository word), view) (λ _.
      does [] refl refl (λ sound. with_repositories view (remove view.repositories word) sound
      (subst (λ n. n ≤ 256) (sym (len-remove name_total view.repositories word)) (fewer (contains_key view.repositories word) (len view.repositories) sound.few_repositories))
      (λ name repository is.
      sound_each view sound name repository (found_before (eq_by_cmp name_cmp name word) (get view.repositories name) repository (sym (get-remove name_total view.repositories word name) ∙ is))))
      (still_right view (remove view.repositories word)))
      (λ _. refuses view (NoRepository word))

  -- the same repository under another name
  copied_row : (view : View) (source copy : List ℕ) (o : Option Repository) → get view.repositories source ≡ o → IsRepositoryName copy → IsRow view (copied view source copy o)
  copied_row view source copy None is right = refuses view (NoRepository source)
  copied_row view source copy (Some repository) is right = added_row view copy repository (λ sound. record { word = right; branch = sound.heads source repository is; sound = sound.references source repository is })

  taken_row : (view : View) (word : List ℕ) (old : Repository) (objects : Objects) (value : Result References PushRefusal)
      → ((new : References) → value ≡ Ok new → IsOrderly view → IsOrderly (record view { repositories = insert view.repositories word (record old { references = new }); objects = objects }))
      → ((new : References) → value ≡ Ok new → IsRight view → IsRight (record view { repositories = insert view.repositories word (record old { references = new }); objects = objects })) → IsRow view (taken view word old objects value)
  taken_row view word old objects (Ok new) orderly right = does [] refl refl (orderly new refl) (right new refl)
  taken_row view word old objects (Err refusal) orderly right = refuses view (push_refusal refusal)

  faulty_row : (view : View) (word : List ℕ) (old : Repository) (fault : StreamFault) → IsRow view (pushed view word old (Err fault))
  unfolding judged
  faulty_row view word old fault = refuses view (push_refusal (Stream fault))

  pushed_row : (view : View) (word : List ℕ) (old : Repository) (held : Finished) → get view.repositories word ≡ Some old → IsRepositoryName word → (IsRight view → AreHeld held) → IsRow view (pushed view word old held)
  pushed_row view word old (Ok held) there right are =
      taken_row view word old (with_objects view.objects held.1) (judged (with_objects view.objects held.1) old.references view.limit (Ok (held.0, map object_name held.1)))
      (λ new is orderly.
      let told = accepted (with_objects view.objects held.1) old.references view.limit (held.0, map object_name held.1) new is in
      orderly_pushed view word old new held.0 (with_objects view.objects held.1) (λ name seen. kept_all view.objects held.1 name seen) there right told.carried told.within orderly)
      (λ new is was. right_pushed view word old new held (are was) (accepted (with_objects view.objects held.1) old.references view.limit (held.0, map object_name held.1) new is) was)
  pushed_row view word old (Err fault) there right are = faulty_row view word old fault

  into_row : (view : View) (word body : List ℕ) (o : Option Repository) → get view.repositories word ≡ o → IsRepositoryName word → IsRow view (push_into view word body o)
  into_row view word body None there right = refuses view (NoRepository word)
  into_row view word body (Some old) there right =
      either view (is_some view.upload) (Refused UploadOpen, view) (pushed view word old (finished (stream_of body))) (λ _. refuses view UploadOpen)
      (λ _. pushed_row view word old (finished (stream_of body)) there right (λ _. held_right (stream_of body) (stream_right body)))

  part_row : (view : View) (body : List ℕ) → IsRow view (part_answer view body)
  unfolding part_answer
  part_row view body =
      either view (nat_lt 33554432 ((open_upload view.upload).count + length body)) (Refused StagedTooLong, view) _ (λ _. refuses view StagedTooLong)
      (λ fits. does [] refl refl
      (orderly_upload view (Some (continued (open_upload view.upload) body)) (λ value is. subst (λ (u : UploadValue). u.count ≤ 33554432) (some_same (continued (open_upload view.upload) body) value is) (counted (open_upload view.upload) body fits)))
      (λ right. right_upload view (Some (continued (open_upload view.upload) body)) (λ value is.
      subst (λ (u : UploadValue). AreObjects (sent_in u.stream)) (some_same (continued (open_upload view.upload) body) value is) (continued_right (open_upload view.upload) body (open_right view.upload right.upload))) right))

  upload_row : (view : View) (word : List ℕ) (old : Repository) (o : Option UploadValue) → view.upload ≡ o → get view.repositories word ≡ Some old → IsRepositoryName word → IsRow view (upload_into view word old o)
  upload_row view word old None is there right = refuses view NoUpload
  upload_row view word old (Some upload) is there right =
      pushed_row view word old (finished upload.stream) there right (λ was. held_right upload.stream (was.upload upload is))

  end_row : (view : View) (word : List ℕ) (o : Option Repository) → get view.repositories word ≡ o → IsRepositoryName word → IsRow view (end_in view word o)
  end_row view word None there right = refuses view (NoRepository word)
  end_row view word (Some old) there right = upload_row view word old view.upload refl there right

  -- a row that ends the upload whatever it answers
  ended_row : (view : View) (row : Reply × View) → IsRow view row → GoesTo context view (without_upload view) None false (upload_ended row)
  ended_row view row (Refuses refusal told kept) = Refuses refusal told (ap without_upload kept)
  ended_row view row (Stays allowed told same) = absurd (cc)
  ended_row view row (Does text told made orderly right) = Does text told made (λ may before. orderly_without row.1 (orderly may before)) (λ beside before. right_without row.1 (right beside before))

  dropped_upload_row : (view : View) → IsRow view (part_drop_answer view)
  unfolding part_drop_answer
  dropped_upload_row view =
      either view (is_some view.upload) (Done [], without_upload view) (Refused NoUpload, view) (λ _. does [] refl refl (orderly_without view) (right_without view)) (λ _. refuses view NoUpload)

  -- another repository replaces an existing one
  replaced_row : (view : View) (word : List ℕ) (old new : Repository) → get view.repositories word ≡ Some old → (IsOrderly view → MayStand view.objects word new) → IsRow view (Done [], record view { repositories = insert view.repositories word new })
  replaced_row view word old new there right_new =
      does [] refl refl (λ sound. with_repositories view (insert view.repositories word new) sound (still_few view word old new there sound.few_repositories)
      (each_inserted view.objects view.repositories word new (right_new sound) (sound_each view sound)))
      (still_right view (insert view.repositories word new))

  -- an existing repository gets other references
  with_references_row : (view : View) (word : List ℕ) (old : Repository) (value : Result References TxRefusal) → get view.repositories word ≡ Some old
      → ((new : References) → value ≡ Ok new → IsOrderly view → AreReferences view.objects new) → IsRow view (with_references view word old value)
  with_references_row view word old (Err refusal) there right_new = refuses view (transaction_refusal refusal)
  with_references_row view word old (Ok new) there right_new =
      replaced_row view word old (record old { references = new }) there (λ sound. other_references view word old new sound there view.objects (right_new new refl sound))

  carried_row : (view : View) (word : List ℕ) (old : Repository) (value : Result (List Command) CommandFault) → get view.repositories word ≡ Some old → IsRow view (carried_out view word old value)
  carried_row view word old (Err fault) there = refuses view (command_refusal fault)
  carried_row view word old (Ok commands) there =
      with_references_row view word old (transacted old.references commands (kind_in view.objects)) there
      (λ new is sound. sound_transacted view.objects old.references new commands (sound.references word old there) is)

  update_row : (view : View) (word body : List ℕ) (o : Option Repository) → get view.repositories word ≡ o → IsRow view (update_in view word body o)
  update_row view word body None there = refuses view (NoRepository word)
  update_row view word body (Some old) there = carried_row view word old (commands_of body) there

  -- an existing repository gets another HEAD
  with_head_row : (view : View) (word : List ℕ) (old : Repository) (reference : List ℕ) (o : Option (List ℕ)) → branch_in reference ≡ o → get view.repositories word ≡ Some old → IsRow view (with_head view word old reference o)
  with_head_row view word old reference None is there = refuses view (BadRef reference)
  with_head_row view word old reference (Some branch) is there =
      replaced_row view word old (record old { head = branch }) there (λ sound. other_head view word old branch sound there (branch_right reference branch is))

  set_head_row : (view : View) (word reference : List ℕ) (o : Option Repository) → get view.repositories word ≡ o → IsRow view (set_head_in view word reference o)
  set_head_row view word reference None there = refuses view (NoRepository word)
  set_head_row view word reference (Some old) there = with_head_row view word old reference (branch_in reference) refl there

  -- a row that returns what was found, and leaves the view
  told_row : (view : View) (found : Result (List ℕ) Refusal) → IsRow view (reply_of found, view)
  told_row view (Ok text) = does text refl refl (λ was. was) (λ was. was)
  told_row view (Err refusal) = refuses view refusal

  over_row : (view : View) (word : List ℕ) (query : Repository → Result (List ℕ) Refusal) (o : Option Repository) → IsRow view (told_over word query o, view)
  over_row view word query None = refuses view (NoRepository word)
  over_row view word query (Some repository) = told_row view (query repository)

  few_row : (view : View) (many : Bool) (reply : Reply) → IsRow view (reply, view) → IsRow view (cond many (Refused TooMany) reply, view)
  few_row view true reply row = refuses view TooMany
  few_row view false reply row = row

  listing_row : (view : View) (word : List ℕ) (prefix : Option (List ℕ)) (o : Option Repository) → IsRow view (told_references view word prefix o, view)
  listing_row view word prefix None = refuses view (NoRepository word)
  listing_row view word prefix (Some repository) = does (listing view.objects repository.references prefix) refl refl (λ was. was) (λ was. was)

  -- a row by a test, whichever offer it changes
  either_to : (view : View) (changed : Option Pair) (b : Bool) (x y : Reply × View) → (b ≡ true → GoesTo context view view changed false x) → (b ≡ false → GoesTo context view view changed false y) → GoesTo context view view changed false (cond b x y)
  either_to view changed true x y left right = left refl
  either_to view changed false x y left right = right refl

  refuses_to : (view : View) (changed : Option Pair) (refusal : Refusal) → GoesTo context view view changed false (Refused refusal, view)
  refuses_to view changed refusal = Refuses refusal refl refl

  named_to : (view : View) (changed : Option Pair) (word : List ℕ) (row : Reply × View) → (IsRepositoryName word → GoesTo context view view changed false row) → GoesTo context view view changed false (named_repository view word row)
  named_to view changed word row right = either_to view changed (is_plain_name 64 word) row (Refused (BadName word), view) (λ is. right (plain_name 64 word is)) (λ _. refuses_to view changed (BadName word))

  receiver_to : (view : View) (changed : Option Pair) (word : List ℕ) (row : Reply × View) → (IsTenantName word → GoesTo context view view changed false row) → GoesTo context view view changed false (named_receiver context view word row)
  receiver_to view changed word row right =
      either_to view changed (is_plain_name 32 word && not (same_name word context.own)) row (Refused (BadName word), view)
      (λ is. right (plain_name 32 word (and_parts (is_plain_name 32 word) (not (same_name word context.own)) is).0)) (λ _. refuses_to view changed (BadName word))

  offer_added_row : (view : View) (word receiver : List ℕ) (repository : Repository) → get view.repositories word ≡ Some repository → IsRepositoryName word → IsTenantName receiver → GoesTo context view view (Some (receiver, word)) false (offer_added view (receiver, word) repository)
  offer_added_row view word receiver repository there named receiver_named =
      let key : Pair = (receiver, word) in
      let new = offered view.objects repository in
      either_to view (Some key) (contains_key view.made key) (Refused (OfferExists receiver word), view) _ (λ _. refuses_to view (Some key) (OfferExists receiver word)) (λ _.
      either_to view (Some key) (nat_le 256 (len view.made)) (Refused TooMany, view) (Done [], record view { made = insert view.made key new }) (λ _. refuses_to view (Some key) TooMany) (λ room.
      Does [] refl (other_inserted view.made key new)
      (λ may orderly. with_offers view (insert view.made key new) orderly
      (subst (λ n. n ≤ 256) (sym (len-insert pair_total view.made key new)) (few_more (contains_key view.made key) (len view.made) room orderly.few_offers))
      (offer_inserted (IsOffer view.objects) view.made key new (record { receiver = receiver_named; named = named; head = orderly.heads word repository there; references = orderly.references word repository there }) orderly.offers))
      (λ beside sound. right_offers view (insert view.made key new) sound.right
      (offer_inserted (λ k o. IsReach view.objects o) view.made key new (new_reach view.objects repository (λ reference target points. ((sound.orderly.references word repository there).each reference target points).there)) sound.right.offered))))

  offer_row : (view : View) (word receiver : List ℕ) (o : Option Repository) → get view.repositories word ≡ o → IsRepositoryName word → IsTenantName receiver → GoesTo context view view (Some (receiver, word)) false (offer_in view word receiver o)
  offer_row view word receiver None there named receiver_named = refuses_to view (Some (receiver, word)) (NoRepository word)
  offer_row view word receiver (Some repository) there named receiver_named = offer_added_row view word receiver repository there named receiver_named

  withdrawn_row : (view : View) (key : Pair) → GoesTo context view view (Some key) false (withdrawn view key)
  withdrawn_row view key =
      either_to view (Some key) (contains_key view.made key) (Done [], record view { made = remove view.made key }) (Refused (NoOffer key.0 key.1), view) (λ _.
      does [] refl (other_removed view.made key)
      (λ orderly. with_offers view (remove view.made key) orderly
      (subst (λ n. n ≤ 256) (sym (len-remove pair_total view.made key)) (fewer (contains_key view.made key) (len view.made) orderly.few_offers))
      (λ other offer is. orderly.offers other offer (left_before view.made key other offer is)))
      (λ right. right_offers view (remove view.made key) right (λ other offer is. right.offered other offer (left_before view.made key other offer is))))
      (λ _. refuses_to view (Some key) (NoOffer key.0 key.1))

  -- what is offered is taken
  offer_taken_row : (view : View) (key : Pair) (copy : List ℕ) (offer : Offer) → get context.offered key ≡ Some offer → IsRepositoryName copy → IsRow view (offer_taken view copy offer)
  offer_taken_row view key copy offer stands named =
      let objects = joined view.objects offer.objects in
      let grown : AreAmong view.objects objects = among_joined view.objects offer.objects in
      either view (contains_key view.repositories copy) (Refused (RepositoryExists copy), view) _ (λ _. refuses view (RepositoryExists copy)) (λ _.
      either view (nat_le 256 (len view.repositories)) (Refused TooMany, view) _ (λ _. refuses view TooMany) (λ room.
      either view (nat_lt view.limit (use_of objects)) (Refused OverQuota, view) _ (λ _. refuses view OverQuota) (λ fits.
      Does [] refl refl
      (λ may orderly.
      let each = each_inserted objects view.repositories copy offer.repository (record { word = named; branch = (may key offer stands).0; sound = (may key offer stands).1 })
      (λ name repository is. record { word = orderly.repositories name repository is; branch = orderly.heads name repository is; sound = references_kept view.objects objects repository.references grown (orderly.references name repository is) }) in
      record {
        upload = orderly.upload;
        within_limit = grind (arith, nat_tests);
        limit = orderly.limit;
        few_repositories = subst (λ n. n ≤ 256) (sym (len-insert name_total view.repositories copy offer.repository)) (few_more (contains_key view.repositories copy) (len view.repositories) room orderly.few_repositories);
        repositories = λ name repository is. (each name repository is).word;
        heads = λ name repository is. (each name repository is).branch;
        references = λ name repository is. (each name repository is).sound;
        few_offers = orderly.few_offers;
        offers = λ other made is. with_other_objects view.objects objects other made (references_kept view.objects objects made.repository.references grown) (orderly.offers other made is);
      })
      (λ beside sound. record {
        named = (beside key offer stands).named;
        right = (beside key offer stands).right;
        closed = (beside key offer stands).closed;
        offered = λ other made is. reach_grows view.objects objects made sound.right.closed grown (sound.right.offered other made is);
        upload = sound.right.upload;
      }))))

  fork_offered_row : (view : View) (key : Pair) (copy : List ℕ) (o : Option Offer) → get context.offered key ≡ o → IsRepositoryName copy → IsRow view (fork_offered view key copy o)
  fork_offered_row view key copy None stands named = refuses view (NoOffer key.0 key.1)
  fork_offered_row view key copy (Some offer) stands named = offer_taken_row view key copy offer stands named

  prune_row : (view : View) (all : Bool) → nat_eq (use_of (pruned view).objects) (use_of view.objects) ≡ all → GoesTo context view view None true (cond all Unchanged (Done []), pruned view)
  prune_row view true is = Stays refl refl (ap (λ (o : Objects). record view { objects = o }) (all_kept view.objects (is_reached (linked_names view.objects) view.objects (roots_of view)) (grind (arith, nat_tests))))
  prune_row view false is = does [] refl refl (orderly_pruned view) (right_pruned view)

  -- each answer is such a row
  pub answer_row : (view : View) (ask : Ask) → GoesTo context view (left_by view ask) (changed_by ask) (may_stay ask) (answer context view ask)
  unfolding answer offer_answer withdraw_answer fork_offer_answer offers_answer init_answer drop_answer fork_answer push_answer part_end_answer update_answer set_head_answer cat_file_answer ls_tree_answer rev_list_answer merge_base_answer fetch_answer references_answer head_answer quota_answer repositories_answer prune_answer
  answer_row view (Inits word) = named_row view word (repository_added view word new_repository) (λ right. added_row view word new_repository (λ _. new_stands view.objects word right))
  answer_row view (Drops word) = named_row view word (dropped view word) (λ _. dropped_row view word)
  answer_row view (Forks source copy) =
      named_row view source (named_repository view copy (copied view source copy (get view.repositories source))) (λ _.
      named_row view copy (copied view source copy (get view.repositories source)) (λ right. copied_row view source copy (get view.repositories source) refl right))
  answer_row view (Pushes word body) = named_row view word (push_into view word body (get view.repositories word)) (λ right. into_row view word body (get view.repositories word) refl right)
  answer_row view (SendsPart body) = part_row view body
  answer_row view (EndsParts word) =
      ended_row view (named_repository view word (end_in view word (get view.repositories word)))
      (named_row view word (end_in view word (get view.repositories word)) (λ right. end_row view word (get view.repositories word) refl right))
  answer_row view DropsParts = dropped_upload_row view
  answer_row view (Updates word body) = named_row view word (update_in view word body (get view.repositories word)) (λ _. update_row view word body (get view.repositories word) refl)
  answer_row view (SetsHead word reference) = named_row view word (set_head_in view word reference (get view.repositories word)) (λ _. set_head_row view word reference (get view.repositories word) refl)
  answer_row view (MakesOffer word receiver) =
      named_to view (Some (receiver, word)) word (named_receiver context view receiver (offer_in view word receiver (get view.repositories word))) (λ named.
      receiver_to view (Some (receiver, word)) receiver (offer_in view word receiver (get view.repositories word)) (λ receiver_named. offer_row view word receiver (get view.repositories word) refl named receiver_named))
  answer_row view (Withdraws word receiver) =
      named_to view (Some (receiver, word)) word (named_receiver context view receiver (withdrawn view (receiver, word))) (λ named.
      receiver_to view (Some (receiver, word)) receiver (withdrawn view (receiver, word)) (λ receiver_named. withdrawn_row view (receiver, word)))
  answer_row view (ForksOffer giver word copy) =
      either view (is_plain_name 32 giver) _ (Refused (BadName giver), view) (λ _.
      named_row view word _ (λ _. named_row view copy (fork_offered view (giver, word) copy (get context.offered (giver, word))) (λ named. fork_offered_row view (giver, word) copy (get context.offered (giver, word)) refl named)))
      (λ _. refuses view (BadName giver))
  answer_row view (AsksObject name) = told_row view (object_told view.objects name)
  answer_row view (AsksTree name) = told_row view (tree_told view.objects name)
  answer_row view (AsksRevisions word items) =
      named_row view word _ (λ _. few_row view (nat_lt 64 (length items)) _ (over_row view word (λ repository. revisions_told view.objects repository items) (get view.repositories word)))
  answer_row view (AsksBases word first second) = named_row view word _ (λ _. over_row view word (λ repository. bases_told view.objects repository first second) (get view.repositories word))
  answer_row view (Fetches word items) =
      named_row view word _ (λ _. few_row view (nat_lt 64 (length items)) _ (over_row view word (λ repository. fetch_told view.objects repository items) (get view.repositories word)))
  answer_row view (AsksReferences word prefix) =
      named_row view word (told_references view word prefix (get view.repositories word), view) (λ _. listing_row view word prefix (get view.repositories word))
  answer_row view (AsksHead word) = named_row view word _ (λ _. over_row view word (λ repository. Ok (head_told repository)) (get view.repositories word))
  answer_row view AsksOffers = does _ refl refl (λ was. was) (λ was. was)
  answer_row view AsksUse = does _ refl refl (λ was. was) (λ was. was)
  answer_row view AsksRepositories = does _ refl refl (λ was. was) (λ was. was)
  answer_row view Prunes = prune_row view (nat_eq (use_of (pruned view).objects) (use_of view.objects)) refl
  answer_row view NoRequest = refuses view BadRequest
