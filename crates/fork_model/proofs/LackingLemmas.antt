-- What a tenant lacks is reported as missing, for each way of naming it.
use Rattle.std.proofs.Common.{◌≡◌, ℕ, ◌≤◌, true, false, cond, List, [], ◌∷◌, ◌++◌, Option, None, Some, Result, Ok, Err, is_none, is_some, is_ok, refl, sym, ap, ◌∙◌, inl, inr, arith, length}
use Rattle.std.specs.Prelude.{nat_lt, map}
use Rattle.std.specs.List.{AllByRecursion, find}
use Rattle.std.specs.Option.{option_map, option_or}
use Rattle.std.specs.FinMap.{get, contains_key, insert}
use Rattle.std.proofs.lemmas.Bool.Decides.{nat_tests}
use Rattle.git_name.specs.Object.{Object, object_name}
use Rattle.git_object.specs.declared.link.Link.{Link}
use Rattle.git_reftx.specs.declared.command.Command.{Command}
use Rattle.git_reftx.specs.declared.fault.TxRefusal.{TxRefusal}
use Rattle.git_reftx.specs.declared.fault.TxRefusal.TheVariants as tx
use Rattle.git_reftx.specs.Known.{Kinds}
use Rattle.git_reftx.specs.Repository.{Repository}
use Rattle.git_reftx.specs.Transaction.{References, changed, first_refusal, missing_object, not_a_commit, is_branch, ref_conflict, repeated_ref, stale, too_many, transacted, unless_refused}
use Rattle.push_stream.specs.Stream.{Stream, finished, stream_of}
use Rattle.fork_push.specs.declared.refusal.PushRefusal.{PushRefusal}
use Rattle.fork_push.specs.declared.refusal.PushRefusal.TheVariants as push
use Rattle.fork_push.specs.Push.{is_missing, judged, within_limit, wrong_type, refusal_or as unless_push}
use Rattle.fork_reach.specs.Objects.{with_objects}
use Rattle.fork_reach.specs.Source.{Objects, kind_in}
use Rattle.fork_query.specs.Fetch.{fetch_told, fetched_of}
use Rattle.fork_query.specs.Items.{commit_behind, commit_of_item, found_name, named_by, object_of_item}
use Rattle.fork_query.specs.MergeBase.{bases_of, bases_told}
use Rattle.fork_query.specs.RevList.{revisions_of, revisions_told}
use Rattle.fork_query.specs.Sides.{bare, is_excluded, selected, with_item, with_rest}
use Rattle.fork_query.specs.Trees.{entries_at_end, rows_or, tree_told}
use Rattle.fork_query.specs.Peel.{peeled}
use Rattle.fork_request.specs.Asked.{Ask, Inits, Drops, Forks, Pushes, SendsPart, EndsParts, DropsParts, Updates, SetsHead, MakesOffer, Withdraws, ForksOffer, AsksObject, AsksTree, AsksRevisions, AsksBases, AsksReferences, AsksHead, AsksOffers, AsksRepositories, Fetches, AsksUse, Prunes, NoRequest}
use Rattle.fork_request.specs.Told.{is_host_fault}
use Rattle.fork_request.specs.declared.refusal.Refusal.{Refusal}
use Rattle.fork_request.specs.declared.refusal.Refusal.TheVariants.{BadName, Missing, TooMany, UploadOpen}
use Rattle.fork_request.specs.declared.reply.Reply.{Reply}
use Rattle.fork_request.specs.declared.reply.Reply.TheVariants.{Refused}
use Rattle.fork_model.specs.Answer.{answer, left_by, ls_tree_answer, rev_list_answer, merge_base_answer, fetch_answer, push_answer, part_end_answer, update_answer, carried_out, end_in, few_items, named_repository, push_into, push_refusal, pushed, taken, reply_of, told_over, update_in, upload_ended, upload_into, with_references}
use Rattle.fork_model.specs.Context.{Context, met_by}
use Rattle.fork_model.specs.Missing.{InRepository, IsLacking, IsMissing, LacksInStream, LacksItem, LacksSent, Linked, Pointed, LacksTarget, links_sent}
use Rattle.fork_model.specs.Runs.{Asks, Answered, Unknown, Faulted}
use Rattle.fork_model.specs.View.{View}
use Rattle.fork_model.specs.World.{World, Steps}
use Rattle.fork_model.proofs.MissingLemmas.{unheld_answer}
use Rattle.fork_model.proofs.ProvenanceLemmas.{among_both}

head_is : {A : Type 0} (x y : A) (xs ys : List A) → x ∷ xs ≡ y ∷ ys → x ≡ y
head_is x y xs ys is = cc

tail_is : {A : Type 0} (x y : A) (xs ys : List A) → x ∷ xs ≡ y ∷ ys → xs ≡ ys
tail_is x y xs ys is = cc

pub none_unless : {A : Type 0} (o : Option A) → ((x : A) → o ≡ Some x → ⊥) → o ≡ None
none_unless None never = refl
none_unless (Some x) never = absurd (never x refl)

pub some_not_none : {A : Type 0} (x : A) → Some x ≡ None → ⊥
some_not_none x is = cc

-- what is neither seen nor sent does not exist
pub lacking_both : (objects : Objects) (sent : List Object) (name : List ℕ) → IsLacking objects sent name → get (with_objects objects sent) name ≡ None
lacking_both objects sent name lacking =
    none_unless (get (with_objects objects sent) name) (λ object is.
    elim (among_both objects sent name object is) [
      | inl was ↦ some_not_none object (sym was ∙ lacking.unseen)
      | inr came ↦ lacking.unsent object came.sent came.named
    ])

-- the first item that is not judged valid decides
first_item : (judge : List ℕ → Result (List ℕ) Refusal) (items before behind : List (List ℕ)) (item : List ℕ) (refusal : Refusal) → map bare items ≡ before ++ item ∷ behind → AllByRecursion (λ other. is_ok (judge other) ≡ true) before
    → judge item ≡ Err refusal → selected judge items ≡ Err refusal
first_item judge [] [] behind item refusal is right wrong = absurd (cc)
first_item judge [] (x ∷ before) behind item refusal is right wrong = absurd (cc)
first_item judge (one ∷ items) [] behind item refusal is right wrong =
    ap (λ r. with_item (is_excluded one) r (selected judge items)) (ap judge (head_is (bare one) item (map bare items) behind is) ∙ wrong)
first_item judge (one ∷ items) (x ∷ before) behind item refusal is right wrong =
    by (judge (bare one)) (ap (λ w. is_ok (judge w)) (head_is (bare one) x (map bare items) (before ++ item ∷ behind) is) ∙ right.0)
    (first_item judge items before behind item refusal (tail_is (bare one) x (map bare items) (before ++ item ∷ behind) is) right.1 wrong)
  where
    by : (r : Result (List ℕ) Refusal) → is_ok r ≡ true → selected judge items ≡ Err refusal → with_item (is_excluded one) r (selected judge items) ≡ Err refusal
    by (Ok name) fine rest = ap (with_rest (is_excluded one) name) rest
    by (Err other) fine rest = absurd (cc)

-- an item that names what is not seen
unseen_item : (objects : Objects) (repository : Repository) (item name : List ℕ) → named_by repository item ≡ Some name → get objects name ≡ None → object_of_item objects repository item ≡ Err (Missing name)
unseen_item objects repository item name named unseen =
    ap (found_name objects item) named ∙ ap (λ o. cond (is_some o) (Ok name) (Err (Missing name))) unseen

unseen_commit : (objects : Objects) (repository : Repository) (item name : List ℕ) → named_by repository item ≡ Some name → get objects name ≡ None → commit_of_item objects repository item ≡ Err (Missing name)
unseen_commit objects repository item name named unseen = ap (commit_behind objects) (unseen_item objects repository item name named unseen)

-- a row about an existing repository
in_repository : (view : View) (word : List ℕ) (Holds : Repository → Type 0) (row : Option Repository → Reply × View) (left : Reply × View) → (at : InRepository view word Holds) → row (Some at.repository) ≡ left
    → named_repository view word (row (get view.repositories word)) ≡ left
in_repository view word Holds row left at is = ap (λ b. cond b (row (get view.repositories word)) (Refused (BadName word), view)) at.named ∙ ap row at.found ∙ is

few_asked : (items : List (List ℕ)) (reply : Reply) → length items ≤ 64 → few_items items reply ≡ reply
few_asked items reply few = (let passed : nat_lt 64 (length items) ≡ false = grind (arith, nat_tests) in ap (λ b. cond b (Refused TooMany) reply) passed)

-- both words of `merge-base`
bases_lack : (objects : Objects) (repository : Repository) (a b name : List ℕ) → LacksItem objects repository (commit_of_item objects repository) (a ∷ b ∷ []) name → bases_told objects repository a b ≡ Err (Missing name)
unfolding bases_told
bases_lack objects repository a b name lacks = by lacks.first.before lacks.first.passed lacks.first.parts
  where
    wrong : commit_of_item objects repository lacks.item ≡ Err (Missing name)
    wrong = unseen_commit objects repository lacks.item name lacks.named lacks.unseen

    behind_right : (first second : Result (List ℕ) Refusal) → is_ok first ≡ true → second ≡ Err (Missing name) → bases_of objects first second ≡ Err (Missing name)
    behind_right (Ok one) second right is = ap (bases_of objects (Ok one)) is
    behind_right (Err refusal) second right is = absurd (cc)

    by : (before : List (List ℕ)) → AllByRecursion (λ other. is_ok (commit_of_item objects repository other) ≡ true) before → a ∷ b ∷ [] ≡ before ++ lacks.item ∷ lacks.first.behind
        → bases_of objects (commit_of_item objects repository a) (commit_of_item objects repository b) ≡ Err (Missing name)
    by [] right is = ap (λ r. bases_of objects r (commit_of_item objects repository b)) (ap (commit_of_item objects repository) (head_is a lacks.item _ _ is) ∙ wrong)
    by (x ∷ []) right is =
        behind_right (commit_of_item objects repository a) (commit_of_item objects repository b)
        (ap (λ w. is_ok (commit_of_item objects repository w)) (head_is a x _ _ is) ∙ right.0)
        (ap (commit_of_item objects repository) (head_is b lacks.item _ _ (tail_is a x _ _ is)) ∙ wrong)
    by (x ∷ y ∷ []) right is = absurd (cc)
    by (x ∷ y ∷ z ∷ before) right is = absurd (cc)

-- the first command that is refused decides
first_command : (judge : Command → Option TxRefusal) (before behind : List Command) (command : Command) (refusal : TxRefusal) → AllByRecursion (λ other. is_none (judge other) ≡ true) before → judge command ≡ Some refusal
    → first_refusal judge (before ++ command ∷ behind) ≡ Some refusal
first_command judge [] behind command refusal right wrong = ap (λ o. option_or o (first_refusal judge behind)) wrong
first_command judge (x ∷ before) behind command refusal right wrong = by (judge x) right.0 (first_command judge before behind command refusal right.1 wrong)
  where
    by : (o : Option TxRefusal) → is_none o ≡ true → first_refusal judge (before ++ command ∷ behind) ≡ Some refusal → option_or o (first_refusal judge (before ++ command ∷ behind)) ≡ Some refusal
    by None fine rest = rest
    by (Some other) fine rest = absurd (cc)

-- a transaction that lacks a target
target_lacking : (objects : Objects) (sent : List Object) (old : References) (commands : List Command) (name : List ℕ) → LacksTarget objects sent commands name
    → transacted old commands (kind_in (with_objects objects sent)) ≡ Err (tx.Missing name)
unfolding transacted
target_lacking objects sent old commands name lacks =
    ap (λ o. unless_refused o (changed commands old)) (
    ap (λ o. option_or o rest) lacks.right ∙ ap (λ o. option_or o later) lacks.apart ∙ ap (λ o. option_or o others) untold)
  where
    known : Kinds
    known = kind_in (with_objects objects sent)

    judge : Command → Option TxRefusal
    judge command = missing_object known command.change

    others : Option TxRefusal
    others = option_or (first_refusal (λ command. not_a_commit known (is_branch command.reference) command.change) commands) (option_or (first_refusal (stale old) commands) (option_or (ref_conflict (changed commands old)) (too_many (changed commands old))))

    later : Option TxRefusal
    later = option_or (first_refusal judge commands) others

    rest : Option TxRefusal
    rest = option_or (repeated_ref [] commands) later

    wrong : judge lacks.command ≡ Some (tx.Missing name)
    wrong =
        ap (missing_object known) lacks.points
        ∙ ap (λ o. cond (is_none (option_map (λ (object : Object). object.kind) o)) (Some (tx.Missing name)) None) (lacking_both objects sent name lacks.lacking)

    untold : first_refusal judge commands ≡ Some (tx.Missing name)
    untold = ap (first_refusal judge) lacks.first.parts ∙ first_command judge lacks.first.before lacks.first.behind lacks.command (tx.Missing name) lacks.first.passed wrong

-- a link that is met is not missing
there_is : (o : Option Object) → is_some o ≡ true → is_none (option_map (λ (object : Object). object.kind) o) ≡ false
there_is None is = absurd (cc)
there_is (Some object) is = refl

-- the first link that is not met decides
first_link : (both : Objects) (before behind : List Link) (link : Link) → AllByRecursion (λ other. contains_key both other.name ≡ true) before → get both link.name ≡ None → find (is_missing both) (before ++ link ∷ behind) ≡ Some link
first_link both [] behind link met absent =
    ap (λ o. cond (is_none (option_map (λ (object : Object). object.kind) o)) (Some link) (find (is_missing both) behind)) absent
first_link both (x ∷ before) behind link met absent =
    ap (λ b. cond b (Some x) (find (is_missing both) (before ++ link ∷ behind))) (there_is (get both x.name) met.0) ∙ first_link both before behind link met.1 absent

-- a push is refused by this name
record IsToldMissing (verdict : Result References PushRefusal) (name : List ℕ) : Type 0 where
  refusal : PushRefusal
  is : verdict ≡ Err refusal
  told : push_refusal refusal ≡ Missing name

sent_lacking : (objects : Objects) (old : References) (limit : ℕ) (commands : List Command) (sent : List Object) (name : List ℕ) → LacksSent objects commands sent name
    → IsToldMissing (judged (with_objects objects sent) old limit (Ok (commands, map object_name sent))) name
unfolding judged
sent_lacking objects old limit commands sent name (Linked lacks) = record {
  refusal = push.Missing name;
  is =
      ap (λ o. unless_push (option_or (option_map (λ (link : Link). push.Missing link.name) o) (wrong_type both (links_sent objects sent))) (within_limit both limit (transacted old commands (kind_in both)))) found
      ∙ ap (λ n. Err (push.Missing n)) lacks.named;
  told = refl;
}
  where
    both : Objects
    both = with_objects objects sent

    found : find (is_missing both) (links_sent objects sent) ≡ Some lacks.link
    found =
        ap (find (is_missing both)) lacks.first.parts
        ∙ first_link both lacks.first.before lacks.first.behind lacks.link lacks.first.passed (ap (get both) lacks.named ∙ lacking_both objects sent name lacks.lacking)
sent_lacking objects old limit commands sent name (Pointed met lacks) = record {
  refusal = push.Transaction (tx.Missing name);
  is =
      ap (λ o. unless_push o (within_limit both limit (transacted old commands (kind_in both)))) met
      ∙ ap (within_limit both limit) (target_lacking objects sent old commands name lacks);
  told = refl;
}
  where
    both : Objects
    both = with_objects objects sent

-- and so a push of a stream
pushed_lacking : (view : View) (word : List ℕ) (old : Repository) (s : Stream) (name : List ℕ) → LacksInStream view.objects s name → pushed view word old (finished s) ≡ (Refused (Missing name), view)
pushed_lacking view word old s name lacks =
    let verdict = sent_lacking view.objects old.references view.limit lacks.commands lacks.sent name lacks.lacks in
    ap (pushed view word old) lacks.whole ∙ ap (taken view word old (with_objects view.objects lacks.sent)) verdict.is ∙ ap (λ r. (Refused r, view)) verdict.told

-- for each way of naming
pub lacking_answer : (context : Context) (view : View) (name : List ℕ) (ask : Ask) → IsMissing view name ask → answer context view ask ≡ (Refused (Missing name), left_by view ask)
unfolding answer ls_tree_answer rev_list_answer merge_base_answer fetch_answer push_answer part_end_answer update_answer tree_told revisions_told fetch_told
lacking_answer context view name (AsksObject asked) is = ap (λ n. answer context view (AsksObject n)) is.0 ∙ unheld_answer context view name is.1
lacking_answer context view name (AsksTree asked) is =
    ap (λ n. answer context view (AsksTree n)) is.0
    ∙ ap (λ o. (reply_of (cond (is_some o) (rows_or name (entries_at_end view.objects (peeled view.objects name))) (Err (Missing name))), view)) is.1
lacking_answer context view name (AsksRevisions repository items) is =
    in_repository view repository _ (λ o. (few_items items (told_over repository (λ r. revisions_told view.objects r items) o), view)) _ is
    (ap (λ reply. (reply, view)) (few_asked items _ is.holds.0
    ∙ ap (λ r. reply_of (revisions_of view.objects r)) (first_item (commit_of_item view.objects is.repository) items is.holds.1.first.before is.holds.1.first.behind is.holds.1.item (Missing name) is.holds.1.first.parts is.holds.1.first.passed
    (unseen_commit view.objects is.repository is.holds.1.item name is.holds.1.named is.holds.1.unseen))))
lacking_answer context view name (AsksBases repository first second) is =
    in_repository view repository _ (λ o. (told_over repository (λ r. bases_told view.objects r first second) o, view)) _ is
    (ap (λ r. (reply_of r, view)) (bases_lack view.objects is.repository first second name is.holds))
lacking_answer context view name (Fetches repository items) is =
    in_repository view repository _ (λ o. (few_items items (told_over repository (λ r. fetch_told view.objects r items) o), view)) _ is
    (ap (λ reply. (reply, view)) (few_asked items _ is.holds.0
    ∙ ap (λ r. reply_of (fetched_of view.objects r)) (first_item (object_of_item view.objects is.repository) items is.holds.1.first.before is.holds.1.first.behind is.holds.1.item (Missing name) is.holds.1.first.parts is.holds.1.first.passed
    (unseen_item view.objects is.repository is.holds.1.item name is.holds.1.named is.holds.1.unseen))))
lacking_answer context view name (Updates repository body) is =
    in_repository view repository _ (update_in view repository body) _ is
    (ap (carried_out view repository is.repository) is.holds.read ∙ ap (with_references view repository is.repository) (target_lacking view.objects [] is.repository.references is.holds.commands name is.holds.lacks))
lacking_answer context view name (Pushes repository body) is =
    in_repository view repository _ (push_into view repository body) _ is
    (ap (λ o. cond (is_some o) (Refused UploadOpen, view) (pushed view repository is.repository (finished (stream_of body)))) is.holds.0 ∙ pushed_lacking view repository is.repository (stream_of body) name is.holds.1)
lacking_answer context view name (EndsParts repository) is =
    ap upload_ended (in_repository view repository _ (end_in view repository) (Refused (Missing name), view) is
    (ap (upload_into view repository is.repository) is.holds.opened ∙ pushed_lacking view repository is.repository is.holds.upload.stream name is.holds.lacks))
lacking_answer context view name (Inits repository) is = absurd is
lacking_answer context view name (Drops repository) is = absurd is
lacking_answer context view name (Forks source copy) is = absurd is
lacking_answer context view name (SendsPart body) is = absurd is
lacking_answer context view name DropsParts is = absurd is
lacking_answer context view name (SetsHead repository reference) is = absurd is
lacking_answer context view name (AsksReferences repository prefix) is = absurd is
lacking_answer context view name (AsksHead repository) is = absurd is
lacking_answer context view name (MakesOffer repository receiver) is = absurd is
lacking_answer context view name (Withdraws repository receiver) is = absurd is
lacking_answer context view name (ForksOffer giver repository copy) is = absurd is
lacking_answer context view name AsksOffers is = absurd is
lacking_answer context view name AsksUse is = absurd is
lacking_answer context view name AsksRepositories is = absurd is
lacking_answer context view name Prunes is = absurd is
lacking_answer context view name NoRequest is = absurd is

some_same : (a b : View) → Some a ≡ Some b → a ≡ b
some_same a b is = cc

-- in a step from any world in which the tenant has this view
pub lacking_step : (old new : World) (t : List ℕ) (view : View) (name : List ℕ) (ask : Ask) (reply : Reply) → get old t ≡ Some view → IsMissing view name ask → Steps old (Asks t ask) reply new → is_host_fault reply ≡ false → reply ≡ Refused (Missing name)
lacking_step old new t view name ask reply here lacks (Answered other there told set) fine =
    told ∙ ap (λ v. (answer (met_by old t) v ask).0) (some_same other view (sym there ∙ here)) ∙ ap (λ row. row.0) (lacking_answer (met_by old t) view name ask lacks)
lacking_step old new t view name ask reply here lacks (Unknown absent told stays) fine = (let differs : ⊥ = cc (sym absent ∙ here) in absurd differs)
lacking_step old new t view name ask reply here lacks (Faulted bad stays) fine = (let differs : ⊥ = cc (sym fine ∙ bad) in absurd differs)

-- the step leaves the world, except that a refused end removes the upload
pub lacking_world : (old new : World) (t : List ℕ) (view : View) (name : List ℕ) (ask : Ask) (reply : Reply) → get old t ≡ Some view → IsMissing view name ask → Steps old (Asks t ask) reply new → is_host_fault reply ≡ false → new ≡ insert old t (left_by view ask)
lacking_world old new t view name ask reply here lacks (Answered other there told set) fine =
    set ∙ ap (λ v. insert old t (answer (met_by old t) v ask).1) (some_same other view (sym there ∙ here)) ∙ ap (λ row. insert old t row.1) (lacking_answer (met_by old t) view name ask lacks)
lacking_world old new t view name ask reply here lacks (Unknown absent told stays) fine = (let differs : ⊥ = cc (sym absent ∙ here) in absurd differs)
lacking_world old new t view name ask reply here lacks (Faulted bad stays) fine = (let differs : ⊥ = cc (sym fine ∙ bad) in absurd differs)
