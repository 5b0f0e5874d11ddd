-- A push without commands whose links are all met can be refused only by the limit; so can a push of what was fetched.
use Rattle.std.proofs.Common.{◌≡◌, ℕ, ◌≤◌, not, Bool, true, false, cond, List, [], ◌∷◌, Option, None, Some, Ok, Err, refl, sym, ap, ap₂, subst, ◌∙◌, arith, map}
use Rattle.std.specs.Prelude.{Contains, is_none, nat_lt}
use Rattle.std.specs.List.{AllByRecursion, find}
use Rattle.std.specs.Option.{option_map, option_or}
use Rattle.std.specs.FinMap.{get, insert, len}
use Rattle.std.proofs.lemmas.Bool.{and_parts}
use Rattle.std.proofs.lemmas.Bool.Decides.{nat_tests}
use Rattle.git_name.specs.declared.kind.Kind.{Kind}
use Rattle.git_name.specs.declared.kind.Kind.TheVariants.{Blob, Tree, Commit, Tag}
use Rattle.git_name.specs.Object.{object_name}
use Rattle.git_object.specs.declared.link.Link.{Link}
use Rattle.git_object.specs.ObjectIn.{links_in}
use Rattle.git_reftx.specs.declared.fault.TxRefusal.TheVariants.{TooMany}
use Rattle.git_reftx.specs.Known.{Kinds}
use Rattle.git_reftx.specs.Transaction
use Rattle.git_reftx.specs.Repository.{Repository}
use Rattle.git_reftx.specs.Transaction.{References, least_upper, refusal_of, transacted}
use Rattle.push_stream.specs.Stream.{finished, stream_of}
use Rattle.fork_push.specs.declared.refusal.PushRefusal.TheVariants.{Missing, OverQuota, WrongType}
use Rattle.fork_push.specs.Push.{has_kind, is_missing, is_wrong, judged, link_refusal, links_under, same_kind, refusal_or, within_limit}
use Rattle.fork_query.specs.Fetch.{fetched}
use Rattle.fork_reach.specs.Objects.{use_of}
use Rattle.fork_reach.specs.Reach.{is_reached, linked_names, links_of_found}
use Rattle.fork_reach.specs.Source.{Objects, kind_in}
use Rattle.fork_reach.proofs.ReachLemmas.{next_reached}
use Rattle.fork_request.specs.declared.refusal.Refusal.TheVariants.{OverQuota as TooMuch}
use Rattle.fork_request.specs.declared.reply.Reply.TheVariants.{Done, Refused}
use Rattle.fork_model.specs.Answer.{pushed, taken}
use Rattle.fork_model.specs.Sound.{AreReferences, IsMet, IsRight}
use Rattle.fork_model.specs.Transfer.{AreSendable, HasPrerequisites, fetched_objects, received, within_quota}
use Rattle.fork_model.specs.View.{View}
use Rattle.fork_model.proofs.ClosedLemmas.{joined}
use Rattle.fork_model.proofs.FetchedLemmas.{each_value, fetched_flow}
use Rattle.fork_model.proofs.KeptLemmas.{met_alike}
use Rattle.fork_model.proofs.TransferLemmas.{arrived}

-- if each link is met, none is missing and none is wrong
known_kind : (found : Option Kind) (kind : Kind) → found ≡ Some kind → is_none found ≡ false
known_kind found kind is = ap is_none is

kind_itself : (kind : Kind) → same_kind kind kind ≡ true
kind_itself Blob = refl
kind_itself Tree = refl
kind_itself Commit = refl
kind_itself Tag = refl

right_kind : (kind : Kind) (found : Option Kind) → found ≡ Some kind → not (has_kind kind found) ≡ false
right_kind kind found is = ap (λ o. not (has_kind kind o)) is ∙ ap not (kind_itself kind)

none_missing : (objects : Objects) (links : List Link) → AllByRecursion (IsMet objects) links → find (is_missing objects) links ≡ None
none_missing objects [] met = refl
none_missing objects (link ∷ links) met =
    ap (λ b. cond b (Some link) (find (is_missing objects) links)) (known_kind (kind_in objects link.name) link.kind met.0) ∙ none_missing objects links met.1

none_wrong : (objects : Objects) (links : List Link) → AllByRecursion (IsMet objects) links → find (is_wrong objects) links ≡ None
none_wrong objects [] met = refl
none_wrong objects (link ∷ links) met =
    ap (λ b. cond b (Some link) (find (is_wrong objects) links)) (right_kind link.kind (kind_in objects link.name) met.0) ∙ none_wrong objects links met.1

no_link_refused : (objects : Objects) (links : List Link) → AllByRecursion (IsMet objects) links → link_refusal objects links ≡ None
no_link_refused objects links met =
    ap₂ option_or (ap (option_map (λ (link : Link). Missing link.name)) (none_missing objects links met)) (ap (option_map (λ (link : Link). WrongType link.name)) (none_wrong objects links met))

-- valid references stay as they are without commands
not_many : (n : ℕ) → n ≤ 4096 → cond (nat_lt 4096 n) (Some TooMany) None ≡ None
not_many n few = ap (λ b. cond b (Some TooMany) None) (few_is n few)
  where
    few_is : (n : ℕ) → n ≤ 4096 → nat_lt 4096 n ≡ false
    few_is n few = grind (arith, nat_tests)

unchanged : (objects : Objects) (old : References) (known : Kinds) → AreReferences objects old → transacted old [] known ≡ Ok old
unfolding transacted
unchanged objects old known right =
    ap (λ refusal. Transaction.unless_refused refusal old) (ap₂ option_or (ap Transaction.conflict right.apart) (not_many (len old) right.few))

-- links of several objects
all_under : (objects : Objects) (names : List (List ℕ)) → AllByRecursion (λ name. AllByRecursion (IsMet objects) (links_of_found (get objects name))) names → AllByRecursion (IsMet objects) (links_under objects names)
all_under objects [] met = tt
all_under objects (name ∷ names) met = joined (IsMet objects) (links_of_found (get objects name)) (links_under objects names) met.0 (all_under objects names met.1)

-- the verdict on a push without commands, if each link is met
judged_met : (seen objects : Objects) (old : References) (limit : ℕ) (names : List (List ℕ)) → AreReferences seen old → AllByRecursion (IsMet objects) (links_under objects names)
    → judged objects old limit (Ok ([], names)) ≡ cond (nat_lt limit (use_of objects)) (Err OverQuota) (Ok old)
unfolding judged
judged_met seen objects old limit names right met =
    ap₂ refusal_or (no_link_refused objects (links_under objects names) met) (ap (within_limit objects limit) (unchanged seen old (kind_in objects) right))

of_map : {A B : Type 0} (P : B → Type 0) (f : A → B) (xs : List A) → AllByRecursion (λ x. P (f x)) xs → AllByRecursion P (map f xs)
of_map P f [] all = tt
of_map P f (x ∷ xs) all = (all.0, of_map P f xs all.1)

-- each link of what was fetched is met beside what the receiver holds
fetched_met : (receiver : Objects) (view : View) (wanted excluded : List (List ℕ)) → IsRight view → HasPrerequisites receiver view.objects excluded
    → AllByRecursion (IsMet (received receiver view.objects wanted excluded)) (links_under (received receiver view.objects wanted excluded) (map object_name (fetched_objects view.objects wanted excluded)))
fetched_met receiver view wanted excluded right has =
    let objects = received receiver view.objects wanted excluded in
    all_under objects (map object_name (fetched_objects view.objects wanted excluded))
    (of_map (λ name. AllByRecursion (IsMet objects) (links_of_found (get objects name))) object_name (fetched_objects view.objects wanted excluded)
    (each_value (λ object. AllByRecursion (IsMet objects) (links_of_found (get objects (object_name object)))) view.objects _ (λ name object kept is.
    let reached = (and_parts (is_reached (linked_names view.objects) view.objects wanted name) _ kept).0 in
    let found = ap (get objects) (right.named name object is) ∙ arrived receiver view wanted excluded right has name reached ∙ is in
    subst (λ o. AllByRecursion (IsMet objects) (links_of_found o)) (sym found)
    (met_alike view.objects objects (links_in object.kind object.bytes) (λ other at there.
    arrived receiver view wanted excluded right has other
    (next_reached (linked_names view.objects) view.objects wanted name other reached (subst (λ o. Contains (map (λ link. link.name) (links_of_found o)) other) (sym is) at) there))
    (right.closed name object is)))))

-- so only the limit can refuse a push of it
pub fetched_judged : (receiver sender : View) (wanted excluded : List (List ℕ)) (old : References) → IsRight sender → HasPrerequisites receiver.objects sender.objects excluded → AreReferences receiver.objects old
    → judged (received receiver.objects sender.objects wanted excluded) old receiver.limit (Ok ([], map object_name (fetched_objects sender.objects wanted excluded)))
    ≡ cond (nat_lt receiver.limit (use_of (received receiver.objects sender.objects wanted excluded))) (Err OverQuota) (Ok old)
fetched_judged receiver sender wanted excluded old right has references =
    judged_met receiver.objects (received receiver.objects sender.objects wanted excluded) old receiver.limit (map object_name (fetched_objects sender.objects wanted excluded)) references
    (fetched_met receiver.objects sender wanted excluded right has)

taken_by : (view : View) (word : List ℕ) (objects : Objects) (old : Repository) (over : Bool)
    → taken view word old objects (cond over (Err OverQuota) (Ok old.references)) ≡ cond over (Refused TooMuch, view) (Done [], record view { repositories = insert view.repositories word old; objects = objects })
taken_by view word objects old true = refl
taken_by view word objects old false = refl

pub fetched_pushed : (receiver sender : View) (wanted excluded : List (List ℕ)) (word : List ℕ) (old : Repository) → IsRight sender → AreSendable sender.objects → HasPrerequisites receiver.objects sender.objects excluded
    → AreReferences receiver.objects old.references
    → pushed receiver word old (finished (stream_of (10 ∷ fetched sender.objects wanted excluded))) ≡ within_quota receiver word old (received receiver.objects sender.objects wanted excluded)
fetched_pushed receiver sender wanted excluded word old right sendable has references =
    let objects = received receiver.objects sender.objects wanted excluded in
    ap (λ s. pushed receiver word old (finished s)) (fetched_flow sender.objects wanted excluded right.right sendable)
    ∙ ap (taken receiver word old objects) (fetched_judged receiver sender wanted excluded old.references right has references)
    ∙ taken_by receiver word objects old (nat_lt receiver.limit (use_of objects))
