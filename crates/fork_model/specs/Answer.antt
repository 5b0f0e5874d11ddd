-- The answer to each request: the reply, and the view afterwards. Refusals are listed in the order in which they are judged.
use Rattle.std.specs.Prelude.{ℕ, ◌+◌, nat_eq, nat_le, nat_lt, List, [], ◌++◌, ◌&&◌, not, length, codes, decimal, Option, Some, None, is_some, Result, Ok, Err, if◌then◌else◌}
use Rattle.fork_request.specs.declared.name.TheConstants.{MAX_REPOSITORY_NAME, MAX_TENANT_NAME}
use Rattle.push_stream.specs.declared.upload_limit.TheConstants.{MAX_UPLOAD}
use Rattle.fork_model.specs.declared.limits.TheConstants.{MAX_ITEMS, MAX_OFFERS, MAX_REPOSITORIES}
use Rattle.std.specs.List.{flat_map}
use Rattle.std.specs.FinMap.{get, insert, remove, contains_key, keys, len, retain_keys, values}
use Rattle.git_name.specs.Maps.{joined}
use Rattle.git_name.specs.Object.{Object}
use Rattle.git_name.specs.Same.{same_name}
use Rattle.git_reftx.specs.declared.command.Command.{Command}
use Rattle.git_reftx.specs.declared.fault.CommandFault.{CommandFault}
use Rattle.git_reftx.specs.declared.fault.CommandFault.TheVariants as command
use Rattle.git_reftx.specs.declared.fault.TxRefusal.{TxRefusal}
use Rattle.git_reftx.specs.declared.fault.TxRefusal.TheVariants as tx
use Rattle.git_reftx.specs.Reading.{commands_of}
use Rattle.git_reftx.specs.Repository.{Repository, branch_in, new_repository}
use Rattle.git_reftx.specs.Transaction.{References, transacted}
use Rattle.push_stream.specs.declared.fault.StreamFault.{StreamFault}
use Rattle.push_stream.specs.declared.fault.StreamFault.TheVariants as stream
use Rattle.push_stream.specs.Brief.{brief_of}
use Rattle.push_stream.specs.Stream.{finished, stream_of}
use Rattle.push_stream.specs.Upload.{UploadValue, continued, upload_of}
use Rattle.fork_push.specs.declared.refusal.PushRefusal.{PushRefusal}
use Rattle.fork_push.specs.declared.refusal.PushRefusal.TheVariants as push
use Rattle.fork_push.specs.Push.{judged}
use Rattle.fork_reach.specs.Objects.{use_of, with_objects}
use Rattle.fork_reach.specs.Reach.{is_reached, linked_names}
use Rattle.fork_reach.specs.Source.{Objects, kind_in}
use Rattle.fork_query.specs.Fetch.{fetch_told}
use Rattle.fork_query.specs.Head.{head_told}
use Rattle.fork_query.specs.MergeBase.{bases_told}
use Rattle.fork_query.specs.Objects.{object_told}
use Rattle.fork_query.specs.References.{listing}
use Rattle.fork_query.specs.RevList.{revisions_told}
use Rattle.fork_query.specs.Trees.{tree_told}
use Rattle.fork_request.specs.Asked.{Ask, Inits, Drops, Forks, Pushes, SendsPart, EndsParts, DropsParts, Updates, SetsHead, MakesOffer, Withdraws, ForksOffer, AsksObject, AsksTree, AsksRevisions, AsksBases, AsksReferences, AsksHead, AsksOffers, AsksRepositories, Fetches, AsksUse, Prunes, NoRequest}
use Rattle.fork_request.specs.Names.{is_plain_name}
use Rattle.fork_request.specs.declared.refusal.Refusal.{Refusal}
use Rattle.fork_request.specs.declared.refusal.Refusal.TheVariants.{BadRequest, BadName, RepositoryExists, NoRepository, BadRef, RepeatedRef, Stale, RefConflict, NotACommit, Missing, WrongType, OverQuota, TooMany, Syntax, WrongName, BadObject, Truncated, TooLarge, StagedTooLong, NoUpload, UploadOpen, OfferExists, NoOffer}
use Rattle.fork_request.specs.declared.reply.Reply.{Reply}
use Rattle.fork_request.specs.declared.reply.Reply.TheVariants.{Done, Unchanged, Refused}
use Rattle.fork_model.specs.Context.{Context}
use Rattle.fork_model.specs.Offer.{Offer, Offers, Pair, offered}
use Rattle.fork_model.specs.View.{View, Repositories}

-- the answer to a word given as a repository: a refusal of the word, or the row's answer
abbrev pub named_repository : View → List ℕ → Reply × View → Reply × View
named_repository view word row = if is_plain_name MAX_REPOSITORY_NAME word then row else (Refused (BadName word), view)

-- one more repository, if none has this name and there is room for it
abbrev pub repository_added : View → List ℕ → Repository → Reply × View
repository_added view word repository =
    if contains_key view.repositories word then (Refused (RepositoryExists word), view)
    else if nat_le MAX_REPOSITORIES (len view.repositories) then (Refused TooMany, view)
    else (Done [], record view { repositories = insert view.repositories word repository })

-- `init REPO`: a new repository, whose HEAD names `refs/heads/main`, without references
unfoldable pub init_answer : View → List ℕ → Reply × View
init_answer view word = named_repository view word (repository_added view word new_repository)

-- `drop REPO`: removes the repository and its references; objects stay
abbrev pub dropped : View → List ℕ → Reply × View
dropped view repository =
    if contains_key view.repositories repository then (Done [], record view { repositories = remove view.repositories repository })
    else (Refused (NoRepository repository), view)

unfoldable pub drop_answer : View → List ℕ → Reply × View
drop_answer view word = named_repository view word (dropped view word)

-- `fork SRC DST`: a new repository of the same tenant, with the same HEAD and references
abbrev pub copied : View → List ℕ → List ℕ → Option Repository → Reply × View
copied view source copy None = (Refused (NoRepository source), view)
copied view source copy (Some repository) = repository_added view copy repository

unfoldable pub fork_answer : View → List ℕ → List ℕ → Reply × View
fork_answer view source copy = named_repository view source (named_repository view copy (copied view source copy (get view.repositories source)))

-- how a reply reports what is wrong with a body of commands
abbrev pub command_refusal : CommandFault → Refusal
command_refusal command.Syntax = Syntax
command_refusal command.TooMany = TooMany
command_refusal command.Truncated = Truncated

-- how a reply reports why a transaction was refused
abbrev pub transaction_refusal : TxRefusal → Refusal
transaction_refusal (tx.BadRef word) = BadRef word
transaction_refusal (tx.RepeatedRef reference) = RepeatedRef reference
transaction_refusal (tx.Missing name) = Missing name
transaction_refusal (tx.NotACommit name) = NotACommit name
transaction_refusal (tx.Stale reference) = Stale reference
transaction_refusal (tx.RefConflict reference) = RefConflict reference
transaction_refusal tx.TooMany = TooMany

-- how a reply reports what is wrong with a stream
abbrev pub stream_refusal : StreamFault → Refusal
stream_refusal stream.Syntax = Syntax
stream_refusal stream.TooMany = TooMany
stream_refusal (stream.TooLarge name) = TooLarge name
stream_refusal (stream.WrongName name) = WrongName name
stream_refusal (stream.BadObject name) = BadObject name
stream_refusal stream.Truncated = Truncated

-- how a reply reports why a push was refused
abbrev pub push_refusal : PushRefusal → Refusal
push_refusal (push.Stream fault) = stream_refusal fault
push_refusal (push.Missing name) = Missing name
push_refusal (push.WrongType name) = WrongType name
push_refusal (push.Transaction refusal) = transaction_refusal refusal
push_refusal push.OverQuota = OverQuota

-- what a whole stream holds, or the fault of the stream
abbrev pub Finished : Type 0
Finished = Result (List Command × List Object) StreamFault

-- the objects that the tenant sees and those sent: if several share a name, the one that it sees counts, otherwise the first sent
abbrev pub both : View → Finished → Objects
both view (Ok held) = with_objects view.objects held.1
both view (Err fault) = view.objects

-- the repository has these references, and the sent objects are seen beside the others
abbrev pub taken : View → List ℕ → Repository → Objects → Result References PushRefusal → Reply × View
taken view word old objects (Ok references) =
    (Done [], record view { repositories = insert view.repositories word (record old { references = references }); objects = objects })
taken view word old objects (Err refusal) = (Refused (push_refusal refusal), view)

-- the answer to a push of a stream that is at its end
abbrev pub pushed : View → List ℕ → Repository → Finished → Reply × View
pushed view word old held = taken view word old (both view held) (judged (both view held) old.references view.limit (brief_of held))

-- `push REPO` and a body: the repository exists, no upload is open, and the body is judged
abbrev pub push_into : View → List ℕ → List ℕ → Option Repository → Reply × View
push_into view word body None = (Refused (NoRepository word), view)
push_into view word body (Some old) = if is_some view.upload then (Refused UploadOpen, view) else pushed view word old (finished (stream_of body))

unfoldable pub push_answer : View → List ℕ → List ℕ → Reply × View
push_answer view word body = named_repository view word (push_into view word body (get view.repositories word))

-- the open upload, or one that has received nothing yet
abbrev pub open_upload : Option UploadValue → UploadValue
open_upload (Some upload) = upload
open_upload None = upload_of []

-- `part` and a body: continues the upload by these bytes; what is wrong with it is reported at its end
unfoldable pub part_answer : View → List ℕ → Reply × View
part_answer view body =
    if nat_lt MAX_UPLOAD ((open_upload view.upload).count + length body) then (Refused StagedTooLong, view)
    else (Done [], record view { upload = Some (continued (open_upload view.upload) body) })

-- the view without the upload
abbrev pub without_upload : View → View
without_upload view = record view { upload = None }

-- a row that ends the upload whatever it answers
abbrev pub upload_ended : Reply × View → Reply × View
upload_ended row = (row.0, without_upload row.1)

-- an upload that ends is judged as the body of a push
abbrev pub upload_into : View → List ℕ → Repository → Option UploadValue → Reply × View
upload_into view word old None = (Refused NoUpload, view)
upload_into view word old (Some upload) = pushed view word old (finished upload.stream)

abbrev pub end_in : View → List ℕ → Option Repository → Reply × View
end_in view word None = (Refused (NoRepository word), view)
end_in view word (Some old) = upload_into view word old view.upload

-- `part-end REPO`: the repository exists, an upload is open, and it is judged
unfoldable pub part_end_answer : View → List ℕ → Reply × View
part_end_answer view word = upload_ended (named_repository view word (end_in view word (get view.repositories word)))

-- `part-drop`: discards the upload
unfoldable pub part_drop_answer : View → Reply × View
part_drop_answer view = if is_some view.upload then (Done [], without_upload view) else (Refused NoUpload, view)

-- the repository has the references that the transaction leaves
abbrev pub with_references : View → List ℕ → Repository → Result References TxRefusal → Reply × View
with_references view word old (Ok references) = (Done [], record view { repositories = insert view.repositories word (record old { references = references }) })
with_references view word old (Err refusal) = (Refused (transaction_refusal refusal), view)

-- the commands are carried out, over the objects that the tenant sees
abbrev pub carried_out : View → List ℕ → Repository → Result (List Command) CommandFault → Reply × View
carried_out view word old (Ok commands) = with_references view word old (transacted old.references commands (kind_in view.objects))
carried_out view word old (Err fault) = (Refused (command_refusal fault), view)

-- `update-refs REPO` and a body: a transaction of the repository's references
abbrev pub update_in : View → List ℕ → List ℕ → Option Repository → Reply × View
update_in view word body None = (Refused (NoRepository word), view)
update_in view word body (Some old) = carried_out view word old (commands_of body)

unfoldable pub update_answer : View → List ℕ → List ℕ → Reply × View
update_answer view word body = named_repository view word (update_in view word body (get view.repositories word))

-- HEAD names this branch, whether it exists or not
abbrev pub with_head : View → List ℕ → Repository → List ℕ → Option (List ℕ) → Reply × View
with_head view word old reference (Some branch) = (Done [], record view { repositories = insert view.repositories word (record old { head = branch }) })
with_head view word old reference None = (Refused (BadRef reference), view)

-- `set-head REPO REF`: the word is a valid branch name
abbrev pub set_head_in : View → List ℕ → List ℕ → Option Repository → Reply × View
set_head_in view word reference None = (Refused (NoRepository word), view)
set_head_in view word reference (Some old) = with_head view word old reference (branch_in reference)

unfoldable pub set_head_answer : View → List ℕ → List ℕ → Reply × View
set_head_answer view word reference = named_repository view word (set_head_in view word reference (get view.repositories word))

-- the answer to a word given as a receiver: a refusal of the word or of the tenant's own name, or the row's answer
abbrev pub named_receiver : Context → View → List ℕ → Reply × View → Reply × View
named_receiver context view word row = if is_plain_name MAX_TENANT_NAME word && not (same_name word context.own) then row else (Refused (BadName word), view)

-- one more offer of a repository as it is, if none of it was made to the receiver and there is room for it
abbrev pub offer_added : View → Pair → Repository → Reply × View
offer_added view key repository =
    if contains_key view.made key then (Refused (OfferExists key.0 key.1), view)
    else if nat_le MAX_OFFERS (len view.made) then (Refused TooMany, view)
    else (Done [], record view { made = insert view.made key (offered view.objects repository) })

abbrev pub offer_in : View → List ℕ → List ℕ → Option Repository → Reply × View
offer_in view word receiver None = (Refused (NoRepository word), view)
offer_in view word receiver (Some repository) = offer_added view (receiver, word) repository

-- `offer REPO TENANT`: an offer of the repository as it is; whether the receiver exists makes no difference
unfoldable pub offer_answer : Context → View → List ℕ → List ℕ → Reply × View
offer_answer context view word receiver = named_repository view word (named_receiver context view receiver (offer_in view word receiver (get view.repositories word)))

-- removes an offer, if it exists
abbrev pub withdrawn : View → Pair → Reply × View
withdrawn view key = if contains_key view.made key then (Done [], record view { made = remove view.made key }) else (Refused (NoOffer key.0 key.1), view)

-- `withdraw REPO TENANT`: removes the offer; the repository need not exist any more
unfoldable pub withdraw_answer : Context → View → List ℕ → List ℕ → Reply × View
withdraw_answer context view word receiver = named_repository view word (named_receiver context view receiver (withdrawn view (receiver, word)))

-- the answer to a word given as a giver
abbrev pub named_giver : View → List ℕ → Reply × View → Reply × View
named_giver view word row = if is_plain_name MAX_TENANT_NAME word then row else (Refused (BadName word), view)

-- a new repository of what was offered, whose objects are seen beside the others, if all is within the limit
abbrev pub offer_taken : View → List ℕ → Offer → Reply × View
offer_taken view copy offer =
    if contains_key view.repositories copy then (Refused (RepositoryExists copy), view)
    else if nat_le MAX_REPOSITORIES (len view.repositories) then (Refused TooMany, view)
    else if nat_lt view.limit (use_of (joined view.objects offer.objects)) then (Refused OverQuota, view)
    else (Done [], record view { repositories = insert view.repositories copy offer.repository; objects = joined view.objects offer.objects })

abbrev pub fork_offered : View → Pair → List ℕ → Option Offer → Reply × View
fork_offered view key copy None = (Refused (NoOffer key.0 key.1), view)
fork_offered view key copy (Some offer) = offer_taken view copy offer

-- `fork-offer GIVER REPO DST`: a new repository of what the giver offered
unfoldable pub fork_offer_answer : Context → View → List ℕ → List ℕ → List ℕ → Reply × View
fork_offer_answer context view giver word copy =
    named_giver view giver (named_repository view word (named_repository view copy (fork_offered view (giver, word) copy (get context.offered (giver, word)))))

-- a row for an offer: a word, the other tenant, the repository
abbrev pub offer_row : List ℕ → Pair → List ℕ
offer_row word key = word ++ key.0 ++ codes " " ++ key.1 ++ codes "\n"

-- a row for each
abbrev pub offer_rows : List ℕ → Offers → List ℕ
offer_rows word offers = flat_map (offer_row word) (keys offers)

-- `offers`: those to the tenant, then those that it has made
unfoldable pub offers_answer : Context → View → Reply × View
offers_answer context view = (Done (offer_rows (codes "from ") context.offered ++ offer_rows (codes "to ") view.made), view)

-- how a reply reports what was found
abbrev pub reply_of : Result (List ℕ) Refusal → Reply
reply_of (Ok text) = Done text
reply_of (Err refusal) = Refused refusal

-- `cat-file NAME`: the record of the object
unfoldable pub cat_file_answer : View → List ℕ → Reply × View
cat_file_answer view name = (reply_of (object_told view.objects name), view)

-- `ls-tree NAME`: the entries of the tree that the name leads to
unfoldable pub ls_tree_answer : View → List ℕ → Reply × View
ls_tree_answer view name = (reply_of (tree_told view.objects name), view)

-- the answer to a query about a repository, if it exists
abbrev pub told_over : List ℕ → (Repository → Result (List ℕ) Refusal) → Option Repository → Reply
told_over word query None = Refused (NoRepository word)
told_over word query (Some repository) = reply_of (query repository)

-- items, if there are not too many
abbrev pub few_items : List (List ℕ) → Reply → Reply
few_items items reply = if nat_lt MAX_ITEMS (length items) then Refused TooMany else reply

-- `rev-list REPO ITEM..`: the ancestors of the wanted commits except those of the excluded ones, the newest first
unfoldable pub rev_list_answer : View → List ℕ → List (List ℕ) → Reply × View
rev_list_answer view word items =
    named_repository view word (few_items items (told_over word (λ repository. revisions_told view.objects repository items) (get view.repositories word)), view)

-- `merge-base REPO A B`: the best common ancestors
unfoldable pub merge_base_answer : View → List ℕ → List ℕ → List ℕ → Reply × View
merge_base_answer view word first second =
    named_repository view word (told_over word (λ repository. bases_told view.objects repository first second) (get view.repositories word), view)

-- `fetch REPO ITEM..`: the records of what the wanted objects reach and the excluded ones do not
unfoldable pub fetch_answer : View → List ℕ → List (List ℕ) → Reply × View
fetch_answer view word items =
    named_repository view word (few_items items (told_over word (λ repository. fetch_told view.objects repository items) (get view.repositories word)), view)

-- `for-each-ref REPO [PREFIX]`: the references, ascending by name
abbrev pub told_references : View → List ℕ → Option (List ℕ) → Option Repository → Reply
told_references view word prefix None = Refused (NoRepository word)
told_references view word prefix (Some repository) = Done (listing view.objects repository.references prefix)

unfoldable pub references_answer : View → List ℕ → Option (List ℕ) → Reply × View
references_answer view word prefix = named_repository view word (told_references view word prefix (get view.repositories word), view)

-- `head REPO`: the branch that HEAD names, and if it exists SP and its target, LF
unfoldable pub head_answer : View → List ℕ → Reply × View
head_answer view word = named_repository view word (told_over word (λ repository. Ok (head_told repository)) (get view.repositories word), view)

-- `repos`: the names of the repositories, ascending, each with LF
unfoldable pub repositories_answer : View → Reply × View
repositories_answer view = (Done (flat_map (λ name. name ++ codes "\n") (keys view.repositories)), view)

-- `quota`: what the objects use, SP, the limit, LF
unfoldable pub quota_answer : View → Reply × View
quota_answer view = (Done (decimal (use_of view.objects) ++ codes " " ++ decimal view.limit ++ codes "\n"), view)

-- the objects at which references of these repositories point
abbrev pub targets_of : Repositories → List (List ℕ)
targets_of repositories = flat_map (λ repository. values repository.references) (values repositories)

-- and those at which references of these offers point
abbrev pub targets_made : Offers → List (List ℕ)
targets_made made = flat_map (λ offer. values offer.repository.references) (values made)

-- the roots of pruning: the targets of references of repositories, and of offers that exist
abbrev pub roots_of : View → List (List ℕ)
roots_of view = targets_of view.repositories ++ targets_made view.made

-- `prune`: removes objects that no reference of a repository or of one of the tenant's own offers reaches
abbrev pub pruned : View → View
pruned view = record view { objects = retain_keys view.objects (is_reached (linked_names view.objects) view.objects (roots_of view)) }

-- the reply: `Unchanged` if what is kept uses as much as there was, so that all is kept
abbrev pub pruned_reply : Objects → Objects → Reply
pruned_reply old kept = if nat_eq (use_of kept) (use_of old) then Unchanged else Done []

unfoldable pub prune_answer : View → Reply × View
prune_answer view = (pruned_reply view.objects (pruned view).objects, pruned view)

-- the reply to a tenant's request in this context, and the view afterwards
unfoldable pub answer : Context → View → Ask → Reply × View
answer context view (Inits repository) = init_answer view repository
answer context view (Drops repository) = drop_answer view repository
answer context view (Forks source copy) = fork_answer view source copy
answer context view (Pushes repository body) = push_answer view repository body
answer context view (SendsPart body) = part_answer view body
answer context view (EndsParts repository) = part_end_answer view repository
answer context view DropsParts = part_drop_answer view
answer context view (Updates repository body) = update_answer view repository body
answer context view (SetsHead repository reference) = set_head_answer view repository reference
answer context view (MakesOffer repository receiver) = offer_answer context view repository receiver
answer context view (Withdraws repository receiver) = withdraw_answer context view repository receiver
answer context view (ForksOffer giver repository copy) = fork_offer_answer context view giver repository copy
answer context view (AsksObject name) = cat_file_answer view name
answer context view (AsksTree name) = ls_tree_answer view name
answer context view (AsksRevisions repository items) = rev_list_answer view repository items
answer context view (AsksBases repository first second) = merge_base_answer view repository first second
answer context view (AsksReferences repository prefix) = references_answer view repository prefix
answer context view (AsksHead repository) = head_answer view repository
answer context view AsksOffers = offers_answer context view
answer context view (Fetches repository items) = fetch_answer view repository items
answer context view AsksRepositories = repositories_answer view
answer context view AsksUse = quota_answer view
answer context view Prunes = prune_answer view
answer context view NoRequest = (Refused BadRequest, view)

-- what a refusal leaves: the view, without the upload if its end was asked for
abbrev pub left_by : View → Ask → View
left_by view (EndsParts repository) = without_upload view
left_by view ask = view
