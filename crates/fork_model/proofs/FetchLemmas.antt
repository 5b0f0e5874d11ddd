-- The answer to a fetch, and what the answer to a push of it is.
use Rattle.std.proofs.Common.{◌≡◌, ℕ, Bool, true, false, cond, List, ◌∷◌, None, Some, Ok, sym, ap, ◌∙◌, is_some, length}
use Rattle.std.specs.Prelude.{nat_lt}
use Rattle.std.specs.FinMap.{get}
use Rattle.git_reftx.specs.Repository.{Repository}
use Rattle.push_stream.specs.Stream.{finished, stream_of}
use Rattle.fork_query.specs.Fetch.{fetch_told, fetched, fetched_of}
use Rattle.fork_query.specs.Items.{object_of_item}
use Rattle.fork_query.specs.Sides.{Selection, selected}
use Rattle.fork_request.specs.Asked.{Fetches, Pushes}
use Rattle.fork_request.specs.Names.{is_plain_name}
use Rattle.fork_request.proofs.NameLemmas.{plain_test}
use Rattle.fork_request.specs.declared.refusal.Refusal.TheVariants.{BadName, TooMany, UploadOpen}
use Rattle.fork_request.specs.declared.reply.Reply.{Reply}
use Rattle.fork_request.specs.declared.reply.Reply.TheVariants.{Done, Refused}
use Rattle.fork_model.specs.Answer.{answer, fetch_answer, push_answer, push_into, pushed, reply_of, told_over}
use Rattle.fork_model.specs.Context.{Context}
use Rattle.fork_model.specs.Sound.{IsOrderly, IsRight}
use Rattle.fork_model.specs.Transfer.{AreSendable, HasPrerequisites, received, within_quota}
use Rattle.fork_model.specs.View.{View}
use Rattle.fork_model.proofs.TakenLemmas.{fetched_pushed}

-- data that is returned after two refusals were ruled out
told_behind : (view : View) (plain many : Bool) (word : List ℕ) (reply : Reply) (text : List ℕ)
    → (cond {A = Reply × View} plain (cond many (Refused TooMany) reply, view) (Refused (BadName word), view)).0 ≡ Done text → reply ≡ Done text
told_behind view true true word reply text is = absurd (cc)
told_behind view true false word reply text is = is
told_behind view false many word reply text is = absurd (cc)

same_text : (a b : List ℕ) → Done a ≡ Done b → a ≡ b
same_text a b is = cc

-- the data of a fetch
fetched_text : (context : Context) (view : View) (word : List ℕ) (items : List (List ℕ)) (repository : Repository) (selection : Selection) (text : List ℕ)
    → get view.repositories word ≡ Some repository → selected (object_of_item view.objects repository) items ≡ Ok selection → (answer context view (Fetches word items)).0 ≡ Done text
    → fetched view.objects selection.wanted selection.excluded ≡ text
unfolding answer fetch_answer fetch_told
fetched_text context view word items repository selection text there chosen is =
    let said = told_behind view (is_plain_name 64 word) (nat_lt 64 (length items)) word (told_over word (λ repository. fetch_told view.objects repository items) (get view.repositories word)) text is in
    let found = ap (told_over word (λ repository. fetch_told view.objects repository items)) there ∙ ap (λ sides. reply_of (fetched_of view.objects sides)) chosen in
    same_text (fetched view.objects selection.wanted selection.excluded) text (sym found ∙ said)

-- a push into an existing repository, while no upload is open
push_answered : (context : Context) (view : View) (word body : List ℕ) (old : Repository) → IsOrderly view → get view.repositories word ≡ Some old → view.upload ≡ None
    → answer context view (Pushes word body) ≡ pushed view word old (finished (stream_of body))
unfolding answer push_answer
push_answered context view word body old orderly there none =
    ap (λ b. cond {A = Reply × View} b (push_into view word body (get view.repositories word)) (Refused (BadName word), view)) (plain_test 64 word (orderly.repositories word old there))
    ∙ ap (push_into view word body) there
    ∙ ap (λ o. cond {A = Reply × View} (is_some o) (Refused UploadOpen, view) (pushed view word old (finished (stream_of body)))) none

-- a push takes what a fetch returns
pub fetch_pushed : (context other : Context) (receiver sender : View) (source word : List ℕ) (items : List (List ℕ)) (repository old : Repository) (selection : Selection) (text : List ℕ)
    → IsRight sender → AreSendable sender.objects → IsOrderly receiver
    → get sender.repositories source ≡ Some repository → selected (object_of_item sender.objects repository) items ≡ Ok selection
    → (answer context sender (Fetches source items)).0 ≡ Done text
    → HasPrerequisites receiver.objects sender.objects selection.excluded
    → get receiver.repositories word ≡ Some old → receiver.upload ≡ None
    → answer other receiver (Pushes word (10 ∷ text)) ≡ within_quota receiver word old (received receiver.objects sender.objects selection.wanted selection.excluded)
fetch_pushed context other receiver sender source word items repository old selection text right sendable orderly there chosen is has open_is none =
    ap (λ text. answer other receiver (Pushes word (10 ∷ text))) (sym (fetched_text context sender source items repository selection text there chosen is))
    ∙ push_answered other receiver word (10 ∷ fetched sender.objects selection.wanted selection.excluded) old orderly open_is none
    ∙ fetched_pushed receiver sender selection.wanted selection.excluded word old right sendable has (orderly.references word old open_is)
