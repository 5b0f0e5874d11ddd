-- Answers keep what can be sent, since what is seen was seen before or sent.
use Rattle.std.proofs.Common.{◌≡◌, ◌∷◌, ℕ, ◌≤◌, List, [], Option, None, Some, refl, sym, subst, ◌∙◌, length}
use Rattle.git_name.specs.Object.{Object}
use Rattle.push_stream.specs.declared.content_limit.TheConstants.{MAX_CONTENT}
use Rattle.push_stream.specs.Spelling.{AreWithin}
use Rattle.push_stream.specs.Stream.{sent_in, stream_of}
use Rattle.push_stream.specs.Upload.{UploadValue, continued}
use Rattle.fork_request.specs.Asked.{Ask}
use Rattle.fork_model.specs.Answer.{answer, open_upload}
use Rattle.fork_model.specs.Provenance.{IsAmong, IsFrom, Seen, Pushed, Uploaded, Taken, IsUploadFrom, Stays, Ends, GoesOn}
use Rattle.std.specs.FinMap.{values}
use Rattle.fork_reach.specs.Reach.{is_reached, linked_names}
use Rattle.fork_request.specs.declared.reply.Reply.{Reply}
use Rattle.fork_model.specs.Context.{Context, met_by}
use Rattle.fork_model.specs.Runs.{Asks, HostAsks, Answered, Unknown, Faulted, HostAnswered, HostFaulted}
use Rattle.fork_model.specs.Transfer.{AreSendable, AreSendableOffers, IsSendable, IsSendableWorld}
use Rattle.fork_model.specs.View.{View}
use Rattle.fork_model.specs.World.{Event, Exchange, Explains, Steps, World}
use Rattle.fork_model.proofs.ClosedLemmas.{each_of}
use Rattle.fork_model.proofs.KeptLemmas.{found_kept}
use Rattle.fork_model.proofs.MadeLemmas.{each_made_answer}
use Rattle.fork_model.proofs.OfferedLemmas.{given_by_one}
use Rattle.fork_model.proofs.SoundWorlds.{each_still}
use Rattle.fork_model.proofs.ProvenanceLemmas.{object_from, upload_from}
use Rattle.fork_model.proofs.WithinLemmas.{continued_within, stream_within}

among_within : (objects : List Object) (name : List ℕ) (object : Object) → AreWithin objects → IsAmong objects name object → length object.bytes ≤ MAX_CONTENT
among_within objects name object are among = each_of (λ o. length o.bytes ≤ MAX_CONTENT) objects object are among.sent

from_within : (context : Context) (view : View) (exchange : Exchange) (name : List ℕ) (object : Object) → IsSendable view → AreSendableOffers context → IsFrom context view exchange name object → length object.bytes ≤ MAX_CONTENT
from_within context view exchange name object was offers (Seen is) = was.objects name object is
from_within context view exchange name object was offers (Pushed repository body asked among) = among_within (sent_in (stream_of body)) name object (stream_within body) among
from_within context view exchange name object was offers (Taken giver repository copy asked offered) = offers giver repository name object offered
from_within context view exchange name object was offers (Uploaded repository upload asked is among) = among_within (sent_in upload.stream) name object (was.upload upload is) among

none_open : (upload : UploadValue) → Some upload ≡ None → ⊥
none_open upload is = cc

same_upload : (a b : UploadValue) → Some a ≡ Some b → a ≡ b
same_upload a b is = cc

open_within : (o : Option UploadValue) → ((upload : UploadValue) → o ≡ Some upload → AreWithin (sent_in upload.stream)) → AreWithin (sent_in (open_upload o).stream)
open_within None are = stream_within []
open_within (Some upload) are = are upload refl

upload_within : (view : View) (exchange : Exchange) (after : Option UploadValue) (upload : UploadValue) → IsSendable view → IsUploadFrom view exchange after → after ≡ Some upload → AreWithin (sent_in upload.stream)
upload_within view exchange after upload was (Stays part no_end stays) is = was.upload upload (sym stays ∙ is)
upload_within view exchange after upload was (Ends ended none) is = absurd (none_open upload (sym is ∙ none))
upload_within view exchange after upload was (GoesOn body part goes) is =
    subst (λ (u : UploadValue). AreWithin (sent_in u.stream)) (same_upload (continued (open_upload view.upload) body) upload (sym goes ∙ is))
    (continued_within (open_upload view.upload) body (open_within view.upload was.upload))

pub sendable_answer : (context : Context) (view : View) (ask : Ask) → AreSendableOffers context → IsSendable view → IsSendable (answer context view ask).1
sendable_answer context view ask offers was = record {
  objects = λ name object is. from_within context view (ask, (answer context view ask).0) name object was offers (object_from context view ask name object is);
  upload = λ upload is. upload_within view (ask, (answer context view ask).0) (answer context view ask).1.upload upload was (upload_from context view ask) is;
  offers = each_made_answer (λ key offer. AreSendable offer.objects) context view (λ word receiver repository there apart name object is.
      was.objects name object (found_kept view.objects (is_reached (linked_names view.objects) view.objects (values repository.references)) name object is).1) was.offers ask;
}

-- what is offered in a world of such views can be sent
pub offers_sendable : (world : World) (tenant : List ℕ) → IsSendableWorld world → AreSendableOffers (met_by world tenant)
offers_sendable world tenant was giver repository name object offered =
    let given = given_by_one world tenant (giver, repository) offered.offer offered.stands in
    (was giver given.view given.there).offers (tenant, repository) offered.offer given.made name object offered.holds

sendable_step : (old new : World) (step : Event) (reply : Reply) → IsSendableWorld old → Steps old step reply new → IsSendableWorld new
sendable_step old new (Asks t ask) reply was (Answered view here told set) =
    subst IsSendableWorld (sym set) (each_still IsSendable old t (answer (met_by old t) view ask).1 was (sendable_answer (met_by old t) view ask (offers_sendable old t was) (was t view here)))
sendable_step old new (Asks t ask) reply was (Unknown none told stays) = subst IsSendableWorld (sym stays) was
sendable_step old new (Asks t ask) reply was (Faulted bad stays) = subst IsSendableWorld (sym stays) was
sendable_step old new (HostAsks ask) reply was (HostAnswered says stays) = subst IsSendableWorld (sym stays) was
sendable_step old new (HostAsks ask) reply was (HostFaulted bad stays) = subst IsSendableWorld (sym stays) was

pub sendable_run : (old new : World) (steps : List Event) (replies : List Reply) → Explains old steps replies new → IsSendableWorld old → IsSendableWorld new
sendable_run old new [] [] run was = subst IsSendableWorld (sym run) was
sendable_run old new [] (reply ∷ replies) run was = absurd run
sendable_run old new (step ∷ steps) [] run was = absurd run
sendable_run old new (step ∷ steps) (reply ∷ replies) run was = sendable_run run.0 new steps replies run.2 (sendable_step old run.0 step reply was run.1)
