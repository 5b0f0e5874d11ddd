-- Where objects come from (own): a tenant sees what it saw before, what it sent itself, and what was in offers that it forked.
use Rattle.std.specs.Prelude.{◌≡◌, ℕ, Bool, false, true, not, List, [], ◌∷◌, ◌++◌, Option, None, Some, Contains}
use Rattle.std.specs.FinMap.{contains_key, get}
use Rattle.std.specs.List.{AllByRecursion, concat, flat_map, zip}
use Rattle.git_name.specs.Object.{Object, object_name}
use Rattle.push_stream.specs.Stream.{sent_in, stream_of}
use Rattle.push_stream.specs.Upload.{UploadValue, continued, fed}
use Rattle.fork_request.specs.Asked.{Pushes, SendsPart, EndsParts, DropsParts, ForksOffer}
use Rattle.fork_request.specs.Told.{is_host_fault}
use Rattle.fork_request.specs.declared.reply.Reply.{Reply}
use Rattle.fork_request.specs.declared.reply.Reply.TheVariants.{Done}
use Rattle.fork_model.specs.Answer.{open_upload}
use Rattle.fork_model.specs.Context.{Context}
use Rattle.fork_model.specs.Offer.{Offer}
use Rattle.fork_model.specs.View.{View}
use Rattle.fork_model.specs.World.{Exchange, Meeting, alone}

-- the object is one of those that were sent, and this is its name
pub record IsAmong (objects : List Object) (name : List ℕ) (object : Object) : Type 0 where
  pub sent : Contains objects object
  pub named : object_name object ≡ name

-- an offer that is met holds the object
pub record IsOffered (context : Context) (giver repository name : List ℕ) (object : Object) : Type 0 where
  pub offer : Offer
  pub stands : get context.offered (giver, repository) ≡ Some offer
  pub holds : get offer.objects name ≡ Some object

-- where an object that is seen after an answer comes from
pub data IsFrom (context : Context) (view : View) (exchange : Exchange) (name : List ℕ) (object : Object) : Type 0 where
  -- it was seen before
  Seen : get view.objects name ≡ Some object → IsFrom context view exchange name object
  -- it is in the body of this push, which is answered `ok`
  Pushed : (repository body : List ℕ) → exchange ≡ (Pushes repository body, Done []) → IsAmong (sent_in (stream_of body)) name object → IsFrom context view exchange name object
  -- it is in the upload that ends here, and its end is answered `ok`
  Uploaded : (repository : List ℕ) (upload : UploadValue) → exchange ≡ (EndsParts repository, Done []) → view.upload ≡ Some upload → IsAmong (sent_in upload.stream) name object → IsFrom context view exchange name object
  -- it is in the offer that is forked here, which is answered `ok`
  Taken : (giver repository copy : List ℕ) → exchange ≡ (ForksOffer giver repository copy, Done []) → IsOffered context giver repository name object → IsFrom context view exchange name object

-- the body of a part that is answered `ok`
abbrev pub part_in : Exchange → List (List ℕ)
part_in (SendsPart body, Done text) = body ∷ []
part_in exchange = []

-- the bodies of all such parts, in their order
abbrev pub parts_in : List Exchange → List (List ℕ)
parts_in exchanges = flat_map part_in exchanges

-- no upload is open after `part-end` and `part-drop`, whatever is answered except a host fault
abbrev pub ends_upload : Exchange → Bool
ends_upload (EndsParts repository, reply) = not (is_host_fault reply)
ends_upload (DropsParts, reply) = not (is_host_fault reply)
ends_upload exchange = false

-- where the upload that is open after an answer comes from
pub data IsUploadFrom (view : View) (exchange : Exchange) (upload : Option UploadValue) : Type 0 where
  -- no part was received and nothing ended it: it is the one that was open, or none was
  Stays : part_in exchange ≡ [] → ends_upload exchange ≡ false → upload ≡ view.upload → IsUploadFrom view exchange upload
  -- none is open after an end
  Ends : ends_upload exchange ≡ true → upload ≡ None → IsUploadFrom view exchange upload
  -- it is the one that was open, or a new one, continued by the body of this part
  GoesOn : (body : List ℕ) → part_in exchange ≡ body ∷ [] → upload ≡ Some (continued (open_upload view.upload) body) → IsUploadFrom view exchange upload

-- these are the bodies of all parts of the upload that continues here, up to the `part-end` that publishes it, with none left out
-- and no other end in between
pub record AreParts (exchanges : List Exchange) (bodies : List (List ℕ)) : Type 0 where
  pub during : List Exchange
  pub behind : List Exchange
  pub repository : List ℕ
  pub parts : exchanges ≡ during ++ (EndsParts repository, Done []) ∷ behind
  pub no_end : AllByRecursion (λ exchange. ends_upload exchange ≡ false) during
  pub whole : bodies ≡ parts_in during

-- what a tenant sent by its requests, or began to send before them
pub data WasSent (view : View) (exchanges : List Exchange) (name : List ℕ) (object : Object) : Type 0 where
  -- it is in the body of a push that was answered `ok`
  InPush : (repository body : List ℕ) → Contains exchanges (Pushes repository body, Done []) → IsAmong (sent_in (stream_of body)) name object → WasSent view exchanges name object
  -- it is in the bytes of one upload, which began after the end of another: in all its parts
  InParts : (front behind : List Exchange) (end : Exchange) (bodies : List (List ℕ)) → exchanges ≡ front ++ end ∷ behind → ends_upload end ≡ true → AreParts behind bodies → IsAmong (sent_in (stream_of (concat bodies))) name object → WasSent view exchanges name object
  -- it is in the upload that was open at first, or in an empty one if none was, and in all parts that continued it
  InUpload : (bodies : List (List ℕ)) → AreParts exchanges bodies → IsAmong (sent_in (fed (open_upload view.upload) bodies).stream) name object → WasSent view exchanges name object

-- this request, with what it meets and this reply, is one of the tenant's
abbrev pub IsAnsweredAmong : List Meeting → List Reply → Meeting → Reply → Type 0
IsAnsweredAmong asked replies met reply = Contains (zip asked replies) (met, reply)

-- the tenant met an offer that held the object, with a `fork-offer` that was answered `ok`
pub record WasOffered (asked : List Meeting) (replies : List Reply) (name : List ℕ) (object : Object) : Type 0 where
  pub context : Context
  pub giver : List ℕ
  pub repository : List ℕ
  pub copy : List ℕ
  pub taken : IsAnsweredAmong asked replies (context, ForksOffer giver repository copy) (Done [])
  pub offered : IsOffered context giver repository name object

-- at some moment of these requests a private host sees an object of this name
abbrev pub WasShown : View → List Meeting → List ℕ → Type 0
WasShown view asked name = (front behind : List Meeting) × (asked ≡ front ++ behind) × (contains_key (alone view front).1.objects name ≡ true)
