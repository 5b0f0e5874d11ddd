-- What `fetch` and `push` bring from one view into another (own).
use Rattle.std.specs.Prelude.{◌≡◌, ℕ, ◌≤◌, nat_lt, true, List, [], Some, length, if◌then◌else◌}
use Rattle.std.specs.FinMap.{get, insert, contains_key, values}
use Rattle.git_name.specs.Object.{Object}
use Rattle.git_reftx.specs.Repository.{Repository}
use Rattle.push_stream.specs.declared.content_limit.TheConstants.{MAX_CONTENT}
use Rattle.push_stream.specs.Spelling.{AreWithin}
use Rattle.push_stream.specs.Stream.{sent_in}
use Rattle.push_stream.specs.Upload.{UploadValue}
use Rattle.fork_query.specs.Reached.{beyond}
use Rattle.fork_reach.specs.Objects.{use_of, with_objects}
use Rattle.fork_reach.specs.Reach.{is_reached, linked_names}
use Rattle.fork_reach.specs.Source.{Objects}
use Rattle.fork_request.specs.declared.refusal.Refusal.TheVariants.{OverQuota}
use Rattle.fork_request.specs.declared.reply.Reply.{Reply}
use Rattle.fork_request.specs.declared.reply.Reply.TheVariants.{Done, Refused}
use Rattle.fork_model.specs.Context.{Context}
use Rattle.fork_model.specs.Offer.{Offer, Pair}
use Rattle.fork_model.specs.Provenance.{IsOffered}
use Rattle.fork_model.specs.View.{View}
use Rattle.fork_model.specs.World.{World}

-- no object is longer than a stream takes
abbrev pub AreSendable : Objects → Type 0
AreSendable objects = (name : List ℕ) (object : Object) → get objects name ≡ Some object → length object.bytes ≤ MAX_CONTENT

-- a view whose objects can be sent, including those of the open upload and of offers
pub record IsSendable (view : View) : Type 0 where
  pub objects : AreSendable view.objects
  pub upload : (upload : UploadValue) → view.upload ≡ Some upload → AreWithin (sent_in upload.stream)
  pub offers : (key : Pair) (offer : Offer) → get view.made key ≡ Some offer → AreSendable offer.objects

-- offers whose objects can be sent
abbrev pub AreSendableOffers : Context → Type 0
AreSendableOffers context = (giver repository name : List ℕ) (object : Object) → IsOffered context giver repository name object → length object.bytes ≤ MAX_CONTENT

-- the objects of each view can be sent
abbrev pub IsSendableWorld : World → Type 0
IsSendableWorld world = (tenant : List ℕ) (view : View) → get world tenant ≡ Some view → IsSendable view

-- the objects that a fetch gives, ascending by name
abbrev pub fetched_objects : Objects → List (List ℕ) → List (List ℕ) → List Object
fetched_objects objects wanted excluded = values (beyond (linked_names objects) objects wanted excluded)

-- both hold the same object under a name that both hold: names are hashes, so no two objects of one name are known
abbrev pub HoldTheSame : Objects → Objects → Type 0
HoldTheSame sender receiver = (name : List ℕ) (object other : Object) → get sender name ≡ Some object → get receiver name ≡ Some other → object ≡ other

-- the receiver holds what the excluded names reach, and holds it as the sender does
pub record HasPrerequisites (receiver sender : Objects) (excluded : List (List ℕ)) : Type 0 where
  pub reached : (name : List ℕ) → is_reached (linked_names sender) sender excluded name ≡ true → contains_key receiver name ≡ true
  pub same : HoldTheSame sender receiver

-- the receiver's objects and those that it fetched
abbrev pub received : Objects → Objects → List (List ℕ) → List (List ℕ) → Objects
received receiver sender wanted excluded = with_objects receiver (fetched_objects sender wanted excluded)

-- the answer to a push without commands that only the limit can refuse
abbrev pub within_quota : View → List ℕ → Repository → Objects → Reply × View
within_quota view word repository objects =
    if nat_lt view.limit (use_of objects) then (Refused OverQuota, view)
    else (Done [], record view { repositories = insert view.repositories word repository; objects = objects })
