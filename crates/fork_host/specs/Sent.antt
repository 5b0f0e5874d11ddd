-- The objects that a request brings, including those of the open upload; and what a tenant of a world sees.
use Rattle.std.specs.Prelude.{ℕ, List, [], Option, None, Some, map}
use Rattle.std.specs.FinMap.{empty, get}
use Rattle.git_name.specs.Object.{Object, object_name}
use Rattle.push_stream.specs.Stream.{sent_in, stream_of}
use Rattle.push_stream.specs.Upload.{continued}
use Rattle.fork_reach.specs.Source.{Objects}
use Rattle.fork_request.specs.Asked.{Ask, Inits, Drops, Forks, Pushes, SendsPart, EndsParts, DropsParts, Updates, SetsHead, MakesOffer, Withdraws, ForksOffer, AsksObject, AsksTree, AsksRevisions, AsksBases, AsksReferences, AsksHead, AsksOffers, AsksRepositories, Fetches, AsksUse, Prunes, NoRequest}
use Rattle.fork_model.specs.Answer.{open_upload}
use Rattle.fork_model.specs.View.{View}
use Rattle.fork_model.specs.World.{World}

-- a push brings those of its body, a part those of the upload that it continues, and the end of an upload those of the upload
abbrev pub sent_by : View → Ask → List Object
sent_by view (Inits repository) = []
sent_by view (Drops repository) = []
sent_by view (Forks source copy) = []
sent_by view (Pushes repository body) = sent_in (stream_of body)
sent_by view (SendsPart body) = sent_in (continued (open_upload view.upload) body).stream
sent_by view (EndsParts repository) = sent_in (open_upload view.upload).stream
sent_by view DropsParts = []
sent_by view (Updates repository body) = []
sent_by view (SetsHead repository reference) = []
sent_by view (MakesOffer repository receiver) = []
sent_by view (Withdraws repository receiver) = []
sent_by view (ForksOffer giver repository copy) = []
sent_by view (AsksObject name) = []
sent_by view (AsksTree name) = []
sent_by view (AsksRevisions repository items) = []
sent_by view (AsksBases repository first second) = []
sent_by view (AsksReferences repository prefix) = []
sent_by view (AsksHead repository) = []
sent_by view AsksOffers = []
sent_by view AsksRepositories = []
sent_by view (Fetches repository items) = []
sent_by view AsksUse = []
sent_by view Prunes = []
sent_by view NoRequest = []

-- an unknown tenant brings none
abbrev pub brought_by : Option View → Ask → List Object
brought_by None ask = []
brought_by (Some view) ask = sent_by view ask

-- those of a tenant of a world
abbrev pub sent_in_world : World → List ℕ → Ask → List Object
sent_in_world world tenant ask = brought_by (get world tenant) ask

-- what a tenant of a world sees; an unknown one sees nothing
abbrev pub seen_of : Option View → Objects
seen_of None = empty
seen_of (Some view) = view.objects

abbrev pub seen_in_world : World → List ℕ → Objects
seen_in_world world tenant = seen_of (get world tenant)

-- the names of what is sent
abbrev pub sent_names : List Object → List (List ℕ)
sent_names objects = map object_name objects
