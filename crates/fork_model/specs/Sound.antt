-- Sound views (own). A view is in order if references name existing objects and the limits hold. It is right if objects are under
-- their own names, are in their grammars and link to existing objects.
use Rattle.std.specs.Prelude.{◌≡◌, ◌≢◌, ℕ, ◌≤◌, Bool, true, false, List, [], ◌∷◌, Some, None, ⊤}
use Rattle.fork_request.specs.declared.tenant_limit.TheConstants.{MAX_LIMIT}
use Rattle.git_reftx.specs.declared.transact.TheConstants.{MAX_REFERENCES}
use Rattle.push_stream.specs.declared.upload_limit.TheConstants.{MAX_UPLOAD}
use Rattle.fork_model.specs.declared.limits.TheConstants.{MAX_OFFERS, MAX_REPOSITORIES, MAX_TENANTS}
use Rattle.std.specs.List.{AllByRecursion}
use Rattle.std.specs.FinMap.{get, contains_key, keys, len}
use Rattle.git_refname.specs.Rule.{IsRefName}
use Rattle.git_reftx.specs.Repository.{IsBranch, Repository}
use Rattle.git_reftx.specs.Transaction.{References, is_branch, is_commit, least_upper}
use Rattle.git_name.specs.Maps.{joined}
use Rattle.git_name.specs.Object.{Object}
use Rattle.git_object.specs.declared.link.Link.{Link}
use Rattle.git_object.specs.ObjectIn.{object_in, links_in}
use Rattle.push_stream.specs.Stream.{AreObjects, sent_in}
use Rattle.push_stream.specs.Upload.{UploadValue}
use Rattle.fork_reach.specs.Objects.{IsNamed, use_of}
use Rattle.fork_reach.specs.Source.{Objects, kind_in}
use Rattle.fork_request.specs.Asked.{ForksOffer}
use Rattle.fork_request.specs.Names.{IsRepositoryName, IsTenantName}
use Rattle.fork_request.specs.declared.reply.Reply.{Reply}
use Rattle.fork_model.specs.Context.{Context}
use Rattle.fork_model.specs.Offer.{Offer, Pair, reached_by}
use Rattle.fork_model.specs.View.{View}
use Rattle.fork_model.specs.Runs
use Rattle.fork_model.specs.World.{Event, Explains, World}

-- each object is in the grammar of its kind
abbrev pub AreRight : Objects → Type 0
AreRight objects = (name : List ℕ) (object : Object) → get objects name ≡ Some object → object_in object.kind object.bytes ≢ None

-- the object that the link names exists, and has the kind that the link requires
abbrev pub IsMet : Objects → Link → Type 0
IsMet objects link = kind_in objects link.name ≡ Some link.kind

-- each link of each object is resolved
abbrev pub IsClosed : Objects → Type 0
IsClosed objects = (name : List ℕ) (object : Object) → get objects name ≡ Some object → AllByRecursion (IsMet objects) (links_in object.kind object.bytes)

-- a reference has a valid name and points at an existing object, a branch at a commit
pub record IsReference (objects : Objects) (reference target : List ℕ) : Type 0 where
  pub named : IsRefName reference
  pub there : contains_key objects target ≡ true
  pub commit : is_branch reference ≡ true → is_commit (kind_in objects target) ≡ true

-- references that a repository may have: no name is above another, and there are at most 4,096
pub record AreReferences (objects : Objects) (references : References) : Type 0 where
  pub each : (reference target : List ℕ) → get references reference ≡ Some target → IsReference objects reference target
  pub apart : least_upper (keys references) ≡ None
  pub few : len references ≤ MAX_REFERENCES

-- an offer that a tenant which sees these objects may have made: the names are valid, HEAD names a branch, and the references hold
-- over the objects
pub record IsOffer (objects : Objects) (key : Pair) (offer : Offer) : Type 0 where
  pub receiver : IsTenantName key.0
  pub named : IsRepositoryName key.1
  pub head : IsBranch offer.repository.head
  pub references : AreReferences objects offer.repository.references

-- what names, kinds, lengths, references and limits determine of a view: it holds over any store
pub record IsOrderly (view : View) : Type 0 where
  pub upload : (upload : UploadValue) → view.upload ≡ Some upload → upload.count ≤ MAX_UPLOAD
  pub within_limit : use_of view.objects ≤ view.limit
  pub limit : view.limit ≤ MAX_LIMIT
  pub few_repositories : len view.repositories ≤ MAX_REPOSITORIES
  pub repositories : (name : List ℕ) (repository : Repository) → get view.repositories name ≡ Some repository → IsRepositoryName name
  pub heads : (name : List ℕ) (repository : Repository) → get view.repositories name ≡ Some repository → IsBranch repository.head
  pub references : (name : List ℕ) (repository : Repository) → get view.repositories name ≡ Some repository → AreReferences view.objects repository.references
  pub few_offers : len view.made ≤ MAX_OFFERS
  pub offers : (key : Pair) (offer : Offer) → get view.made key ≡ Some offer → IsOffer view.objects key offer

-- an offer holds what its references reach among what is seen, including their targets
pub record IsReach (seen : Objects) (offer : Offer) : Type 0 where
  pub targets : (reference target : List ℕ) → get offer.repository.references reference ≡ Some target → contains_key offer.objects target ≡ true
  pub objects : offer.objects ≡ reached_by seen offer.repository.references

-- what bytes determine of a view: it holds if the store is honest
pub record IsRight (view : View) : Type 0 where
  pub named : IsNamed view.objects
  pub right : AreRight view.objects
  pub closed : IsClosed view.objects
  pub offered : (key : Pair) (offer : Offer) → get view.made key ≡ Some offer → IsReach view.objects offer
  pub upload : (upload : UploadValue) → view.upload ≡ Some upload → AreObjects (sent_in upload.stream)

-- a view that a host may show
pub record IsSound (view : View) : Type 0 where
  pub orderly : IsOrderly view
  pub right : IsRight view

-- a tenant that sees these objects may take what is offered: HEAD names a branch, and the references hold over all that is seen then
abbrev pub MayTake : Context → Objects → Type 0
MayTake context objects = (key : Pair) (offer : Offer) → get context.offered key ≡ Some offer → IsBranch offer.repository.head × AreReferences (joined objects offer.objects) offer.repository.references

-- objects that are under their own names, are in their grammars, and link to existing objects
pub record AreSoundObjects (objects : Objects) : Type 0 where
  pub named : IsNamed objects
  pub right : AreRight objects
  pub closed : IsClosed objects

-- and all that is seen then is sound
abbrev pub IsSoundBeside : Context → Objects → Type 0
IsSoundBeside context objects = (key : Pair) (offer : Offer) → get context.offered key ≡ Some offer → AreSoundObjects (joined objects offer.objects)

-- no offer that a tenant has made is to itself
abbrev pub AreToOthers : List ℕ → View → Type 0
AreToOthers tenant view = (key : Pair) (offer : Offer) → get view.made key ≡ Some offer → key.0 ≢ tenant

-- no more tenants than a host may have, with valid names, each with an orderly view, and no offer of a tenant to itself
pub record IsOrderlyWorld (world : World) : Type 0 where
  pub few : len world ≤ MAX_TENANTS
  pub named : (tenant : List ℕ) → contains_key world tenant ≡ true → IsTenantName tenant
  pub views : (tenant : List ℕ) (view : View) → get world tenant ≡ Some view → IsOrderly view
  pub to_others : (tenant : List ℕ) (view : View) → get world tenant ≡ Some view → AreToOthers tenant view

-- what bytes determine of each view
abbrev pub IsRightWorld : World → Type 0
IsRightWorld world = (tenant : List ℕ) (view : View) → get world tenant ≡ Some view → IsRight view

-- each name has only one object in the world
abbrev pub IsAlike : World → Type 0
IsAlike world = (tenant other name : List ℕ) (view another : View) (object same : Object) → get world tenant ≡ Some view → get world other ≡ Some another
    → get view.objects name ≡ Some object → get another.objects name ≡ Some same → object ≡ same

-- a world that a host may show
pub record IsSoundWorld (world : World) : Type 0 where
  pub orderly : IsOrderlyWorld world
  pub right : IsRightWorld world

-- whether a step takes an offer
abbrev pub takes_offer : Event → Bool
takes_offer (Runs.Asks tenant (ForksOffer giver repository copy)) = true
takes_offer event = false

-- whenever an offer is taken in a run, each name has only one object in the world: names are hashes, and no two objects of one
-- name are known
abbrev pub IsAlikeWhereTaken : (old : World) (steps : List Event) (replies : List Reply) (new : World) → Explains old steps replies new → Type 0
IsAlikeWhereTaken old (step ∷ steps) (reply ∷ replies) new run = (takes_offer step ≡ true → IsAlike old) × IsAlikeWhereTaken run.0 steps replies new run.2
IsAlikeWhereTaken old [] replies new run = ⊤
IsAlikeWhereTaken old (step ∷ steps) [] new run = ⊤
