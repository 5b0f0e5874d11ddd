-- When `missing` is reported (own): the first reason against a request is that it names an object which the tenant neither sees
-- nor, in a push, sends.
use Rattle.std.specs.Prelude.{◌≡◌, ◌≢◌, ℕ, ◌≤◌, Bool, true, List, [], ◌∷◌, ◌++◌, map, length, Contains, Option, None, Some, Result, Ok, is_none, is_ok}
use Rattle.std.specs.List.{AllByRecursion}
use Rattle.std.specs.FinMap.{get, contains_key}
use Rattle.git_name.specs.Object.{Object, object_name}
use Rattle.git_object.specs.declared.link.Link.{Link}
use Rattle.git_reftx.specs.declared.command.Change.TheVariants.{Point}
use Rattle.git_reftx.specs.declared.command.Command.{Command}
use Rattle.git_reftx.specs.Reading.{commands_of}
use Rattle.git_reftx.specs.Repository.{Repository}
use Rattle.git_reftx.specs.Transaction.{bad_ref, first_refusal, missing_object, repeated_ref}
use Rattle.push_stream.specs.Stream.{Stream, finished, stream_of}
use Rattle.push_stream.specs.Upload.{UploadValue}
use Rattle.fork_reach.specs.Objects.{with_objects}
use Rattle.fork_reach.specs.Source.{Objects, kind_in}
use Rattle.fork_push.specs.Push.{link_refusal, links_under}
use Rattle.fork_query.specs.Items.{commit_of_item, named_by, object_of_item}
use Rattle.fork_query.specs.Sides.{bare}
use Rattle.fork_request.specs.Asked.{Ask, Pushes, EndsParts, Updates, AsksObject, AsksTree, AsksRevisions, AsksBases, Fetches}
use Rattle.fork_request.specs.Names.{is_plain_name}
use Rattle.fork_request.specs.declared.name.TheConstants.{MAX_REPOSITORY_NAME}
use Rattle.fork_request.specs.declared.refusal.Refusal.{Refusal}
use Rattle.fork_model.specs.declared.limits.TheConstants.{MAX_ITEMS}
use Rattle.fork_model.specs.View.{View}

-- each of these that comes before this one passes the test
pub record IsFirst {A : Type 0} (passes : A → Bool) (all : List A) (one : A) : Type 0 where
  pub before : List A
  pub behind : List A
  pub parts : all ≡ before ++ one ∷ behind
  pub passed : AllByRecursion (λ other. passes other ≡ true) before

-- the tenant does not see the object, and none that it sends has this name
pub record IsLacking (objects : Objects) (sent : List Object) (name : List ℕ) : Type 0 where
  pub unseen : get objects name ≡ None
  pub unsent : (object : Object) → Contains sent object → object_name object ≢ name

-- the first item that is not judged valid names an object that is not seen
pub record LacksItem (objects : Objects) (repository : Repository) (judge : List ℕ → Result (List ℕ) Refusal) (items : List (List ℕ)) (name : List ℕ) : Type 0 where
  pub item : List ℕ
  pub first : IsFirst (λ other. is_ok (judge other)) items item
  pub named : named_by repository item ≡ Some name
  pub unseen : get objects name ≡ None

-- if all references have valid names, and none occurs twice, the first command whose object does not exist points at this name
pub record LacksTarget (objects : Objects) (sent : List Object) (commands : List Command) (name : List ℕ) : Type 0 where
  pub right : first_refusal bad_ref commands ≡ None
  pub apart : repeated_ref [] commands ≡ None
  pub command : Command
  pub first : IsFirst (λ other. is_none (missing_object (kind_in (with_objects objects sent)) other.change)) commands command
  pub points : command.change ≡ Point name
  pub lacking : IsLacking objects sent name

-- the links of the objects under the names that are sent, in the order of the sent objects
abbrev pub links_sent : Objects → List Object → List Link
links_sent objects sent = links_under (with_objects objects sent) (map object_name sent)

-- the first link whose object does not exist leads to this name
pub record LacksLink (objects : Objects) (sent : List Object) (name : List ℕ) : Type 0 where
  pub link : Link
  pub first : IsFirst (λ other. contains_key (with_objects objects sent) other.name) (links_sent objects sent) link
  pub named : link.name ≡ name
  pub lacking : IsLacking objects sent name

-- what a whole push lacks
pub data LacksSent (objects : Objects) (commands : List Command) (sent : List Object) (name : List ℕ) : Type 0 where
  -- the object of a link
  Linked : LacksLink objects sent name → LacksSent objects commands sent name
  -- if nothing is wrong with the links, the target of a command
  Pointed : link_refusal (with_objects objects sent) (links_sent objects sent) ≡ None → LacksTarget objects sent commands name → LacksSent objects commands sent name

-- a stream is whole, and what it holds lacks this
pub record LacksInStream (objects : Objects) (stream : Stream) (name : List ℕ) : Type 0 where
  pub commands : List Command
  pub sent : List Object
  pub whole : finished stream ≡ Ok (commands, sent)
  pub lacks : LacksSent objects commands sent name

-- an upload is open, and its content lacks this
pub record LacksInUpload (objects : Objects) (there : Option UploadValue) (name : List ℕ) : Type 0 where
  pub upload : UploadValue
  pub opened : there ≡ Some upload
  pub lacks : LacksInStream objects upload.stream name

-- the body of a transaction is commands, and these lack this
pub record LacksInBody (objects : Objects) (body : List ℕ) (name : List ℕ) : Type 0 where
  pub commands : List Command
  pub read : commands_of body ≡ Ok commands
  pub lacks : LacksTarget objects [] commands name

-- the word is a repository's name, the tenant has this repository, and this holds of it
pub record InRepository (view : View) (word : List ℕ) (Holds : Repository → Type 0) : Type 0 where
  pub named : is_plain_name MAX_REPOSITORY_NAME word ≡ true
  pub repository : Repository
  pub found : get view.repositories word ≡ Some repository
  pub holds : Holds repository

-- a request names an object that a tenant of this view lacks, and nothing earlier is wrong with the request; other requests name none
abbrev pub IsMissing : View → List ℕ → Ask → Type 0
IsMissing view name (AsksObject asked) = (asked ≡ name) × (get view.objects name ≡ None)
IsMissing view name (AsksTree asked) = (asked ≡ name) × (get view.objects name ≡ None)
IsMissing view name (AsksRevisions word items) = InRepository view word (λ repository. (length items ≤ MAX_ITEMS) × LacksItem view.objects repository (commit_of_item view.objects repository) (map bare items) name)
IsMissing view name (AsksBases word first second) = InRepository view word (λ repository. LacksItem view.objects repository (commit_of_item view.objects repository) (first ∷ second ∷ []) name)
IsMissing view name (Fetches word items) = InRepository view word (λ repository. (length items ≤ MAX_ITEMS) × LacksItem view.objects repository (object_of_item view.objects repository) (map bare items) name)
IsMissing view name (Updates word body) = InRepository view word (λ repository. LacksInBody view.objects body name)
IsMissing view name (Pushes word body) = InRepository view word (λ repository. (view.upload ≡ None) × LacksInStream view.objects (stream_of body) name)
IsMissing view name (EndsParts word) = InRepository view word (λ repository. LacksInUpload view.objects view.upload name)
IsMissing view name ask = ⊥
