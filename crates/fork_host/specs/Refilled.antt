-- A tenant that sees again what it saw, while a host is restored.
use Rattle.std.specs.Prelude.{◌≡◌, ℕ, ◌≤◌, ◌<◌, ◌++◌, ◌∷◌, [], IsTrue, Option, None, Some, Result, Ok, Err, List, Contains, map}
use Rattle.std.specs.BTreeSet.{BTreeSet, contains}
use Rattle.std.specs.FinMap.{entries, get, insert}
use Rattle.std.specs.List.{find}
use Rattle.git_name.specs.Name.{name_cmp}
use Rattle.fork_sound.specs.Sound.{is_bad}
use Rattle.git_name.specs.Object.{Object, object_name}
use Rattle.loose_store.specs.Files.{Files}
use Rattle.loose_store.specs.Stored.{Whole}
use Rattle.fork_reach.specs.Objects.{IsNamed, use_of, with_objects}
use Rattle.fork_reach.specs.Source.{Objects}
use Rattle.fork_ledger.specs.Tenants.{VaultState}
use Rattle.fork_model.specs.Offer.{Offer, Pair}
use Rattle.fork_model.specs.Sound.{AreRight, IsClosed, IsReach}
use Rattle.fork_model.specs.View.{View}
use Rattle.fork_model.specs.World.{World}
use Rattle.state_text.specs.Kept.{offer_kept}
use Rattle.state_text.specs.States.{TenantState}
use Rattle.fork_host.specs.Own.{ChangesTenant, SeesOnly, both_in, visible_in}
use Rattle.fork_host.specs.Restored.{OnStore, TellsBad, first_astray, first_bad, repositories_in}
use Rattle.fork_host.specs.declared.later.Bad.{Bad}
use Rattle.fork_host.specs.declared.later.Bad.TheVariants.{Memory as BadMemory, Object as Object_of}
use Rattle.fork_host.specs.declared.later.Later.{Later}
use Rattle.fork_host.specs.declared.later.Later.TheVariants.{Nothing, Target as LaterTarget, Limit as LaterLimit}
use Rattle.fork_host.specs.declared.restore_error.RestoreError.{RestoreError}
use Rattle.fork_host.specs.declared.restore_error.RestoreError.TheVariants.{Unsound, OverLimit, Memory as WantsMemory}
use Rattle.fork_host.specs.declared.seeing.Against.{Against}
use Rattle.fork_host.specs.declared.seeing.Against.TheVariants.{Memory as NoMemory, BadObject, Astray, Limit}

-- objects of some of these names were added to what a tenant sees and has staged, and all of it is seen; over an honest store those
-- that are whole on it
pub record SeesAgain (tenant : List ℕ) (names : List (List ℕ)) (old new : VaultState) : Type 0 where
  pub came : List Object
  pub among : (object : Object) → Contains came object → Contains names (object_name object)
  pub changes : ChangesTenant tenant (SeesOnly (with_objects (both_in old tenant) came)) old new
  pub whole : IsTrue old.honest → (object : Object) → Contains came object → Whole old.files (object_name object) object
  pub all : IsTrue old.honest → (name : List ℕ) (object : Object) → Contains names name → Whole old.files name object → Contains came object

-- the first name of a set whose object is bad
abbrev pub bad_in : BTreeSet (List ℕ) → Objects → Option (List ℕ)
bad_in names objects = find (is_bad objects (contains name_cmp names)) names.keys

-- a tenant of this state sees again what it saw: over an honest store the objects of its names, each sound; over any store each
-- reference at an object that is seen, a branch at a commit, and no more use than the limit
pub record IsRefilled (tenant : List ℕ) (state : TenantState) (old new : VaultState) : Type 0 where
  pub objects : Objects
  pub changes : ChangesTenant tenant (SeesOnly objects) old new
  pub named : IsTrue old.honest → IsNamed objects
  pub right : IsTrue old.honest → AreRight objects
  pub closed : IsTrue old.honest → IsClosed objects
  pub stored : IsTrue old.honest → OnStore old.files state.seen (λ others. (others ≡ objects) × (first_bad state.seen others ≡ None))
  pub targets : first_astray (repositories_in state) (visible_in new tenant) ≡ None
  pub within : use_of (visible_in new tenant) ≤ state.limit

-- what is wrong with a state: checked by the names of a set, among what the tenant sees, and by the use of what it sees and has
-- staged
abbrev pub IsAgainst : BTreeSet (List ℕ) → TenantState → Objects → Objects → Against → Type 0
IsAgainst names state visible both NoMemory = Unit {0}
IsAgainst names state visible both (BadObject name) = bad_in names visible ≡ Some name
IsAgainst names state visible both (Astray target) = (bad_in names visible ≡ None) × (reference : List ℕ) × (first_astray (repositories_in state) visible ≡ Some (reference, target))
IsAgainst names state visible both Limit = (bad_in names visible ≡ None) × (first_astray (repositories_in state) visible ≡ None) × (state.limit < use_of both)

-- the same, by what is on the store
abbrev pub StandsAgainst : Files → TenantState → Against → Type 0
StandsAgainst files state NoMemory = Unit {0}
StandsAgainst files state (BadObject name) = OnStore files state.seen (λ objects. first_bad state.seen objects ≡ Some name)
StandsAgainst files state (Astray target) =
    OnStore files state.seen (λ objects. (first_bad state.seen objects ≡ None) × (reference : List ℕ) × (first_astray (repositories_in state) objects ≡ Some (reference, target)))
StandsAgainst files state Limit =
    OnStore files state.seen (λ objects. (first_bad state.seen objects ≡ None) × (first_astray (repositories_in state) objects ≡ None) × (state.limit < use_of objects))

-- a tenant that sees nothing sees again what it saw
pub record IsRefilledIn (files : Files) (tenant : TenantState) (old new : World) : Type 0 where
  pub view : View
  pub world : new ≡ insert old tenant.name view
  pub repositories : entries view.repositories ≡ tenant.repositories
  pub offers : map offer_kept (entries view.made) ≡ tenant.offers
  pub limit : view.limit ≡ tenant.limit
  pub upload : view.upload ≡ None
  pub stored : OnStore files tenant.seen (λ objects. (objects ≡ view.objects) × (first_bad tenant.seen objects ≡ None))
  pub targets : first_astray (repositories_in tenant) view.objects ≡ None
  pub reach : (pair : Pair) (offer : Offer) → get view.made pair ≡ Some offer → IsReach view.objects offer
  pub within : use_of view.objects ≤ tenant.limit

-- a tenant's state was checked: what it saw is seen again, or something is wrong with it
abbrev pub IsJudged : Files → TenantState → World → World → Result (Unit {0}) Against → Type 0
IsJudged files tenant old new (Ok done) = IsRefilledIn files tenant old new
IsJudged files tenant old new (Err against) = StandsAgainst files tenant against

-- unless memory ran out, the tenant was added after the others
abbrev pub IsBehind : List ℕ → List (List ℕ) → List (List ℕ) → Result (Unit {0}) Against → Type 0
IsBehind name old new (Ok done) = new ≡ old ++ name ∷ []
IsBehind name old new (Err NoMemory) = Unit {0}
IsBehind name old new (Err (BadObject bad)) = new ≡ old ++ name ∷ []
IsBehind name old new (Err (Astray target)) = new ≡ old ++ name ∷ []
IsBehind name old new (Err Limit) = new ≡ old ++ name ∷ []

-- what is wrong with targets and limits, once one more tenant was checked: the first target is noted, otherwise the first tenant
-- over its limit
abbrev pub with_target : Later → List ℕ → Later
with_target Nothing target = LaterTarget target
with_target (LaterTarget first) target = LaterTarget first
with_target (LaterLimit tenant) target = LaterTarget target

abbrev pub with_limit : Later → List ℕ → Later
with_limit Nothing tenant = LaterLimit tenant
with_limit (LaterTarget target) tenant = LaterTarget target
with_limit (LaterLimit first) tenant = LaterLimit first

abbrev pub with_judged : Later → List ℕ → Result (Unit {0}) Against → Later
with_judged later tenant (Ok done) = later
with_judged later tenant (Err NoMemory) = later
with_judged later tenant (Err (BadObject name)) = later
with_judged later tenant (Err (Astray target)) = with_target later target
with_judged later tenant (Err Limit) = with_limit later tenant

-- what is reported at once
abbrev pub told_at_once : Result (Unit {0}) Against → Option Bad
told_at_once (Ok done) = None
told_at_once (Err NoMemory) = Some BadMemory
told_at_once (Err (BadObject name)) = Some (Object_of name)
told_at_once (Err (Astray target)) = None
told_at_once (Err Limit) = None

-- and what is reported at the end
abbrev pub first_told : Later → Option RestoreError
first_told Nothing = None
first_told (LaterTarget target) = Some (Unsound target)
first_told (LaterLimit tenant) = Some (OverLimit tenant)

-- the error that reports this at once
abbrev pub IsWhy : Files → Bad → RestoreError → Type 0
IsWhy files BadMemory told = told ≡ WantsMemory
IsWhy files (Object_of name) told = TellsBad files name told
