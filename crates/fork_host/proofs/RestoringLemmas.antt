-- A host that is restored, tenant by tenant.
use Rattle.std.proofs.Common.{◌≡◌, ℕ, ◌<◌, ◌≤◌, Bool, true, false, cond, List, [], ◌∷◌, ◌++◌, Option, None, Some, Result, Ok, Err, inl, inr, refl, sym, ap, subst, ◌∙◌, length, map, arith}
use Rattle.std.proofs.lemmas.List.{append_assoc, length-map}
use Rattle.std.proofs.lemmas.List.Elements.{All-head, All-tail}
use Rattle.std.specs.List.{AllByRecursion, list_any}
use Rattle.std.specs.Ordering.{eq_by_cmp, ordering_reverse}
use Rattle.std.specs.declared.cmp.Ordering.TheVariants.{Less}
use Rattle.std.specs.FinMap.{FinMap, contains_key, contains_key-keys, empty, entries, get, get-insert, get-empty, insert, keys, len, len-empty, len-entries, same_map}
use Rattle.git_name.specs.Name.{name_cmp}
use Rattle.git_name.specs.Object.{Object}
use Rattle.git_name.proofs.Names.{name_total, name_exact}
use Rattle.git_reftx.proofs.PushLemmas.{entries_behind, keys_behind}
use Rattle.loose_store.specs.Files.{Files}
use Rattle.loose_store.specs.Stored.{Whole}
use Rattle.fork_reach.specs.Objects.{use_of}
use Rattle.fork_reach.specs.Source.{Objects}
use Rattle.fork_model.specs.Offer.{Offer, Pair}
use Rattle.fork_model.specs.Sound.{IsReach}
use Rattle.fork_model.specs.View.{View}
use Rattle.fork_model.specs.World.{World}
use Rattle.state_text.specs.Adding.{AreBefore}
use Rattle.state_text.specs.Kept.{state_kept, states_of}
use Rattle.state_text.specs.States.{Ascend, States, TenantState}
use Rattle.state_text.proofs.BehindLemmas.{each_behind, map_behind, nothing_in}
use Rattle.fork_host.specs.Refilled.{IsBehind, IsJudged, IsRefilledIn, IsWhy, first_told, told_at_once, with_judged}
use Rattle.fork_host.specs.Restored.{ByLimit, ByObject, ByTarget, HasObjects, HasTargets, IsStoreOrMemory, AllBefore, AreRefused, IsShownAgain, KeepsLimit, OnStore, TellsBad, WantsMemory, WantsStore, first_astray, first_bad, repositories_in}
use Rattle.fork_host.specs.Shown.{HostState, world_of}
use Rattle.fork_host.specs.declared.later.Bad.{Bad}
use Rattle.fork_host.specs.declared.later.Bad.TheVariants.{Memory as BadMemory, Object as Object_of}
use Rattle.fork_host.specs.declared.later.Later.{Later}
use Rattle.fork_host.specs.declared.later.Later.TheVariants.{Nothing, Target, Limit as Over}
use Rattle.fork_host.specs.declared.restore_error.RestoreError.{RestoreError}
use Rattle.fork_host.specs.declared.restore_error.RestoreError.TheVariants.{Unsound, OverLimit}
use Rattle.fork_host.specs.declared.seeing.Against.{Against}
use Rattle.fork_host.specs.declared.seeing.Against.TheVariants.{Memory as NoMemory, BadObject, Astray, Limit}
use Rattle.fork_host.proofs.NamesLemmas.{keys_seen, same_keys}
use Rattle.fork_host.proofs.WorldLemmas.{known_world, len_world}

-- a name after all keys is none of them
pub absent_behind : {X : Type 0} (values : FinMap name_cmp X) (name : List ℕ) → AreBefore (keys values) name → contains_key values name ≡ false
absent_behind values name before = contains_key-keys values name ∙ none (keys values) before
  where
    none : (names : List (List ℕ)) → AreBefore names name → list_any (eq_by_cmp name_cmp name) names ≡ false
    none [] before = refl
    none (other ∷ names) before =
        let above = name_total.antisymm name other ∙ ap ordering_reverse (All-head (λ key. name_cmp key name ≡ Less) other names before) in
        rw above (none names (All-tail (λ key. name_cmp key name ≡ Less) other names before))

-- one more key, after the others
pub keys_more : {X : Type 0} (values : FinMap name_cmp X) (name : List ℕ) (value : X) → AreBefore (keys values) name → keys (insert values name value) ≡ keys values ++ name ∷ []
keys_more values name value before = keys_behind values (insert values name value) name value (entries_behind values name value before)

-- the tenants of a world are those of the accounts
pub keys_world : (state : HostState) → keys (world_of state) ≡ keys state.accounts
keys_world state = same_keys (world_of state) state.accounts (known_world state)

-- of two values put under one name, the last one counts
pub put_twice : {X : Type 0} (values : FinMap name_cmp X) (name : List ℕ) (first last : X) → insert (insert values name first) name last ≡ insert values name last
put_twice {X = X} values name first last =
    same_map name_total name_exact _ _ (λ q. get-insert name_total (insert values name first) name last q ∙ ap (cond (eq_by_cmp name_cmp q name) (Some last)) (get-insert name_total values name first q)
    ∙ at q (eq_by_cmp name_cmp q name) ∙ sym (get-insert name_total values name last q))
  where
    at : (q : List ℕ) (b : Bool) → cond b (Some last) (cond b (Some first) (get values q)) ≡ cond b (Some last) (get values q)
    at q true = refl
    at q false = refl

-- a tenant that was added and then sees again what it saw
pub refilled_more : (files : Files) (tenant : TenantState) (old mid new : World) (view : View) → mid ≡ insert old tenant.name view → IsRefilledIn files tenant mid new → IsRefilledIn files tenant old new
refilled_more files tenant old mid new view added refilled = record {
  view = refilled.view;
  world = refilled.world ∙ ap (λ (w : World). insert w tenant.name refilled.view) added ∙ put_twice old tenant.name view refilled.view;
  repositories = refilled.repositories;
  offers = refilled.offers;
  limit = refilled.limit;
  upload = refilled.upload;
  stored = refilled.stored;
  targets = refilled.targets;
  reach = refilled.reach;
  within = refilled.within;
}

-- a tenant that sees again what it saw has its objects, its targets and its limit
has_objects : (files : Files) (tenant : TenantState) (old new : World) → IsRefilledIn files tenant old new → HasObjects files tenant
has_objects files tenant old new r = record { objects = r.stored.objects; stored = r.stored.stored; is = r.stored.is.1 }

has_targets : (files : Files) (tenant : TenantState) (old new : World) → IsRefilledIn files tenant old new → HasTargets files tenant
has_targets files tenant old new r = record { objects = r.stored.objects; stored = r.stored.stored; is = ap (first_astray (repositories_in tenant)) r.stored.is.0 ∙ r.targets }

keeps_limit : (files : Files) (tenant : TenantState) (old new : World) → IsRefilledIn files tenant old new → KeepsLimit files tenant
keeps_limit files tenant old new r = record { objects = r.stored.objects; stored = r.stored.stored; is = subst (λ objects. use_of objects ≤ tenant.limit) (sym r.stored.is.0) r.within }

-- the first tenant stays the first when states are added
first_more : {P : TenantState → Type 0} (states : States) (tenant last : TenantState) → AllBefore P states tenant → AllBefore P (states ++ last ∷ []) tenant
first_more states tenant last first = record {
  front = first.front;
  back = first.back ++ last ∷ [];
  parts = ap (λ s. s ++ last ∷ []) first.parts ∙ append_assoc first.front (tenant ∷ first.back) (last ∷ []);
  before = first.before;
}

first_last : {P : TenantState → Type 0} (states : States) (tenant : TenantState) → AllByRecursion P states → AllBefore P (states ++ tenant ∷ []) tenant
first_last states tenant all = record { front = states; back = []; parts = refl; before = all }

-- nothing is wrong with the states so far, and the world shows them
pub record IsFree (files : Files) (states : States) (world : World) : Type 0 where
  pub targets : AllByRecursion (HasTargets files) states
  pub limits : AllByRecursion (KeepsLimit files) states
  pub shown : IsShownAgain files states world

-- the first target that is bad
pub record IsAstray (files : Files) (states : States) (target : List ℕ) : Type 0 where
  pub tenant : TenantState
  pub reference : List ℕ
  pub first : AllBefore (HasTargets files) states tenant
  pub astray : OnStore files tenant.seen (λ objects. first_astray (repositories_in tenant) objects ≡ Some (reference, target))

-- the first tenant over its limit
pub record IsOverLimit (files : Files) (states : States) (name : List ℕ) : Type 0 where
  pub tenant : TenantState
  pub named : tenant.name ≡ name
  pub targets : AllByRecursion (HasTargets files) states
  pub first : AllBefore (KeepsLimit files) states tenant
  pub over : OnStore files tenant.seen (λ objects. tenant.limit < use_of objects)

abbrev pub IsNoted : Files → States → World → Later → Type 0
IsNoted files states world Nothing = IsFree files states world
IsNoted files states world (Target target) = IsAstray files states target
IsNoted files states world (Over name) = IsOverLimit files states name

-- the progress so far: the objects of these states exist, and what is wrong with the states is noted
pub record Going (files : Files) (states : States) (state : HostState) (later : Later) : Type 0 where
  pub objects : AllByRecursion (HasObjects files) states
  pub noted : IsNoted files states (world_of state) later
  pub same : state.vault.files ≡ files

-- one more tenant is shown
shown_more : (files : Files) (states : States) (tenant : TenantState) (old new : World) → AreBefore (keys old) tenant.name → Ascend tenant.seen → IsShownAgain files states old → IsRefilledIn files tenant old new → IsShownAgain files (states ++ tenant ∷ []) new
shown_more files states tenant old new before ascend shown r = record {
  states = ap states_of r.world ∙ ap (map state_kept) (entries_behind old tenant.name r.view before) ∙ map_behind state_kept (entries old) (tenant.name, r.view) ∙ (λ i. shown.states i ++ kept i ∷ []);
  quiet = λ name view here. quiet name view (eq_by_cmp name_cmp name tenant.name) (sym (get-insert name_total old tenant.name r.view name) ∙ ap (λ (w : World). get w name) (sym r.world) ∙ here);
  whole = λ name view key object here there. whole name view key object there (eq_by_cmp name_cmp name tenant.name) (sym (get-insert name_total old tenant.name r.view name) ∙ ap (λ (w : World). get w name) (sym r.world) ∙ here);
  reach = λ name view pair offer here there. reach name view pair offer there (eq_by_cmp name_cmp name tenant.name) (sym (get-insert name_total old tenant.name r.view name) ∙ ap (λ (w : World). get w name) (sym r.world) ∙ here);
}
  where
    seen : keys r.view.objects ≡ tenant.seen
    seen = ap (λ (o : Objects). keys o) (sym r.stored.is.0) ∙ keys_seen files tenant.seen r.stored.objects ascend r.stored.stored r.stored.is.1

    kept : state_kept (tenant.name, r.view) ≡ tenant
    kept i = record { name = tenant.name; limit = r.limit i; repositories = r.repositories i; seen = seen i; offers = r.offers i }

    quiet : (name : List ℕ) (view : View) (b : Bool) → cond b (Some r.view) (get old name) ≡ Some view → view.upload ≡ None
    quiet name view true is = (let same : r.view ≡ view = cc in ap (λ v. v.upload) (sym same) ∙ r.upload)
    quiet name view false is = shown.quiet name view is

    whole : (name : List ℕ) (view : View) (key : List ℕ) (object : Object) → get view.objects key ≡ Some object → (b : Bool) → cond b (Some r.view) (get old name) ≡ Some view → Whole files key object
    whole name view key object there true is =
        let same : r.view ≡ view = cc in
        r.stored.stored.whole key object (ap (λ (o : Objects). get o key) (r.stored.is.0 ∙ ap (λ v. v.objects) same) ∙ there)
    whole name view key object there false is = shown.whole name view key object is there

    reach : (name : List ℕ) (view : View) (pair : Pair) (offer : Offer) → get view.made pair ≡ Some offer → (b : Bool) → cond b (Some r.view) (get old name) ≡ Some view → IsReach view.objects offer
    reach name view pair offer there true is =
        let same : r.view ≡ view = cc in
        subst (λ (objects : Objects). IsReach objects offer) (ap (λ v. v.objects) same) (r.reach pair offer (ap (λ v. get v.made pair) same ∙ there))
    reach name view pair offer there false is = shown.reach name view pair offer is there

astray_more : (files : Files) (states : States) (last : TenantState) (target : List ℕ) → IsAstray files states target → IsAstray files (states ++ last ∷ []) target
astray_more files states last target noted = record { tenant = noted.tenant; reference = noted.reference; first = first_more states noted.tenant last noted.first; astray = noted.astray }

astray_last : (files : Files) (states : States) (tenant : TenantState) (target : List ℕ) → OnStore files tenant.seen (λ objects. (first_bad tenant.seen objects ≡ None) × (reference : List ℕ) × (first_astray (repositories_in tenant) objects ≡ Some (reference, target)))
    → AllByRecursion (HasTargets files) states → IsAstray files (states ++ tenant ∷ []) target
astray_last files states tenant target r targets =
    record { tenant = tenant; reference = r.is.1; first = first_last states tenant targets; astray = record { objects = r.objects; stored = r.stored; is = r.is.2 } }

targets_met : (files : Files) (tenant : TenantState) → OnStore files tenant.seen (λ objects. (first_bad tenant.seen objects ≡ None) × (first_astray (repositories_in tenant) objects ≡ None) × (tenant.limit < use_of objects)) → HasTargets files tenant
targets_met files tenant r = record { objects = r.objects; stored = r.stored; is = r.is.1 }

over_more : (files : Files) (states : States) (last : TenantState) (name : List ℕ) → HasTargets files last → IsOverLimit files states name → IsOverLimit files (states ++ last ∷ []) name
over_more files states last name met noted = record {
  tenant = noted.tenant;
  named = noted.named;
  targets = each_behind (HasTargets files) states last noted.targets met;
  first = first_more states noted.tenant last noted.first;
  over = noted.over;
}

-- one more tenant was judged
noted_more : (files : Files) (states : States) (tenant : TenantState) (old new : World) (later : Later) (judged : Result (Unit {0}) Against) → AreBefore (keys old) tenant.name → Ascend tenant.seen → IsJudged files tenant old new judged → told_at_once judged ≡ None
    → IsNoted files states old later → IsNoted files (states ++ tenant ∷ []) new (with_judged later tenant.name judged)
noted_more files states tenant old new Nothing (Ok done) before ascend r none noted = record {
  targets = each_behind (HasTargets files) states tenant noted.targets (has_targets files tenant old new r);
  limits = each_behind (KeepsLimit files) states tenant noted.limits (keeps_limit files tenant old new r);
  shown = shown_more files states tenant old new before ascend noted.shown r;
}
noted_more files states tenant old new (Target target) (Ok done) before ascend r none noted = astray_more files states tenant target noted
noted_more files states tenant old new (Over name) (Ok done) before ascend r none noted = over_more files states tenant name (has_targets files tenant old new r) noted
noted_more files states tenant old new later (Err NoMemory) before ascend r none noted = absurd (cc)
noted_more files states tenant old new later (Err (BadObject name)) before ascend r none noted = absurd (cc)
noted_more files states tenant old new Nothing (Err (Astray target)) before ascend r none noted = astray_last files states tenant target r noted.targets
noted_more files states tenant old new (Target first) (Err (Astray target)) before ascend r none noted = astray_more files states tenant first noted
noted_more files states tenant old new (Over name) (Err (Astray target)) before ascend r none noted = astray_last files states tenant target r noted.targets
noted_more files states tenant old new Nothing (Err Limit) before ascend r none noted = record {
  tenant = tenant;
  named = refl;
  targets = each_behind (HasTargets files) states tenant noted.targets (targets_met files tenant r);
  first = first_last states tenant noted.limits;
  over = record { objects = r.objects; stored = r.stored; is = r.is.2 };
}
noted_more files states tenant old new (Target target) (Err Limit) before ascend r none noted = astray_more files states tenant target noted
noted_more files states tenant old new (Over name) (Err Limit) before ascend r none noted = over_more files states tenant name (targets_met files tenant r) noted

-- its objects exist, unless something is reported at once
objects_met : (files : Files) (tenant : TenantState) (old new : World) (judged : Result (Unit {0}) Against) → IsJudged files tenant old new judged → told_at_once judged ≡ None → HasObjects files tenant
objects_met files tenant old new (Ok done) r none = has_objects files tenant old new r
objects_met files tenant old new (Err NoMemory) r none = absurd (cc)
objects_met files tenant old new (Err (BadObject name)) r none = absurd (cc)
objects_met files tenant old new (Err (Astray target)) r none = record { objects = r.objects; stored = r.stored; is = r.is.0 }
objects_met files tenant old new (Err Limit) r none = record { objects = r.objects; stored = r.stored; is = r.is.0 }

pub going_more : (files : Files) (states : States) (tenant : TenantState) (old new : HostState) (later : Later) (judged : Result (Unit {0}) Against) → AreBefore (keys old.accounts) tenant.name → Ascend tenant.seen → new.vault.files ≡ old.vault.files
    → IsJudged old.vault.files tenant (world_of old) (world_of new) judged → told_at_once judged ≡ None → Going files states old later → Going files (states ++ tenant ∷ []) new (with_judged later tenant.name judged)
going_more files states tenant old new later judged before ascend same is none so_far =
    let here = subst (λ fs. IsJudged fs tenant (world_of old) (world_of new) judged) so_far.same is in
    record {
      objects = each_behind (HasObjects files) states tenant so_far.objects (objects_met files tenant (world_of old) (world_of new) judged here none);
      noted = noted_more files states tenant (world_of old) (world_of new) later judged (subst (λ ks. AreBefore ks tenant.name) (sym (keys_world old)) before) ascend here none so_far.noted;
      same = same ∙ so_far.same;
    }

no_states : states_of empty ≡ []
no_states = ap (map state_kept) (nothing_in (entries (empty {K = List ℕ} {X = View} {R = name_cmp})) (let counted = len-entries (empty {K = List ℕ} {X = View} {R = name_cmp}) in let none = len-empty name_cmp View in omega (arith, counted, none)))

-- nothing was done yet
pub going_none : (files : Files) (state : HostState) → world_of state ≡ empty → state.vault.files ≡ files → Going files [] state Nothing
going_none files state none same = record {
  objects = tt;
  noted = record {
    targets = tt;
    limits = tt;
    shown = record {
      states = ap states_of none ∙ no_states;
      quiet = λ tenant view here. nobody tenant view _ here;
      whole = λ tenant view name object here there. nobody tenant view _ here;
      reach = λ tenant view pair offer here there. nobody tenant view _ here;
    };
  };
  same = same;
}
  where
    nobody : (tenant : List ℕ) (view : View) (G : Type 0) → get (world_of state) tenant ≡ Some view → G
    nobody tenant view G here = absurd (cc (sym (get-empty {X = View} name_cmp tenant) ∙ ap (λ (w : World). get w tenant) (sym none) ∙ here))

the_same : (told error : RestoreError) → ◌≡◌ {A = Option RestoreError} (Some told) (Some error) → told ≡ error
the_same told error is = cc

-- lack of memory, or a failing store
pub of_fault : (files : Files) (states : States) (error : RestoreError) → IsStoreOrMemory error → AreRefused files states error
of_fault files states error (inl is) = subst (AreRefused files states) (sym is) WantsStore
of_fault files states error (inr is) = subst (AreRefused files states) (sym is) WantsMemory

-- what is reported at once
pub told_bad : (files : Files) (states : States) (tenant : TenantState) (back all : States) (old new : HostState) (later : Later) (judged : Result (Unit {0}) Against) (bad : Bad) (error : RestoreError) → all ≡ states ++ tenant ∷ back → Going files states old later
    → IsJudged old.vault.files tenant (world_of old) (world_of new) judged → told_at_once judged ≡ Some bad → IsWhy files bad error → AreRefused files all error
told_bad files states tenant back all old new later (Ok done) bad error parts so_far is told why = absurd (cc)
told_bad files states tenant back all old new later (Err NoMemory) BadMemory error parts so_far is told why = of_fault files all error (inr why)
told_bad files states tenant back all old new later (Err NoMemory) (Object_of name) error parts so_far is told why = absurd (cc)
told_bad files states tenant back all old new later (Err (BadObject name)) BadMemory error parts so_far is told why = absurd (cc)
told_bad files states tenant back all old new later (Err (BadObject name)) (Object_of other) error parts so_far is told why =
    let same : name ≡ other = cc in
    let here = subst (λ fs. OnStore fs tenant.seen (λ objects. first_bad tenant.seen objects ≡ Some name)) so_far.same is in
    ByObject tenant name error (record { front = states; back = back; parts = parts; before = so_far.objects }) here (subst (λ n. TellsBad files n error) (sym same) why)
told_bad files states tenant back all old new later (Err (Astray target)) bad error parts so_far is told why = absurd (cc)
told_bad files states tenant back all old new later (Err Limit) bad error parts so_far is told why = absurd (cc)

-- what is reported at the end
pub told_late : (files : Files) (states : States) (state : HostState) (later : Later) (error : RestoreError) → Going files states state later → first_told later ≡ Some error → AreRefused files states error
told_late files states state Nothing error so_far told = absurd (cc)
told_late files states state (Target target) error so_far told =
    subst (AreRefused files states) (the_same (Unsound target) error told) (ByTarget so_far.noted.tenant so_far.noted.reference target so_far.objects so_far.noted.first so_far.noted.astray)
told_late files states state (Over name) error so_far told =
    subst (AreRefused files states) (ap OverLimit so_far.noted.named ∙ the_same (OverLimit name) error told) (ByLimit so_far.noted.tenant so_far.objects so_far.noted.targets so_far.noted.first so_far.noted.over)

pub shown_late : (files : Files) (states : States) (state : HostState) (later : Later) → Going files states state later → first_told later ≡ None → IsShownAgain files states (world_of state)
shown_late files states state Nothing so_far told = so_far.noted.shown
shown_late files states state (Target target) so_far told = absurd (cc)
shown_late files states state (Over name) so_far told = absurd (cc)

-- how a tenant that was added was judged
pub judged_more : (files : Files) (tenant : TenantState) (old mid new : World) (view : View) → mid ≡ insert old tenant.name view → (judged : Result (Unit {0}) Against) → IsJudged files tenant mid new judged → IsJudged files tenant old new judged
judged_more files tenant old mid new view added (Ok done) is = refilled_more files tenant old mid new view added is
judged_more files tenant old mid new view added (Err against) is = is

-- it comes after the others
pub is_behind : (name : List ℕ) (old new : List (List ℕ)) → new ≡ old ++ name ∷ [] → (judged : Result (Unit {0}) Against) → IsBehind name old new judged
is_behind name old new is (Ok done) = is
is_behind name old new is (Err NoMemory) = tt
is_behind name old new is (Err (BadObject bad)) = is
is_behind name old new is (Err (Astray target)) = is
is_behind name old new is (Err Limit) = is

pub behind_is : (name : List ℕ) (old new : List (List ℕ)) (judged : Result (Unit {0}) Against) → told_at_once judged ≡ None → IsBehind name old new judged → new ≡ old ++ name ∷ []
behind_is name old new (Ok done) none is = is
behind_is name old new (Err NoMemory) none is = absurd (cc)
behind_is name old new (Err (BadObject bad)) none is = absurd (cc)
behind_is name old new (Err (Astray target)) none is = is
behind_is name old new (Err Limit) none is = is

-- there are as many keys as entries
pub len_keys : {X : Type 0} (values : FinMap name_cmp X) → len values ≡ length (keys values)
len_keys values = len-entries values ∙ sym (length-map (entries values) (λ entry. entry.0))

-- at first there are no tenants
pub no_tenants : (state : HostState) → world_of state ≡ empty → keys state.accounts ≡ []
no_tenants state none = nothing_in (keys state.accounts) (let counted = len_keys state.accounts in let same = len_world state in let empty_is = ap (λ (w : World). len w) none ∙ len-empty name_cmp View in omega (arith, counted, same, empty_is))
