-- What is loaded from a text that was saved: nothing is wrong with the states of a sound world, and they show that world again.
use Rattle.std.proofs.Common.{◌≡◌, ◌≢◌, ℕ, arith, Bool, true, false, cond, not, List, [], ◌∷◌, ◌++◌, Option, None, Some, refl, sym, ap, subst, ◌∙◌, is_some, map, suc, inl, inr}
use Rattle.std.specs.Prelude.{Contains, ◌||◌, ◌&&◌, is_none}
use Rattle.std.specs.List.{AllByRecursion, find, flat_map, list_any}
use Rattle.std.specs.Option.{option_map, option_or}
use Rattle.std.specs.FinMap.{FinMap, contains_key-keys, entries, get, get-entries, keys, same_entries_map, same_map}
use Rattle.std.proofs.lemmas.List.Folds.{find-append}
use Rattle.std.proofs.lemmas.Map.Keys.{IsDistinct-from_sorted}
use Rattle.std.proofs.lemmas.Map.Views.{lookup-from_Contains}
use Rattle.std.specs.Cmp.{eq_by_cmp_equiv}
use Rattle.git_name.specs.Name.{name_cmp}
use Rattle.git_name.specs.Object.{Object}
use Rattle.git_name.specs.declared.kind.Kind.{Kind}
use Rattle.git_name.specs.declared.kind.Kind.TheVariants.{Blob, Tree, Commit, Tag}
use Rattle.git_name.proofs.MapLemmas.{entries_map_values}
use Rattle.git_name.proofs.Names.{name_total, name_exact}
use Rattle.git_name.proofs.TreeMaps.{find_is_lookup}
use Rattle.git_name.specs.Same.{is_one_of}
use Rattle.git_object.specs.ObjectIn.{links_in, object_in}
use Rattle.git_object.specs.declared.link.Link.{Link}
use Rattle.git_reftx.specs.Repository.{Repository}
use Rattle.git_reftx.specs.Transaction.{References, is_branch, is_commit}
use Rattle.git_reftx.proofs.PushLemmas.{keys_ascend}
use Rattle.loose_store.specs.Files.{Files}
use Rattle.loose_store.specs.Stored.{Whole}
use Rattle.fork_push.specs.Push.{same_kind}
use Rattle.fork_reach.specs.Objects.{use_of}
use Rattle.fork_reach.specs.Source.{Objects, kind_in}
use Rattle.fork_reach.proofs.NameLemmas.{Contains-keys}
use Rattle.fork_sound.specs.Sound.{is_bad, is_bad_found, is_other, is_unmet}
use Rattle.fork_model.specs.Offer.{Offer as Made, Pair}
use Rattle.fork_model.specs.Sound.{AreReferences, IsMet, IsReach, IsSound, IsSoundWorld}
use Rattle.fork_model.specs.View.{View}
use Rattle.fork_model.specs.World.{World}
use Rattle.fork_model.specs.Answer.{without_upload}
use Rattle.fork_model.proofs.EntryLemmas.{each_made, pair_exact, pair_total}
use Rattle.state_text.specs.declared.version.Version.{Version}
use Rattle.state_text.specs.Kept.{offer_kept, state_kept, states_of}
use Rattle.state_text.specs.Offer.{Offer}
use Rattle.state_text.specs.States.{States, TenantState}
use Rattle.state_text.specs.Text.{IsStateText2}
use Rattle.state_text.proofs.VersionLemmas.{of_version, one_value}
use Rattle.fork_host.specs.Restored.{AreOnStore, ByLimit, ByObject, ByTarget, IsStoreOrMemory, AllBefore, AreRefused, IsShownAgain, WantsMemory, WantsStore, first_astray, first_bad, is_bad_target, references_in, repositories_in, HasWorld}
use Rattle.fork_host.specs.declared.restore_error.RestoreError.{RestoreError}
use Rattle.fork_host.specs.Made.{made_shown}
use Rattle.fork_host.proofs.MadeLemmas.{same_told, shown_reach}
use Rattle.fork_host.proofs.RecallLemmas.{one_whole}
use Rattle.fork_host.proofs.RestoreLemmas.{one_of}
use Rattle.fork_host.specs.Uploads.{without_uploads}
use Rattle.fork_state.specs.Loaded.{IsLoaded}

-- entries are what is found
of_entry : {X : Type 0} (values : FinMap name_cmp X) (name : List ℕ) (value : X) → Contains (entries values) (name, value) → get values name ≡ Some value
of_entry values name value is = get-entries values name ∙ find_is_lookup name_cmp (entries values) name ∙ lookup-from_Contains (eq_by_cmp_equiv name_total) name value (entries values) (IsDistinct-from_sorted name_cmp (keys values) (keys_ascend values)) is

later : {A : Type 0} (x : A) (xs : List A) (y : A) → Contains xs y → Contains (x ∷ xs) y
later x xs y (i, inside, is) = (suc i, omega (arith, inside), is)

first : {A : Type 0} (x : A) (xs : List A) → Contains (x ∷ xs) x
first x xs = (0, omega arith, refl)

-- nothing is found where nothing passes
none_found : {A : Type 0} (test : A → Bool) (xs : List A) → ((x : A) → Contains xs x → test x ≡ false) → find test xs ≡ None
none_found test [] fails = refl
none_found test (x ∷ xs) fails = ap (λ b. cond b (Some x) (find test xs)) (fails x (first x xs)) ∙ none_found test xs (λ y is. fails y (later x xs y is))

none_any : {A : Type 0} (test : A → Bool) (xs : List A) → AllByRecursion (λ x. test x ≡ false) xs → list_any test xs ≡ false
none_any test [] fails = refl
none_any test (x ∷ xs) fails = ap (λ b. b || list_any test xs) fails.0 ∙ none_any test xs fails.1

-- a tenant's state is that of a sound view whose objects are on the store
record Fine (files : Files) (tenant : TenantState) : Type 0 where
  pub view : View
  pub seen : tenant.seen ≡ keys view.objects
  pub repositories : tenant.repositories ≡ entries view.repositories
  pub offers : tenant.offers ≡ map offer_kept (entries view.made)
  pub limit : tenant.limit ≡ view.limit
  pub sound : IsSound view
  pub whole : (name : List ℕ) (object : Object) → get view.objects name ≡ Some object → Whole files name object

all_fine : (files : Files) (es : List (List ℕ × View)) → ((name : List ℕ) (view : View) → Contains es (name, view) → Fine files (state_kept (name, view))) → AllByRecursion (Fine files) (map state_kept es)
all_fine files [] fine = tt
all_fine files (e ∷ es) fine = (fine e.0 e.1 (first e es), all_fine files es (λ name view is. fine name view (later e es (name, view) is)))

one_fine : (P : TenantState → Type 0) (front : States) (tenant : TenantState) (back : States) → AllByRecursion P (front ++ tenant ∷ back) → P tenant
one_fine P [] tenant back all = all.0
one_fine P (other ∷ front) tenant back all = one_fine P front tenant back all.1

fine_world : (files : Files) (world : World) → IsSoundWorld world → HasWorld files world → AllByRecursion (Fine files) (states_of world)
fine_world files world sound has =
    all_fine files (entries world) (λ name view is.
    let here = of_entry world name view is in
    record {
      view = view;
      seen = refl;
      repositories = refl;
      offers = refl;
      limit = refl;
      sound = record { orderly = sound.orderly.views name view here; right = sound.right name view here };
      whole = λ key object found. has name view key object here found;
    })

fine_at : (P : TenantState → Type 0) (files : Files) (states : States) (tenant : TenantState) → AllByRecursion (Fine files) states → AllBefore P states tenant → Fine files tenant
fine_at P files states tenant all at = one_fine (Fine files) at.front tenant at.back (subst (AllByRecursion (Fine files)) at.parts all)

there : (objects : Objects) (name : List ℕ) → Contains (keys objects) name → (object : Object) × (get objects name ≡ Some object)
there objects name is = by (get objects name) refl (one_of (keys objects) name is)
  where
    by : (o : Option Object) → get objects name ≡ o → is_one_of (keys objects) name ≡ true → (object : Object) × (get objects name ≡ Some object)
    by (Some object) found here = (object, found)
    by None found here = absurd (cc (sym (ap is_some found) ∙ contains_key-keys objects name ∙ here))

-- of some names one store has the same objects
same_objects : (files : Files) (a b : Objects) (names : List (List ℕ)) → AreOnStore files names a → names ≡ keys b → ((name : List ℕ) (object : Object) → get b name ≡ Some object → Whole files name object) → a ≡ b
same_objects files a b names stored are whole = same_map name_total name_exact a b (λ name. by name (get a name) refl (get b name) refl)
  where
    by : (name : List ℕ) (o : Option Object) → get a name ≡ o → (p : Option Object) → get b name ≡ p → get a name ≡ get b name
    by name (Some object) is p found =
        let other = there b name (subst (λ ns. Contains ns name) are (stored.among name object is)) in
        is ∙ ap Some (one_whole files name object other.0 (stored.whole name object is) (whole name other.0 other.1)) ∙ sym other.1
    by name None is None found = is ∙ sym found
    by name None is (Some object) found =
        stored.all name object (subst (λ ns. Contains ns name) (sym are) (Contains-keys b name (ap is_some found))) (whole name object found) ∙ sym found

right_found : {X : Type 0} (o : Option X) → o ≢ None → is_none o ≡ false
right_found None is = absurd (is refl)
right_found (Some x) is = refl

same_kind_itself : (kind : Kind) → not (same_kind kind kind) ≡ false
same_kind_itself Blob = refl
same_kind_itself Tree = refl
same_kind_itself Commit = refl
same_kind_itself Tag = refl

-- a link that is met
met_link : (objects : Objects) (names : List (List ℕ)) (link : Link) → names ≡ keys objects → IsMet objects link → is_unmet objects (is_one_of names) link ≡ false
met_link objects names link are met =
    by (get objects link.name) refl met
  where
    by : (o : Option Object) → get objects link.name ≡ o → option_map (λ object. object.kind) o ≡ Some link.kind → is_unmet objects (is_one_of names) link ≡ false
    by None found is = absurd (cc)
    by (Some object) found is =
        let seen : is_one_of names link.name ≡ true = one_of names link.name (subst (λ ns. Contains ns link.name) (sym are) (Contains-keys objects link.name (ap is_some found))) in
        ap (λ b. not b || is_other link.kind (kind_in objects link.name)) seen ∙ ap (λ o. is_other link.kind (option_map (λ object. object.kind) o)) found
        ∙ ap (is_other link.kind) is ∙ same_kind_itself link.kind

-- none of the objects is bad
none_bad : (files : Files) (tenant : TenantState) (fine : Fine files tenant) → first_bad tenant.seen fine.view.objects ≡ None
none_bad files tenant fine =
    none_found (is_bad fine.view.objects (is_one_of tenant.seen)) tenant.seen (λ name is.
    let found = there fine.view.objects name (subst (λ ns. Contains ns name) fine.seen is) in
    ap (is_bad_found fine.view.objects (is_one_of tenant.seen)) found.1
    ∙ ap (λ b. b || list_any (is_unmet fine.view.objects (is_one_of tenant.seen)) (links_in found.0.kind found.0.bytes)) (right_found (object_in found.0.kind found.0.bytes) (fine.sound.right.right name found.0 found.1))
    ∙ none_any (is_unmet fine.view.objects (is_one_of tenant.seen)) (links_in found.0.kind found.0.bytes) (all_met (links_in found.0.kind found.0.bytes) (fine.sound.right.closed name found.0 found.1)))
  where
    all_met : (links : List Link) → AllByRecursion (IsMet fine.view.objects) links → AllByRecursion (λ link. is_unmet fine.view.objects (is_one_of tenant.seen) link ≡ false) links
    all_met [] met = tt
    all_met (link ∷ links) met = (met_link fine.view.objects tenant.seen link fine.seen met.0, all_met links met.1)

-- none of the references is astray
none_in : (bad : List ℕ × List ℕ → Bool) (list : List Repository) → AllByRecursion (λ repository. find bad (references_in repository) ≡ None) list → find bad (flat_map references_in list) ≡ None
none_in bad [] none = refl
none_in bad (r ∷ list) none =
    find-append bad (references_in r) (flat_map references_in list) ∙ ap (λ o. option_or o (find bad (flat_map references_in list))) none.0 ∙ none_in bad list none.1

both_all : {A : Type 0} (P : A → Type 0) (xs ys : List A) → AllByRecursion P xs → AllByRecursion P ys → AllByRecursion P (xs ++ ys)
both_all P [] ys all others = others
both_all P (x ∷ xs) ys all others = (all.0, both_all P xs ys all.1 others)

good_target : (objects : Objects) (references : References) (reference target : List ℕ) → AreReferences objects references → get references reference ≡ Some target → is_bad_target (kind_in objects) (reference, target) ≡ false
good_target objects references reference target are here =
    let one = are.each reference target here in
    ap (λ b. b || (is_branch reference && not (is_commit (kind_in objects target)))) (known (get objects target) one.there) ∙ by (is_branch reference) refl one.commit
  where
    known : (o : Option Object) → is_some o ≡ true → is_none (option_map (λ object. object.kind) o) ≡ false
    known None is = absurd (cc)
    known (Some object) is = refl

    by : (b : Bool) → is_branch reference ≡ b → (is_branch reference ≡ true → is_commit (kind_in objects target) ≡ true) → (b && not (is_commit (kind_in objects target))) ≡ false
    by true is commit = ap not (commit is)
    by false is commit = refl

-- of references that a repository may have
none_of : (objects : Objects) (references : References) → AreReferences objects references → find (is_bad_target (kind_in objects)) (entries references) ≡ None
none_of objects references are =
    none_found (is_bad_target (kind_in objects)) (entries references) (λ entry among. good_target objects references entry.0 entry.1 are (of_entry references entry.0 entry.1 among))

made_told : (made : List (Pair × Made)) → map (λ (offer : Offer). offer.repository) (map offer_kept made) ≡ map (λ e. e.1.repository) made
made_told [] = refl
made_told (e ∷ es) = ap (λ rs. e.1.repository ∷ rs) (made_told es)

-- its references point at objects that are there, and branches at commits
abbrev IsRightAt : Objects → Repository → Type 0
IsRightAt objects repository = find (is_bad_target (kind_in objects)) (references_in repository) ≡ None

none_astray : (files : Files) (tenant : TenantState) (fine : Fine files tenant) → first_astray (repositories_in tenant) fine.view.objects ≡ None
none_astray files tenant fine =
    let objects = fine.view.objects in
    let orderly = fine.sound.orderly in
    none_in (is_bad_target (kind_in objects)) (repositories_in tenant)
    (both_all (IsRightAt objects) (map (λ row. row.1) tenant.repositories) (map (λ (offer : Offer). offer.repository) tenant.offers)
    (subst (λ rows. AllByRecursion (IsRightAt objects) (map (λ row. row.1) rows)) (sym fine.repositories) (each_made name_total name_exact (IsRightAt objects) (λ e. e.1) fine.view.repositories (λ name repository is. none_of objects repository.references (orderly.references name repository is))))
    (subst (AllByRecursion (IsRightAt objects)) (sym (made_told (entries fine.view.made)) ∙ ap (map (λ (offer : Offer). offer.repository)) (sym fine.offers))
    (each_made pair_total pair_exact (IsRightAt objects) (λ e. e.1.repository) fine.view.made (λ pair offer is. none_of objects offer.repository.references (orderly.offers pair offer is).references))))

none_some : {A : Type 0} (o : Option A) (a : A) (G : Type 0) → o ≡ None → o ≡ Some a → G
none_some o a G none some = absurd (cc (sym none ∙ some))

pub accepts : (world : World) (files : Files) (error : RestoreError) → IsSoundWorld world → HasWorld files world → AreRefused files (states_of world) error → IsStoreOrMemory error
accepts world files error sound has (ByObject tenant name told at against tells) =
    let fine = fine_at _ files (states_of world) tenant (fine_world files world sound has) at in
    let same = same_objects files against.objects fine.view.objects tenant.seen against.stored fine.seen fine.whole in
    none_some (first_bad tenant.seen fine.view.objects) name _ (none_bad files tenant fine) (ap (first_bad tenant.seen) (sym same) ∙ against.is)
accepts world files error sound has (ByTarget tenant reference target all at against) =
    let fine = fine_at _ files (states_of world) tenant (fine_world files world sound has) at in
    let same = same_objects files against.objects fine.view.objects tenant.seen against.stored fine.seen fine.whole in
    none_some (first_astray (repositories_in tenant) fine.view.objects) (reference, target) _ (none_astray files tenant fine) (ap (first_astray (repositories_in tenant)) (sym same) ∙ against.is)
accepts world files error sound has (ByLimit tenant all targets at against) =
    let fine = fine_at _ files (states_of world) tenant (fine_world files world sound has) at in
    let same = same_objects files against.objects fine.view.objects tenant.seen against.stored fine.seen fine.whole in
    let most = fine.sound.orderly.within_limit in
    let limit = fine.limit in
    let over = against.is in
    let uses = ap use_of same in
    absurd (omega (arith, most, limit, over, uses))
accepts world files error sound has WantsMemory = inr refl
accepts world files error sound has WantsStore = inl refl

-- each offer holds what its references reach
abbrev EachReach : View → Type 0
EachReach view = (pair : Pair) (offer : Made) → get view.made pair ≡ Some offer → IsReach view.objects offer

-- entries of the same states
same_rows : (files : Files) (es fs : List (List ℕ × View)) → map state_kept es ≡ map state_kept fs → ((name : List ℕ) (view : View) → Contains es (name, view) → view.upload ≡ None)
    → ((name : List ℕ) (view : View) (key : List ℕ) (object : Object) → Contains es (name, view) → get view.objects key ≡ Some object → Whole files key object)
    → ((name : List ℕ) (view : View) (key : List ℕ) (object : Object) → Contains fs (name, view) → get view.objects key ≡ Some object → Whole files key object)
    → ((name : List ℕ) (view : View) → Contains es (name, view) → EachReach view) → ((name : List ℕ) (view : View) → Contains fs (name, view) → EachReach view) → es ≡ map (λ e. (e.0, without_upload e.1)) fs
same_rows files [] [] same quiet left right reach reaches = refl
same_rows files [] (f ∷ fs) same quiet left right reach reaches = absurd (cc)
same_rows files (e ∷ es) [] same quiet left right reach reaches = absurd (cc)
same_rows files (e ∷ es) (f ∷ fs) same quiet left right reach reaches =
    let head : state_kept e ≡ state_kept f = cc in
    let tail : map state_kept es ≡ map state_kept fs = cc in
    let names = ap (λ t. t.name) head in
    let limits = ap (λ t. t.limit) head in
    let repositories = same_entries_map e.1.repositories f.1.repositories (ap (λ t. t.repositories) head) in
    let seen = ap (λ t. t.seen) head in
    let objects = same_objects files e.1.objects f.1.objects (keys e.1.objects) (itself e.1.objects (λ key object. left e.0 e.1 key object (first e es))) seen (λ key object. right f.0 f.1 key object (first f fs)) in
    let made = sym (shown_reach e.1.objects e.1.made (reach e.0 e.1 (first e es))) ∙ (λ i. made_shown (objects i) (same_told e.1.made f.1.made (ap (λ t. t.offers) head) i)) ∙ shown_reach f.1.objects f.1.made (reaches f.0 f.1 (first f fs)) in
    let upload = quiet e.0 e.1 (first e es) in
    (λ i. (names i, record { repositories = repositories i; made = made i; objects = objects i; upload = upload i; limit = limits i })
    ∷ same_rows files es fs tail (λ name view is. quiet name view (later e es (name, view) is)) (λ name view key object is. left name view key object (later e es (name, view) is)) (λ name view key object is. right name view key object (later f fs (name, view) is))
    (λ name view is. reach name view (later e es (name, view) is)) (λ name view is. reaches name view (later f fs (name, view) is)) i)
  where
    itself : (objects : Objects) → ((key : List ℕ) (object : Object) → get objects key ≡ Some object → Whole files key object) → AreOnStore files (keys objects) objects
    itself objects whole = record {
      among = λ name object is. Contains-keys objects name (ap is_some is);
      whole = whole;
      all = λ name object is stored. let found = there objects name is in found.1 ∙ ap Some (one_whole files name found.0 object (whole name found.0 found.1) stored);
    }

pub shows : (world new : World) (files : Files) → IsSoundWorld world → HasWorld files world → IsShownAgain files (states_of world) new → new ≡ without_uploads world
shows world new files sound has shown =
    same_entries_map new (without_uploads world)
    (same_rows files (entries new) (entries world) shown.states
    (λ name view is. shown.quiet name view (of_entry new name view is))
    (λ name view key object is. shown.whole name view key object (of_entry new name view is))
    (λ name view key object is. has name view key object (of_entry world name view is))
    (λ name view is pair offer. shown.reach name view pair offer (of_entry new name view is))
    (λ name view is. (sound.right name view (of_entry world name view is)).offered)
    ∙ sym (entries_map_values without_upload world))

-- its text tells of that world alone
pub loads : (world new : World) (files : Files) (version : Version) (text : List ℕ) → IsSoundWorld world → HasWorld files world → IsStateText2 (states_of world) text → IsLoaded files version text new → new ≡ without_uploads world
loads world new files version text sound has spelled loaded =
    let same = one_value loaded.states (states_of world) text (of_version version loaded.states text loaded.tells) (inr spelled) in
    shows world new files sound has (subst (λ states. IsShownAgain files states new) same loaded.shown)
