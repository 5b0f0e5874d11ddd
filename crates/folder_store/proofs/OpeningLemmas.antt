-- What lasts, after a folder is opened.
use Rattle.std.proofs.Common.{◌≡◌, ◌≢◌, inl, inr, ℕ, Bool, true, false, cond, List, [], ◌∷◌, Option, Some, None, Result, Ok, Err, OnOk, nat_eq, refl, sym, ◌∙◌, ap, subst, take, arith}
use Rattle.std.specs.Cmp.Lexicographic.{pointwise}
use Rattle.std.specs.FinMap.{get}
use Rattle.std.proofs.lemmas.List.Elements.{All-nil, All-cons}
use Rattle.devices.specs.Crash.{File, Names, MayNames, MayBytes, Stands, moved, names_after, set}
use Rattle.devices.specs.Device.{Effect, Past, Does, Moved, Removed, SyncedFile, SyncedFolder, files_of, with_effect}
use Rattle.devices.specs.Runs.{Runs}
use Rattle.git_name.specs.Name.{IsName}
use Rattle.folder_store.specs.Contents.{contents_of}
use Rattle.folder_store.specs.Lasting.{as_read, AllSafe, IsBothSafe, IsSafe, IsUnfailed}
use Rattle.devices.specs.Moments.{Throughout}
use Rattle.folder_store.specs.Place.{home_with, name_at, place_of, swept_at, swept_of}
use Rattle.folder_store.specs.Swept.{is_whole, put_back, steps_back}
use Rattle.folder_store.specs.Synced.{IsSync}
use Rattle.folder_store.proofs.ContentLemmas.{clash, get_file}
use Rattle.folder_store.proofs.LastingLemmas.{apart, there_whole, place_off_swept, places_apart, safe_at_off, safe_by_place, safe_off, swept_apart, swept_off_place}
use Rattle.devices.proofs.BeforeLemmas.{seen_may}
use Rattle.devices.proofs.SeenLemmas.{set_here}
use Rattle.devices.proofs.MomentLemmas.{throughout_end, throughout_none, throughout_one, throughout_then}
use Rattle.folder_store.proofs.NotedLemmas.{whole_there}
use Rattle.folder_store.proofs.PlaceLemmas.{one_text, place_has, same_text}
use Rattle.folder_store.proofs.StepLemmas.{both_off, same_safe}
use Rattle.folder_store.proofs.SweptLemmas.{swept_has}
use Rattle.folder_store.proofs.SyncedLemmas.{at_home_of, seen_stands, synced_safe}

-- ---- calls that report nothing failed
pub last_none : (old new : Past) → new ≡ old → AllSafe old new
last_none old new is = subst (λ (p : Past). AllSafe old p) (sym is) (λ unfailed. (unfailed, λ name is_name safe. throughout_none (IsBothSafe name) old old refl safe))

pub last_then : (a b c : Past) → AllSafe a b → AllSafe b c → AllSafe a c
last_then a b c first then unfailed =
    let one = first unfailed in
    let two = then one.0 in
    (two.0, λ name is_name safe. (let before = one.1 name is_name safe in throughout_then (IsBothSafe name) a b c before (two.1 name is_name (throughout_end (IsBothSafe name) a b before))))

pub last_then_ok : {A E : Type 0} (result : Result A E) (a b c : Past) → AllSafe a b → OnOk result (AllSafe b c) → OnOk result (AllSafe a c)
last_then_ok (Ok answer) a b c first then = last_then a b c first then
last_then_ok (Err fault) a b c first then = tt

some_none : {P : Type 0} (a : List ℕ) → Some a ≡ None → P
some_none a is = absurd (cc)

-- a file that is neither an object's nor a swept one is removed
pub removed_last : {A E : Type 0} (old new : Past) (path : List ℕ) (result : Result A E) → name_at path ≡ None → swept_at path ≡ None → Does (Removed path) old new result → OnOk result (AllSafe old new)
removed_last old new path (Err fault) none no_swept does = tt
removed_last old new path (Ok answer) none no_swept does =
    subst (λ (p : Past). AllSafe old p) (sym does) (λ unfailed. (
      record { files = λ f. unfailed.files f; folders = λ folder. unfailed.folders folder },
      λ name is_name safe.
          throughout_one (IsBothSafe name) old (with_effect old (Removed path)) (Removed path) refl safe
          (safe_off old (Removed path) name (record { names = tt; off = apart swept_at path (swept_of name) (λ same. some_none name (sym (swept_has name is_name) ∙ sym same ∙ no_swept)) })
          (record { names = tt; off = apart name_at path (place_of name) (λ same. some_none name (sym (place_has name is_name) ∙ sym same ∙ none)) }) safe),
    ))

-- ---- one swept file that is put back
swept_whole : (name : List ℕ) (swept there : Option (List ℕ)) → is_whole name there ≡ false → is_whole name (put_back name swept there) ≡ true → is_whole name swept ≡ true
swept_whole name None there not_there whole = clash (is_whole name there) whole not_there
swept_whole name (Some bytes) there not_there whole = sym (ap (λ (b : Bool). is_whole name (cond b there (Some bytes))) not_there) ∙ whole

module _ (old : Past) (name : List ℕ) (is_name : IsName name) where
  S : Effect
  S = SyncedFile (place_of name)

  H : Effect
  H = SyncedFolder (home_with (take 1 name))

  -- a whole file at the place is synced, and the swept one removed
  let_go_own : IsUnfailed old → is_whole name (get (contents_of (files_of old)) name) ≡ true → IsSafe (with_effect (with_effect (with_effect old (SyncedFile (place_of name))) (SyncedFolder (home_with (take 1 name)))) (Removed (swept_of name))) name
  let_go_own unfailed whole = by (whole_there name (get (files_of old) (place_of name)) (get (contents_of (files_of old)) name) (get_file (files_of old) name is_name) whole)
    where
      by : (bytes : List ℕ) × (get (files_of old) (place_of name) ≡ Some bytes) × (is_whole name (as_read (Some bytes)) ≡ true)
          → IsSafe (with_effect (with_effect (with_effect old (SyncedFile (place_of name))) (SyncedFolder (home_with (take 1 name)))) (Removed (swept_of name))) name
      by (bytes, there, right) =
          safe_by_place (with_effect (with_effect (with_effect old (SyncedFile (place_of name))) (SyncedFolder (home_with (take 1 name)))) (Removed (swept_of name))) name
          (safe_at_off (with_effect (with_effect old (SyncedFile (place_of name))) (SyncedFolder (home_with (take 1 name)))) (Removed (swept_of name)) (place_of name) name (record { names = tt; off = swept_off_place name name })
          (synced_safe old (with_effect (with_effect old (SyncedFile (place_of name))) (SyncedFolder (home_with (take 1 name)))) (SyncedFolder (home_with (take 1 name)) ∷ SyncedFile (place_of name) ∷ []) (place_of name) (home_with (take 1 name)) name bytes
          (record { syncs = All-cons IsSync (SyncedFolder (home_with (take 1 name))) (SyncedFile (place_of name) ∷ []) tt (All-cons IsSync (SyncedFile (place_of name)) [] tt (All-nil IsSync)); past = refl })
          (1, omega arith, refl) (0, omega arith, refl) (at_home_of name is_name) unfailed.files (unfailed.folders (home_with (take 1 name))) there right))

  move_back_own : is_whole name (get (contents_of (files_of old)) name) ≡ false → IsSafe old name → IsSafe (with_effect old (Moved (swept_of name) (place_of name))) name
  move_back_own not_there safe m may swept there s t = by m may swept there s t
    where
      -- what may be left of the swept file is whole
      may_whole : (f : File) → names_after old.base old.effects (swept_of name) ≡ Some f → (x : List ℕ) → MayBytes old.base old.effects f x → is_whole name (as_read (Some x)) ≡ true
      may_whole f at_swept x may = of_seen (get (files_of old) (place_of name)) refl
        where
          of_seen : (o : Option (List ℕ)) → get (files_of old) (place_of name) ≡ o → is_whole name (as_read (Some x)) ≡ true
          of_seen o has =
              swept_whole name (as_read (Some x)) (as_read (get (files_of old) (place_of name))) (ap (is_whole name) (get_file (files_of old) name is_name) ∙ not_there)
              (safe (names_after old.base old.effects) (seen_may old.base old.effects) (Some x) (get (files_of old) (place_of name))
              (subst (λ (p : Option File). Stands old.base old.effects p (Some x)) (sym at_swept) (x, refl, may)) (seen_stands old (place_of name)))

      by : (m : Names) → MayNames old.base (Moved (swept_of name) (place_of name) ∷ old.effects) m → (swept there : Option (List ℕ))
          → Stands old.base (Moved (swept_of name) (place_of name) ∷ old.effects) (m (swept_of name)) swept → Stands old.base (Moved (swept_of name) (place_of name) ∷ old.effects) (m (place_of name)) there → is_whole name (put_back name (as_read swept) (as_read there)) ≡ true
      by m (d, was, inl same) swept there s t = same_safe old name safe (Moved (swept_of name) (place_of name)) m d tt was same swept there s t
      by m (d, was, inr new) swept there s t = at_names (names_after old.base old.effects (swept_of name)) refl new
        where
          at_place : (f : File) → ((q : List ℕ) → m q ≡ moved d (swept_of name) (place_of name) (Some f) q) → m (place_of name) ≡ Some f
          at_place f is = is (place_of name) ∙ set_here (set d (swept_of name) None) (place_of name) (place_of name) (Some f) (same_text (place_of name))

          alone : (f : File) → names_after old.base old.effects (swept_of name) ≡ Some f → Stands old.base (Moved (swept_of name) (place_of name) ∷ old.effects) (Some f) there → is_whole name (put_back name (as_read swept) (as_read there)) ≡ true
          alone f has (x, is, may) = there_whole name (as_read swept) (as_read there) (ap (λ (o : Option (List ℕ)). is_whole name (as_read o)) is ∙ may_whole f has x may)

          at_names : (o : Option File) → names_after old.base old.effects (swept_of name) ≡ o → ((q : List ℕ) → m q ≡ moved d (swept_of name) (place_of name) o q) → is_whole name (put_back name (as_read swept) (as_read there)) ≡ true
          at_names None has is = same_safe old name safe (Moved (swept_of name) (place_of name)) m d tt was is swept there s t
          at_names (Some f) has is = alone f has (subst (λ (o : Option File). Stands old.base (Moved (swept_of name) (place_of name) ∷ old.effects) o there) (at_place f is) t)

  -- another name, meanwhile
  let_go_other : (other : List ℕ) → IsName other → name ≢ other → IsSafe old other → IsSafe (with_effect (with_effect (with_effect old (SyncedFile (place_of name))) (SyncedFolder (home_with (take 1 name)))) (Removed (swept_of name))) other
  let_go_other other other_name differ safe =
      safe_off (with_effect (with_effect old (SyncedFile (place_of name))) (SyncedFolder (home_with (take 1 name)))) (Removed (swept_of name)) other
      (record { names = tt; off = swept_apart name other is_name other_name differ }) (record { names = tt; off = swept_off_place name other })
      (safe_off (with_effect old (SyncedFile (place_of name))) (SyncedFolder (home_with (take 1 name))) other (record { names = tt; off = refl }) (record { names = tt; off = refl })
      (safe_off old (SyncedFile (place_of name)) other (record { names = tt; off = refl }) (record { names = tt; off = refl }) safe))

  move_back_other : (other : List ℕ) → IsName other → name ≢ other → IsSafe old other → IsSafe (with_effect old (Moved (swept_of name) (place_of name))) other
  move_back_other other other_name differ safe =
      safe_off old (Moved (swept_of name) (place_of name)) other
      (record { names = tt; off = both_off _ _ (swept_apart name other is_name other_name differ) (place_off_swept name other) })
      (record { names = tt; off = both_off _ _ (swept_off_place name other) (places_apart name other is_name other_name differ) }) safe

  pub either_name : {P : List ℕ → Type 0} → P name → ((other : List ℕ) → IsName other → name ≢ other → P other) → (other : List ℕ) → IsName other → P other
  either_name {P} own others other other_name = by (pointwise nat_eq name other) refl
    where
      by : (b : Bool) → pointwise nat_eq name other ≡ b → P other
      by true same = subst P (one_text name other same) own
      by false differ = others other other_name (λ same. clash (pointwise nat_eq name other) (ap (pointwise nat_eq name) (sym same) ∙ same_text name) differ)

-- a file is safe while another one is synced, and the folder of names
module _ (old : Past) (path folder name : List ℕ) (safe : IsSafe old name) where
  abbrev synced_one : Past
  synced_one = with_effect old (SyncedFile path)

  abbrev synced_two : Past
  synced_two = with_effect synced_one (SyncedFolder folder)

  after_one : IsSafe synced_one name
  after_one = safe_off old (SyncedFile path) name (record { names = tt; off = refl }) (record { names = tt; off = refl }) safe

  after_two : IsSafe synced_two name
  after_two = safe_off synced_one (SyncedFolder folder) name (record { names = tt; off = refl }) (record { names = tt; off = refl }) after_one

  pub both_then : (e : Effect) → IsSafe (with_effect synced_two e) name → Throughout (IsBothSafe name) old (with_effect synced_two e)
  both_then e last =
      throughout_then (IsBothSafe name) old synced_two (with_effect synced_two e)
      (throughout_then (IsBothSafe name) old synced_one synced_two (throughout_one (IsBothSafe name) old synced_one (SyncedFile path) refl safe after_one) (throughout_one (IsBothSafe name) synced_one synced_two (SyncedFolder folder) refl after_one after_two))
      (throughout_one (IsBothSafe name) synced_two (with_effect synced_two e) e refl after_two last)

-- a call that puts a swept file back
pub last_back : {A : Type 0} (E : Type 0) (old new : Past) (name : List ℕ) (b : Bool) (answer : A) → IsName name → is_whole name (get (contents_of (files_of old)) name) ≡ b → Runs {A = A} {E = E} (steps_back name b) old new (Ok answer) → AllSafe old new
last_back E old new name true answer is_name whole runs =
    subst (λ (p : Past). AllSafe old p) (sym runs) (λ unfailed. (
      record { files = λ f. unfailed.files f; folders = λ folder. unfailed.folders folder },
      λ other other_name safe.
          both_then old (place_of name) (home_with (take 1 name)) other safe (Removed (swept_of name))
          (either_name old name is_name {P = λ q. IsSafe old q → IsSafe (with_effect (with_effect (with_effect old (SyncedFile (place_of name))) (SyncedFolder (home_with (take 1 name)))) (Removed (swept_of name))) q}
          (λ own. let_go_own old name is_name unfailed whole) (let_go_other old name is_name) other other_name safe),
    ))
last_back E old new name false answer is_name whole runs =
    subst (λ (p : Past). AllSafe old p) (sym runs) (λ unfailed. (
      record { files = λ f. unfailed.files f; folders = λ folder. unfailed.folders folder },
      λ other other_name safe.
          throughout_one (IsBothSafe other) old (with_effect old (Moved (swept_of name) (place_of name))) (Moved (swept_of name) (place_of name)) refl safe
          (either_name old name is_name {P = λ q. IsSafe old q → IsSafe (with_effect old (Moved (swept_of name) (place_of name))) q} (move_back_own old name is_name whole) (move_back_other old name is_name) other other_name safe),
    ))
