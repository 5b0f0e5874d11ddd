-- Objects that are read before tenants see them again.
use Rattle.std.proofs.Common.{◌≡◌, ◌⊎◌, inl, inr, ℕ, ◌<◌, ◌≤◌, ◌+◌, Bool, true, false, cond, IsTrue, List, [], ◌∷◌, Option, None, Some, is_some, refl, sym, ap, subst, ◌∙◌, arith, length, get_or, take}
use Rattle.std.specs.Prelude.{Contains}
use Rattle.std.specs.BTreeSet.{BTreeSet, contains}
use Rattle.std.specs.Cmp.{eq_by_cmp_equiv}
use Rattle.std.specs.FinMap.{contains_key, empty, get, get-empty, get-insert, insert}
use Rattle.std.specs.Option.{option_map}
use Rattle.std.specs.Ordering.{eq_by_cmp}
use Rattle.std.proofs.lemmas.List.{take_all}
use Rattle.std.proofs.lemmas.List.Elements.{Contains-push_cases}
use Rattle.std.proofs.lemmas.Option.{same_Some}
use Rattle.git_name.specs.Name.{name_cmp}
use Rattle.git_name.specs.Object.{Object, object_name}
use Rattle.git_name.proofs.Names.{name_total}
use Rattle.loose_store.specs.Files.{Files}
use Rattle.loose_store.specs.Stored.{Whole}
use Rattle.fork_reach.specs.Source.{Objects}
use Rattle.fork_reach.proofs.KeptObjects.{tied_names}
use Rattle.fork_reach.proofs.SeeingLemmas.{sole, sole_there}
use Rattle.fork_sound.specs.Reading.{AreReadings, ReadingMap, ReadingValue, object_reading}
use Rattle.state_text.specs.States.{States, TenantState}
use Rattle.fork_host.specs.Read.{AllRead, AreRead, EachRead, IsRead, Reads}
use Rattle.fork_host.specs.Restored.{AreOnStore}
use Rattle.fork_host.proofs.GatherLemmas.{taken_more}
use Rattle.fork_host.proofs.RecallLemmas.{one_whole}
use Rattle.fork_host.proofs.RestoreLemmas.{of_one}

-- readings stay valid if the store does not change
pub each_at : (h k : Bool) (fs gs : Files) (readings : ReadingMap) → k ≡ h → (IsTrue h → gs ≡ fs) → EachRead h fs readings → EachRead k gs readings
each_at h k fs gs readings same files each = λ name reading is.
    let read = each name reading is in
    record {
      object = read.object;
      named = read.named;
      is = read.is;
      whole = λ honest. (let was = sym same ∙ honest in subst (λ f. Whole f name read.object) (sym (files was)) (read.whole was));
    }

pub read_at : (h k : Bool) (fs gs : Files) (names : List (List ℕ)) (readings : ReadingMap) → k ≡ h → (IsTrue h → gs ≡ fs) → AreRead h fs names readings → AreRead k gs names readings
read_at h k fs gs names readings same files read = record {
  each = each_at h k fs gs readings same files read.each;
  all = λ honest name object among whole. (let was = sym same ∙ honest in read.all was name object among (subst (λ f. Whole f name object) (files was) whole));
}

nothing_among : (name : List ℕ) (G : Type 0) → Contains [] name → G
nothing_among name G among = absurd (omega (arith, among.1))

-- no name, then one more
pub reads_none : (honest : Bool) (files : Files) (readings : ReadingMap) → Reads honest files [] readings readings
reads_none honest files readings = record {
  each = λ each. each;
  grows = λ name is. is;
  all = λ h name object among whole. nothing_among name _ among;
}

back : (h k : Bool) (fs gs : Files) → k ≡ h → (IsTrue h → gs ≡ fs) → IsTrue k → fs ≡ gs
back h k fs gs same files honest = sym (files (sym same ∙ honest))

pub reads_more : (h k : Bool) (fs gs : Files) (names : List (List ℕ)) (i : ℕ) (last : List ℕ) (old mid new : ReadingMap) → k ≡ h → (IsTrue h → gs ≡ fs) → i < length names → last ≡ get_or names i last
    → Reads k gs (last ∷ []) mid new → Reads h fs (take i names) old mid → Reads h fs (take (i + 1) names) old new
reads_more h k fs gs names i last old mid new same files inside is more so_far = record {
  each = λ each. each_at k h gs fs new (sym same) (back h k fs gs same files) (more.each (each_at h k fs gs mid same files (so_far.each each)));
  grows = λ name there. more.grows name (so_far.grows name there);
  all = λ honest name object among whole. by honest name object whole (Contains-push_cases (take i names) last name (subst (λ ns. Contains ns name) (taken_more names i last inside is) among));
}
  where
    by : IsTrue h → (name : List ℕ) (object : Object) → Whole fs name object → Contains (take i names) name ⊎ (last ≡ name) → contains_key new name ≡ true
    by honest name object whole (inl before) = more.grows name (so_far.all honest name object before whole)
    by honest name object whole (inr itself) = more.all (same ∙ honest) name object (subst (Contains (last ∷ [])) itself (sole last)) (subst (λ f. Whole f name object) (sym (files honest)) whole)

pub reads_all : (honest : Bool) (files : Files) (names : List (List ℕ)) (i : ℕ) (old new : ReadingMap) → length names ≤ i → Reads honest files (take i names) old new → Reads honest files names old new
reads_all honest files names i old new whole reads = subst (λ ns. Reads honest files ns old new) (take_all i names whole) reads

-- a name that was read already
pub reads_again : (honest : Bool) (files : Files) (name : List ℕ) (readings : ReadingMap) → contains_key readings name ≡ true → Reads honest files (name ∷ []) readings readings
reads_again honest files name readings there = record {
  each = λ each. each;
  grows = λ other is. is;
  all = λ h other object among whole. subst (λ n. contains_key readings n ≡ true) (sole_there name other among) there;
}

-- a name with no whole object on the store
pub reads_still : (honest : Bool) (files : Files) (name : List ℕ) (readings : ReadingMap) → (IsTrue honest → (object : Object) → Whole files name object → ⊥) → Reads honest files (name ∷ []) readings readings
reads_still honest files name readings never = record {
  each = λ each. each;
  grows = λ other is. is;
  all = λ h other object among whole. absurd (never h object (subst (λ n. Whole files n object) (sym (sole_there name other among)) whole));
}

pub no_file : (files : Files) (name : List ℕ) → get files name ≡ None → (object : Object) → Whole files name object → ⊥
no_file files name none object whole = cc (sym none ∙ whole.file)

-- a name with an object
pub reads_one : (honest : Bool) (files : Files) (name : List ℕ) (object : Object) (old new : ReadingMap) → object_name object ≡ name → (IsTrue honest → Whole files name object) → new ≡ insert old name (object_reading object) → Reads honest files (name ∷ []) old new
reads_one honest files name object old new named whole put = record {
  each = λ each other reading is. here each other reading (eq_by_cmp name_cmp other name) refl (sym (found other) ∙ is);
  grows = λ other there. ap is_some (found other) ∙ stays other (eq_by_cmp name_cmp other name) there;
  all = λ h other stored among stands. subst (λ n. contains_key new n ≡ true) (sole_there name other among) (ap is_some (found name) ∙ ap (λ b. is_some (cond b (Some (object_reading object)) (get old name))) ((eq_by_cmp_equiv name_total).refl name));
}
  where
    found : (other : List ℕ) → get new other ≡ cond (eq_by_cmp name_cmp other name) (Some (object_reading object)) (get old other)
    found other = ap (λ (m : ReadingMap). get m other) put ∙ get-insert name_total old name (object_reading object) other

    stays : (other : List ℕ) (b : Bool) → contains_key old other ≡ true → is_some (cond b (Some (object_reading object)) (get old other)) ≡ true
    stays other true there = refl
    stays other false there = there

    itself : (other : List ℕ) (reading : ReadingValue) → name ≡ other → object_reading object ≡ reading → IsRead honest files other reading
    itself other reading tied is = record {
      object = object;
      named = named ∙ tied;
      is = sym is;
      whole = λ h. subst (λ n. Whole files n object) tied (whole h);
    }

    here : EachRead honest files old → (other : List ℕ) (reading : ReadingValue) (b : Bool) → eq_by_cmp name_cmp other name ≡ b → cond b (Some (object_reading object)) (get old other) ≡ Some reading → IsRead honest files other reading
    here each other reading true tied is = itself other reading (sym (tied_names other name tied)) (same_Some (object_reading object) reading is)
    here each other reading false apart is = each other reading is

-- the objects of these tenants were read
pub record StatesRead (honest : Bool) (files : Files) (states : States) (readings : ReadingMap) : Type 0 where
  pub each : EachRead honest files readings
  pub all : IsTrue honest → (state : TenantState) → Contains states state → AllRead files state.seen readings

nothing_kept : (name : List ℕ) (reading : ReadingValue) (G : Type 0) → get (empty {K = List ℕ} {X = ReadingValue} {R = name_cmp}) name ≡ Some reading → G
nothing_kept name reading G is = absurd (cc (sym (get-empty {X = ReadingValue} name_cmp name) ∙ is))

pub states_none : (honest : Bool) (files : Files) (readings : ReadingMap) → readings ≡ empty → StatesRead honest files [] readings
states_none honest files readings none = record {
  each = λ name reading is. nothing_kept name reading _ (ap (λ (m : ReadingMap). get m name) (sym none) ∙ is);
  all = λ h state among. absurd (omega (arith, among.1));
}

pub states_more : (h k : Bool) (fs gs : Files) (states : States) (i : ℕ) (last : TenantState) (old new : ReadingMap) → k ≡ h → (IsTrue h → gs ≡ fs) → i < length states → last ≡ get_or states i last
    → Reads k gs last.seen old new → StatesRead h fs (take i states) old → StatesRead h fs (take (i + 1) states) new
states_more h k fs gs states i last old new same files inside is more so_far = record {
  each = each_at k h gs fs new (sym same) (back h k fs gs same files) (more.each (each_at h k fs gs old same files so_far.each));
  all = λ honest state among. by honest state (Contains-push_cases (take i states) last state (subst (λ (ss : States). Contains ss state) (taken_more states i last inside is) among));
}
  where
    by : IsTrue h → (state : TenantState) → Contains (take i states) state ⊎ (last ≡ state) → AllRead fs state.seen new
    by honest state (inl before) = λ name object among whole. more.grows name (so_far.all honest state before name object among whole)
    by honest state (inr itself) = λ name object among whole.
        more.all (same ∙ honest) name object (subst (λ (s : TenantState). Contains s.seen name) (sym itself) among) (subst (λ f. Whole f name object) (sym (files honest)) whole)

pub states_all : (honest : Bool) (files : Files) (states : States) (i : ℕ) (readings : ReadingMap) → length states ≤ i → StatesRead honest files (take i states) readings → (state : TenantState) → Contains states state → AreRead honest files state.seen readings
states_all honest files states i readings whole read state among = record {
  each = read.each;
  all = λ h. read.all h state (subst (λ (ss : States). Contains ss state) (sym (take_all i states whole)) among);
}

-- over an honest store, these are the readings of the objects on it
pub are_readings : (honest : Bool) (files : Files) (names : List (List ℕ)) (readings : ReadingMap) (objects : Objects) (set : BTreeSet (List ℕ)) → set.keys ≡ names → IsTrue honest → AreRead honest files names readings → AreOnStore files names objects
    → AreReadings readings (contains name_cmp set) objects
are_readings honest files names readings objects set are h read stored = λ name seen.
    by name (of_one names name (subst (λ ns. contains name_cmp (record { keys = ns }) name ≡ true) are seen)) (get readings name) refl (get objects name) refl
  where
    unread : (name : List ℕ) → get readings name ≡ None → contains_key readings name ≡ true → ⊥
    unread name none found = cc (sym (ap is_some none) ∙ found)

    absent : (name : List ℕ) (object : Object) → get objects name ≡ None → get objects name ≡ Some object → ⊥
    absent name object none found = cc (sym none ∙ found)

    by : (name : List ℕ) → Contains names name → (o : Option ReadingValue) → get readings name ≡ o → (p : Option Object) → get objects name ≡ p → get readings name ≡ option_map object_reading (get objects name)
    by name among None none None lost = none ∙ ap (option_map object_reading) (sym lost)
    by name among None none (Some object) found = absurd (unread name none (read.all h name object among (stored.whole name object found)))
    by name among (Some reading) is None lost =
        let told = read.each name reading is in
        absurd (absent name told.object lost (stored.all name told.object among (told.whole h)))
    by name among (Some reading) is (Some object) found =
        let told = read.each name reading is in
        is ∙ ap Some (told.is ∙ ap object_reading (one_whole files name told.object object (told.whole h) (stored.whole name object found))) ∙ ap (option_map object_reading) (sym found)
