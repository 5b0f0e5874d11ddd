-- What a store shows after it has appended, and after its index has changed.
use Rattle.std.proofs.Common.{◌≡◌, ℕ, Bool, true, false, List, Option, Some, None, cond, option_map, refl, sym, ◌∙◌, ap, subst}
use Rattle.std.specs.Ordering.{eq_by_cmp}
use Rattle.std.specs.FinMap.{get, get-insert, get-remove, insert, keys, remove, same_map}
use Rattle.devices.specs.Device.{Past, files_of}
use Rattle.git_name.specs.Name.{name_cmp}
use Rattle.git_name.specs.Maps.{map_values}
use Rattle.git_name.proofs.MapLemmas.{entries_map_values, get_map_values, map_values_insert}
use Rattle.git_name.proofs.Names.{name_total, name_exact}
use Rattle.loose_store.specs.Files.{Files, SameBut}
use Rattle.loose_store.proofs.FilesLemmas.{insert_same_but, remove_same_but, tied}
use Rattle.loose_store.proofs.MapLemmas.{keys_of_mapped, map_values_remove}
use Rattle.std.specs.Map.{keys_of}
use Rattle.std.specs.FinMap as map
use Rattle.packed_store.specs.declared.place.Place.{Place}
use Rattle.packed_store.specs.Contents.{contents_in}
use Rattle.packed_store.specs.Appended.{IsPlaced}
use Rattle.packed_store.specs.Place.{AreRecorded, Grows, Holds, Index, bytes_at}
use Rattle.packed_store.proofs.AppendLemmas.{placed_at}
use Rattle.packed_store.proofs.GrowthLemmas.{are_recorded_removed, are_recorded_set, are_recorded_still, values_still}

-- files that are the same but for one name
pub same_but : (name : List ℕ) (old new changed : Files) → new ≡ changed → SameBut name old changed → SameBut name old new
same_but name old new changed is same = subst (SameBut name old) (sym is) same

pub all_same : (name : List ℕ) (old new : Files) → new ≡ old → SameBut name old new
all_same name old new is other differs = ap (λ (k : Files). get k other) is

-- what an honest device keeps, any keeps: of another's contents nothing is said
pub kept_in : (b c : Bool) (old new : Past) (i j : Index) → c ≡ b → (b ≡ true → files_of new ≡ files_of old) → j ≡ i → contents_in c new j ≡ contents_in b old i
kept_in true c old new i j same kept index =
    ap (λ (d : Bool). contents_in d new j) same ∙ ap (λ (f : _). map_values (bytes_at f) j) (kept refl) ∙ ap (map_values (bytes_at (files_of old))) index
kept_in false c old new i j same kept index = ap (λ (d : Bool). contents_in d new j) same

-- what is read at a place of an honest device's store
pub found_at : (b : Bool) (past : Past) (i : Index) (name : List ℕ) → b ≡ true → get (contents_in b past i) name ≡ option_map (bytes_at (files_of past)) (get i name)
found_at b past i name h = ap (λ (d : Bool). get (contents_in d past i) name) h ∙ get_map_values name_total (bytes_at (files_of past)) i name

-- the names are those of the index
pub names_at : (b : Bool) (past : Past) (i : Index) → b ≡ true → keys (contents_in b past i) ≡ keys i
names_at b past i h =
    ap (λ (d : Bool). keys (contents_in d past i)) h ∙ ap keys_of (entries_map_values (bytes_at (files_of past)) i) ∙ keys_of_mapped (bytes_at (files_of past)) (map.entries i)

one_name : (a b : List ℕ) → eq_by_cmp name_cmp a b ≡ true → a ≡ b
one_name a b e = name_exact a b (tied (name_cmp a b) e)

not_there : (b : Bool) (o : Option (List ℕ)) → (b ≡ true → o ≡ None) → o ≡ cond b None o
not_there true o none = none refl
not_there false o none = refl

-- removing a name that the index does not have
pub absent_is : (b : Bool) (past : Past) → b ≡ true → (i : Index) (name : List ℕ) → None ≡ get i name → contents_in b past i ≡ remove (contents_in b past i) name
absent_is b past h i name none =
    let files = contents_in b past i in
    same_map name_total name_exact _ _ (λ q.
    not_there (eq_by_cmp name_cmp q name) (get files q) (λ e.
    ap (get files) (one_name q name e) ∙ found_at b past i name h ∙ ap (option_map (bytes_at (files_of past))) (sym none))
    ∙ sym (get-remove name_total files name q))

-- an append alone changes nothing, over any device
pub grown_in : (b c : Bool) (old new : Past) (i : Index) → c ≡ b → (b ≡ true → AreRecorded (files_of old) i) → (b ≡ true → Grows (files_of old) (files_of new)) → contents_in c new i ≡ contents_in b old i
grown_in true c old new i same there grows = ap (λ (d : Bool). contents_in d new i) same ∙ values_still (files_of old) (files_of new) (grows refl) i (there refl)
grown_in false c old new i same there grows = ap (λ (d : Bool). contents_in d new i) same

set_again : (b : Bool) (v : List ℕ) (o : Option (List ℕ)) → (b ≡ true → o ≡ Some v) → cond b (Some v) o ≡ o
set_again true v o is = sym (is refl)
set_again false v o is = refl

-- putting what is there changes nothing
pub same_again : (files : Files) (name bytes : List ℕ) → Some bytes ≡ get files name → insert files name bytes ≡ files
same_again files name bytes is = same_map name_total name_exact _ _ (λ q.
    get-insert name_total files name bytes q ∙ set_again (eq_by_cmp name_cmp q name) bytes (get files q) (λ e. ap (get files) (one_name q name e) ∙ sym is))

module _ (b c : Bool) (old new : Past) (h : b ≡ true) (same : c ≡ b) (i : Index) (there : AreRecorded (files_of old) i) (grows : Grows (files_of old) (files_of new)) where
  shown : (j : Index) → contents_in c new j ≡ map_values (bytes_at (files_of new)) j
  shown j = ap (λ (d : Bool). contents_in d new j) (same ∙ h)

  before : map_values (bytes_at (files_of new)) i ≡ contents_in b old i
  before = values_still (files_of old) (files_of new) grows i there ∙ ap (λ (d : Bool). contents_in d old i) (sym h)

  -- an append alone changes nothing
  pub kept_is : (j : Index) → j ≡ i → contents_in c new j ≡ contents_in b old i
  kept_is j is = shown j ∙ ap (map_values (bytes_at (files_of new))) is ∙ before

  pub kept_others : (name : List ℕ) (j : Index) → j ≡ i → SameBut name (contents_in b old i) (contents_in c new j)
  kept_others name j is = all_same name _ _ (kept_is j is)

  pub kept_there : (j : Index) → j ≡ i → AreRecorded (files_of new) j
  kept_there j is = subst (AreRecorded (files_of new)) (sym is) (are_recorded_still (files_of old) (files_of new) grows i there)

  -- a record that is there, and its name in the index
  module _ (name bytes : List ℕ) (place : Place) (holds : Holds (files_of new) place bytes) (j : Index) (is : j ≡ insert i name place) where
    pub put_is : contents_in c new j ≡ insert (contents_in b old i) name bytes
    put_is =
        shown j ∙ ap (map_values (bytes_at (files_of new))) is ∙ map_values_insert name_total name_exact (bytes_at (files_of new)) i name place
        ∙ ap (insert (map_values (bytes_at (files_of new)) i) name) holds.same ∙ ap (λ (k : Files). insert k name bytes) before

    pub put_others : SameBut name (contents_in b old i) (contents_in c new j)
    put_others = same_but name _ _ _ put_is (insert_same_but (contents_in b old i) name bytes)

    pub put_there : IsPlaced (files_of new) name bytes place → AreRecorded (files_of new) j
    put_there placed = subst (AreRecorded (files_of new)) (sym is) (are_recorded_set (files_of new) i name place (are_recorded_still (files_of old) (files_of new) grows i there) (placed_at (files_of new) name bytes place placed holds))

  -- a name out of the index
  module _ (name : List ℕ) (j : Index) (is : j ≡ remove i name) where
    pub removed_is : contents_in c new j ≡ remove (contents_in b old i) name
    removed_is =
        shown j ∙ ap (map_values (bytes_at (files_of new))) is ∙ map_values_remove name_total name_exact (bytes_at (files_of new)) i name
        ∙ ap (λ (k : Files). remove k name) before

    pub removed_others : SameBut name (contents_in b old i) (contents_in c new j)
    removed_others = same_but name _ _ _ removed_is (remove_same_but (contents_in b old i) name)

    pub removed_there : AreRecorded (files_of new) j
    removed_there = subst (AreRecorded (files_of new)) (sym is) (are_recorded_removed (files_of new) i name (are_recorded_still (files_of old) (files_of new) grows i there))

-- a file that is put once more under its name changes nothing, over any device
pub moved_in : (b c : Bool) (old new : Past) (i j : Index) (name bytes : List ℕ) (place : Place) → c ≡ b → (b ≡ true → AreRecorded (files_of old) i) → (b ≡ true → Grows (files_of old) (files_of new))
    → (b ≡ true → Holds (files_of new) place bytes) → (b ≡ true → Some bytes ≡ get (contents_in b old i) name) → j ≡ insert i name place → contents_in c new j ≡ contents_in b old i
moved_in true c old new i j name bytes place same there grows holds found is =
    put_is true c old new refl same i (there refl) (grows refl) name bytes place (holds refl) j is ∙ same_again (contents_in true old i) name bytes (found refl)
moved_in false c old new i j name bytes place same there grows holds found is = ap (λ (d : Bool). contents_in d new j) same
