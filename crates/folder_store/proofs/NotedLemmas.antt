-- What a sync of all noted files makes safe.
use Rattle.std.proofs.Common.{◌≡◌, ◌⊎◌, inl, inr, ℕ, ◌||◌, Bool, true, false, cond, List, [], ◌∷◌, ◌++◌, Option, Some, None, is_some, length, nat_eq, refl, sym, ◌∙◌, ap, subst, codes, take, drop, append_assoc, flat_map, Contains, slice_index_or}
use Rattle.std.specs.BTreeMap.{is_at}
use Rattle.std.specs.Cmp.Lexicographic.{pointwise}
use Rattle.std.specs.FinMap.{get, keys, contains_key-keys}
use Rattle.std.specs.List.{list_any}
use Rattle.std.proofs.Math.Seq.{take-append_seam, drop-append_seam}
use Rattle.std.proofs.lemmas.List.Elements.{Contains-append_left, Contains-append_right}
use Rattle.devices.specs.Device.{Effect, Files, Past, SyncedFile, SyncedFolder, files_of, name_in_folder, names_in_folder, plain}
use Rattle.git_name.specs.Name.{IsName, name_cmp}
use Rattle.folder_store.specs.Contents.{contents_of}
use Rattle.folder_store.specs.Lasting.{as_read, IsSafeAt, IsUnfailed}
use Rattle.folder_store.specs.Place.{front_digits, home_with, place_of, rest_digits}
use Rattle.folder_store.specs.Swept.{is_whole}
use Rattle.folder_store.specs.Synced.{AreSynced, IsHomeSynced, IsMarked, IsUnmarked, OnlySyncs, SyncsBoth, first_of, home_at}
use Rattle.folder_store.proofs.ContentLemmas.{clash, get_file, one_key}
use Rattle.folder_store.proofs.PlaceLemmas.{same_text}
use Rattle.folder_store.proofs.SyncLemmas.{only_files, only_then}
use Rattle.folder_store.proofs.SyncedLemmas.{at_home_of, first_one, synced_safe, digits_slashless}

-- ---- a folder that has a file lists it
append_none : (xs ys : List (List ℕ)) → xs ++ ys ≡ [] → (xs ≡ []) × (ys ≡ [])
append_none [] ys none = (refl, none)
append_none (x ∷ xs) ys none = absurd (cc)

listed : {P : Type 0} (f : List ℕ → List (List ℕ)) (q : List ℕ) (paths : List (List ℕ)) → (f q ≡ [] → P) → list_any (is_at (name_cmp q)) paths ≡ true → flat_map f paths ≡ [] → P
listed f q [] some has none = absurd (cc)
listed {P} f q (p ∷ paths) some has none = by (λ rest. listed f q paths some rest (append_none (f p) (flat_map f paths) none).1) (is_at (name_cmp q) p) refl has
  where
    by : (list_any (is_at (name_cmp q)) paths ≡ true → P) → (b : Bool) → is_at (name_cmp q) p ≡ b → b || list_any (is_at (name_cmp q)) paths ≡ true → P
    by later true is has = some (ap f (one_key q p is) ∙ (append_none (f p) (flat_map f paths) none).0)
    by later false is has = later has

module _ (name : List ℕ) (is_name : IsName name) where
  home : List ℕ
  home = home_with (take 1 name)

  place_is : home_with (take 1 name) ++ rest_digits name ≡ place_of name
  place_is = ap (λ (xs : List ℕ). codes "objects/" ++ xs) (append_assoc (front_digits name) (47 ∷ []) (rest_digits name))

  named_there : name_in_folder (home_with (take 1 name)) (place_of name) ≡ rest_digits name ∷ []
  named_there =
      ap (name_in_folder (home_with (take 1 name))) (sym place_is)
      ∙ ap (λ (xs : List ℕ). cond (pointwise nat_eq xs (home_with (take 1 name))) (plain (drop (length (home_with (take 1 name))) (home_with (take 1 name) ++ rest_digits name))) []) (take-append_seam (home_with (take 1 name)) (rest_digits name))
      ∙ ap (λ (b : Bool). cond b (plain (drop (length (home_with (take 1 name))) (home_with (take 1 name) ++ rest_digits name))) []) (same_text (home_with (take 1 name)))
      ∙ ap plain (drop-append_seam (home_with (take 1 name)) (rest_digits name))
      ∙ ap (λ (b : Bool). cond b [] (rest_digits name ∷ [])) (digits_slashless name is_name)

  home_has : {P : Type 0} (files : Files) (bytes : List ℕ) → get files (place_of name) ≡ Some bytes → names_in_folder (home_with (take 1 name)) (keys files) ≡ [] → P
  home_has files bytes there none =
      listed (name_in_folder (home_with (take 1 name))) (place_of name) (keys files) (λ empty. (let bad : rest_digits name ∷ [] ≡ [] = sym named_there ∙ empty in absurd (cc)))
      (sym (contains_key-keys files (place_of name)) ∙ ap is_some there) none

-- ---- a noted file, once all are synced
pub whole_there : (name : List ℕ) (found shown : Option (List ℕ)) → as_read found ≡ shown → is_whole name shown ≡ true → (bytes : List ℕ) × (found ≡ Some bytes) × (is_whole name (as_read (Some bytes)) ≡ true)
whole_there name None shown is whole = (let bad : is_whole name None ≡ true = ap (is_whole name) is ∙ whole in absurd (cc))
whole_there name (Some bytes) shown is whole = (bytes, refl, ap (is_whole name) is ∙ whole)

-- a file that was synced, and then its folder
synced_at : (files folders : List Effect) (old new : Past) (name : List ℕ) → OnlySyncs (folders ++ files) old new → Contains files (SyncedFile (place_of name)) → IsHomeSynced (first_of name) folders (files_of old) → IsUnfailed old → IsName name
    → is_whole name (get (contents_of (files_of old)) name) ≡ true → IsSafeAt (place_of name) new name
synced_at files folders old new name only file folder unfailed is_name whole = by (whole_there name (get (files_of old) (place_of name)) (get (contents_of (files_of old)) name) (get_file (files_of old) name is_name) whole)
  where
    same_home : home_at (first_of name) ≡ home_with (take 1 name)
    same_home = ap home_with (sym (first_one name is_name))

    at_home : (bytes : List ℕ) → get (files_of old) (place_of name) ≡ Some bytes → IsHomeSynced (first_of name) folders (files_of old) → Contains folders (SyncedFolder (home_with (take 1 name)))
    at_home bytes there (inl has) = subst (λ (folder : List ℕ). Contains folders (SyncedFolder folder)) same_home has
    at_home bytes there (inr none) = home_has name is_name (files_of old) bytes there (subst (λ (folder : List ℕ). names_in_folder folder (keys (files_of old)) ≡ []) same_home none)

    by : (bytes : List ℕ) × (get (files_of old) (place_of name) ≡ Some bytes) × (is_whole name (as_read (Some bytes)) ≡ true) → IsSafeAt (place_of name) new name
    by (bytes, there, right) =
        synced_safe old new (folders ++ files) (place_of name) (home_with (take 1 name)) name bytes only
        (Contains-append_right folders files (SyncedFile (place_of name)) file) (Contains-append_left folders files (SyncedFolder (home_with (take 1 name))) (at_home bytes there folder))
        (at_home_of name is_name) unfailed.files (unfailed.folders (home_with (take 1 name))) there right

pub noted_safe : (noted : List ℕ → Bool) (homes : List Bool) (old new : Past) (name : List ℕ) → AreSynced noted homes old new → IsUnfailed old → IsName name → noted name ≡ true → is_whole name (get (contents_of (files_of old)) name) ≡ true
    → IsSafeAt (place_of name) new name
noted_safe noted homes old new name synced unfailed is_name is_noted whole =
    let each = synced.each name is_noted in
    synced_at synced.files synced.folders old new name synced.only each.0 each.1 unfailed is_name whole

-- a noted file that is noted no more, and whose folder is not marked
pub ahead_safe : (noted left : List ℕ → Bool) (homes now : List Bool) (old new : Past) (name : List ℕ) → SyncsBoth noted left homes now old new → IsUnfailed old → IsName name → noted name ≡ true → left name ≡ false → IsUnmarked now (first_of name)
    → is_whole name (get (contents_of (files_of old)) name) ≡ true → IsSafeAt (place_of name) new name
ahead_safe noted left homes now old new name both unfailed is_name is_noted not_left unmarked whole = by (both.files.files name is_noted)
  where
    only : OnlySyncs (both.folders.done ++ both.files.done) old new
    only = only_then both.files.done both.folders.done old both.between new both.files.only both.folders.only

    at : Contains both.files.done (SyncedFile (place_of name)) → (IsMarked now (first_of name) ⊎ IsHomeSynced (first_of name) both.folders.done (files_of both.between)) → IsSafeAt (place_of name) new name
    at has (inl mark) = clash (slice_index_or now (first_of name) false) mark.1 unmarked
    at has (inr home) =
        synced_at both.files.done both.folders.done old new name only has (subst (λ (f : Files). IsHomeSynced (first_of name) both.folders.done f) (only_files both.files.done old both.between both.files.only) home) unfailed is_name whole

    by : ((left name ≡ true) ⊎ (Contains both.files.done (SyncedFile (place_of name)) × IsMarked both.marked (first_of name))) → IsSafeAt (place_of name) new name
    by (inl is) = (let bad : true ≡ false = sym is ∙ not_left in absurd (cc))
    by (inr (has, mark)) = at has (both.folders.folders (first_of name) mark)
