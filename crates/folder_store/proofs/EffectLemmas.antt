-- What the effects of a device make of a folder's contents.
use Rattle.std.proofs.Common.{◌≡◌, inl, inr, ℕ, ◌≤◌, Bool, true, false, List, None, Result, Ok, Err, OnOk, length, option_map, take, refl, sym, ◌∙◌, ap}
use Rattle.std.specs.FinMap.{get, insert, remove}
use Rattle.devices.specs.Device.{Past, Effect, Does, Wrote, Moved, Removed, SyncedFile, files_of, with_effect, within}
use Rattle.devices.specs.Runs.{Runs}
use Rattle.git_name.specs.Name.{IsName}
use Rattle.folder_store.specs.Contents.{contents_of, contents_in}
use Rattle.loose_store.specs.Files.{Files, SameBut}
use Rattle.folder_store.specs.Place.{place_of, part_of, name_at}
use Rattle.folder_store.specs.Swept.{put_steps}
use Rattle.folder_store.specs.declared.max_file.TheConstants.{MAX_FILE}
use Rattle.folder_store.proofs.ContentLemmas.{shown_whole, own_name, get_file, insert_other, remove_other, remove_named, moved_part, moved_away}
use Rattle.loose_store.proofs.FilesLemmas.{insert_same_but, remove_same_but}
use Rattle.folder_store.proofs.PlaceLemmas.{part_has_none}

abbrev contents : Past → Files
contents past = contents_of (files_of past)

-- what an honest device keeps, any keeps: of another's contents nothing is said
pub kept_in : (b c : Bool) (old new : Past) → c ≡ b → (b ≡ true → contents new ≡ contents old) → contents_in c new ≡ contents_in b old
kept_in true c old new same kept = ap (λ (d : Bool). contents_in d new) same ∙ kept refl
kept_in false c old new same kept = ap (λ (d : Bool). contents_in d new) same

pub others_as : (old new changed : Files) (name : List ℕ) → new ≡ changed → SameBut name old changed → SameBut name old new
others_as old new changed name is same other differs = ap (λ (k : Files). get k other) is ∙ same other differs

pub others_kept : (old new : Files) (name : List ℕ) → new ≡ old → SameBut name old new
others_kept old new name is other differs = ap (λ (k : Files). get k other) is

-- removing a file that is no object's
pub other_removed : {A E : Type 0} (old new : Past) (path : List ℕ) (result : Result A E) → name_at path ≡ None → Does (Removed path) old new result → contents new ≡ contents old
other_removed old new path (Ok answer) none does = ap contents does ∙ remove_other (files_of old) path none
other_removed old new path (Err fault) none (inl same) = ap contents same
other_removed old new path (Err fault) none (inr (part, of, is)) = ap contents is ∙ ap (λ (e : Effect). contents (with_effect old e)) of ∙ remove_other (files_of old) path none

module _ (b c : Bool) (old new : Past) (h : b ≡ true) (same : c ≡ b) where
  -- a fact of an honest device's contents
  pub lifted : (change : Files → Files) → contents new ≡ change (contents old) → contents_in c new ≡ change (contents_in b old)
  lifted change is = ap (λ (d : Bool). contents_in d new) (same ∙ h) ∙ is ∙ ap (λ (d : Bool). change (contents_in d old)) (sym h)

  pub others_lifted : (name : List ℕ) → SameBut name (contents old) (contents new) → SameBut name (contents_in b old) (contents_in c new)
  others_lifted name is other differs =
      ap (λ (d : Bool). get (contents_in d new) other) (same ∙ h) ∙ is other differs ∙ ap (λ (d : Bool). get (contents_in d old) other) (sym h)

  module _ (name path : List ℕ) (is_name : IsName name) (path_is : path ≡ place_of name) where
    removed_is : contents (with_effect old (Removed path)) ≡ remove (contents old) name
    removed_is = ap (λ (p : List ℕ). contents (with_effect old (Removed p))) path_is ∙ remove_named (files_of old) name (own_name name is_name)

    moved_is : (to : List ℕ) → name_at to ≡ None → contents (with_effect old (Moved path to)) ≡ remove (contents old) name
    moved_is to none = ap (λ (p : List ℕ). contents (with_effect old (Moved p to))) path_is ∙ moved_away (files_of old) name to (get (files_of old) (place_of name)) (own_name name is_name) none

    pub removed_ok : {A E : Type 0} (result : Result A E) → Does (Removed path) old new result → OnOk result (contents_in c new ≡ remove (contents_in b old) name)
    removed_ok (Ok answer) does = lifted (λ files. remove files name) (ap contents does ∙ removed_is)
    removed_ok (Err fault) does = tt

    pub removed_others : {A E : Type 0} (result : Result A E) → Does (Removed path) old new result → SameBut name (contents_in b old) (contents_in c new)
    removed_others (Ok answer) does = others_lifted name (others_as _ _ _ name (ap contents does ∙ removed_is) (remove_same_but (contents old) name))
    removed_others (Err fault) (inl none) = others_lifted name (others_kept _ _ name (ap contents none))
    removed_others (Err fault) (inr (part, of, is)) =
        others_lifted name (others_as _ _ _ name (ap contents is ∙ ap (λ (e : Effect). contents (with_effect old e)) of ∙ removed_is) (remove_same_but (contents old) name))

    pub moved_ok : {A E : Type 0} (to : List ℕ) → name_at to ≡ None → (result : Result A E) → Does (Moved path to) old new result → OnOk result (contents_in c new ≡ remove (contents_in b old) name)
    moved_ok to none (Ok answer) does = lifted (λ files. remove files name) (ap contents does ∙ moved_is to none)
    moved_ok to none (Err fault) does = tt

    pub moved_others : {A E : Type 0} (to : List ℕ) → name_at to ≡ None → (result : Result A E) → Does (Moved path to) old new result → SameBut name (contents_in b old) (contents_in c new)
    moved_others to none (Ok answer) does = others_lifted name (others_as _ _ _ name (ap contents does ∙ moved_is to none) (remove_same_but (contents old) name))
    moved_others to none (Err fault) (inl kept) = others_lifted name (others_kept _ _ name (ap contents kept))
    moved_others to none (Err fault) (inr (part, of, is)) =
        others_lifted name (others_as _ _ _ name (ap contents is ∙ ap (λ (e : Effect). contents (with_effect old e)) of ∙ moved_is to none) (remove_same_but (contents old) name))

    module _ (part bytes : List ℕ) (part_is : part ≡ part_of name) (fits : length bytes ≤ MAX_FILE) where
      apart : name_at part ≡ None
      apart = ap name_at part_is ∙ part_has_none name is_name

      wrote_is : (some : List ℕ) → contents (with_effect old (Wrote part some)) ≡ contents old
      wrote_is some = insert_other (files_of old) part some apart

      put_is : contents (with_effect (with_effect old (Wrote part bytes)) (Moved part path)) ≡ insert (contents old) name bytes
      put_is =
          ap (λ (p : List ℕ). contents (with_effect (with_effect old (Wrote part bytes)) (Moved part p))) path_is
          ∙ moved_part (files_of old) name bytes part (own_name name is_name) apart ∙ ap (insert (contents old) name) (shown_whole bytes fits)

      pub put_ok : {A : Type 0} (E : Type 0) (synced : Bool) (answer : A) → Runs {A = A} {E = E} (put_steps synced part path bytes) old new (Ok answer) → contents_in c new ≡ insert (contents_in b old) name bytes
      put_ok E true answer runs = lifted (λ files. insert files name bytes) (ap contents runs ∙ put_is)
      put_ok E false answer runs = lifted (λ files. insert files name bytes) (ap contents runs ∙ put_is)

      none_others : contents new ≡ contents old → SameBut name (contents_in b old) (contents_in c new)
      none_others is = others_lifted name (others_kept _ _ name is)

      all_others : contents new ≡ insert (contents old) name bytes → SameBut name (contents_in b old) (contents_in c new)
      all_others is = others_lifted name (others_as _ _ _ name is (insert_same_but (contents old) name bytes))

      pub put_others : {A E : Type 0} (synced : Bool) (result : Result A E) → Runs (put_steps synced part path bytes) old new result → SameBut name (contents_in b old) (contents_in c new)
      put_others true (Ok answer) runs = all_others (ap contents runs ∙ put_is)
      put_others true (Err fault) (inl kept) = none_others (ap contents kept)
      put_others true (Err fault) (inr (inl (cut, (n, of), is))) = none_others (ap contents is ∙ ap (λ (e : Effect). contents (with_effect old e)) of ∙ wrote_is (take n bytes))
      put_others true (Err fault) (inr (inr (inl kept))) = none_others (ap contents kept ∙ wrote_is bytes)
      put_others true (Err fault) (inr (inr (inr (inl (cut, of, is))))) = none_others (ap contents is ∙ ap (λ (e : Effect). contents (with_effect (with_effect old (Wrote part bytes)) e)) of ∙ wrote_is bytes)
      put_others true (Err fault) (inr (inr (inr (inr (inl kept))))) = none_others (ap contents kept ∙ wrote_is bytes)
      put_others true (Err fault) (inr (inr (inr (inr (inr (inl (cut, of, is))))))) =
          all_others (ap contents is ∙ ap (λ (e : Effect). contents (with_effect (with_effect (with_effect old (Wrote part bytes)) (SyncedFile part)) e)) of ∙ put_is)
      put_others true (Err fault) (inr (inr (inr (inr (inr (inr all)))))) = all_others (ap contents all ∙ put_is)
      put_others false (Ok answer) runs = all_others (ap contents runs ∙ put_is)
      put_others false (Err fault) (inl kept) = none_others (ap contents kept)
      put_others false (Err fault) (inr (inl (cut, (n, of), is))) = none_others (ap contents is ∙ ap (λ (e : Effect). contents (with_effect old e)) of ∙ wrote_is (take n bytes))
      put_others false (Err fault) (inr (inr (inl kept))) = none_others (ap contents kept ∙ wrote_is bytes)
      put_others false (Err fault) (inr (inr (inr (inl (cut, of, is))))) =
          all_others (ap contents is ∙ ap (λ (e : Effect). contents (with_effect (with_effect old (Wrote part bytes)) e)) of ∙ put_is)
      put_others false (Err fault) (inr (inr (inr (inr all)))) = all_others (ap contents all ∙ put_is)

-- what is read at the place of a name
pub read_is : (b : Bool) (past : Past) (name path : List ℕ) → b ≡ true → IsName name → path ≡ place_of name → option_map (within MAX_FILE) (get (files_of past) path) ≡ get (contents_in b past) name
read_is b past name path h is_name path_is =
    ap (λ (p : List ℕ). option_map (within MAX_FILE) (get (files_of past) p)) path_is ∙ get_file (files_of past) name is_name ∙ ap (λ (d : Bool). get (contents_in d past) name) (sym h)
