-- What putting swept files back makes of a folder.
use Rattle.std.proofs.Common.{◌≡◌, ◌≢◌, inl, inr, ℕ, ◌||◌, Bool, true, false, cond, List, [], ◌∷◌, ◌++◌, Option, Some, None, Result, Ok, Err, OnOk, is_some, option_map, length, codes, nat_eq, refl, sym, ◌∙◌, ap, subst}
use Rattle.std.specs.BTreeMap.{is_at}
use Rattle.std.specs.List.{list_any}
use Rattle.std.specs.Option.{option_or}
use Rattle.std.specs.Ordering.{is_eq}
use Rattle.std.specs.FinMap.{get, insert, remove, keys, contains_key-keys, get-insert, get-remove}
use Rattle.std.proofs.lemmas.Grind.{flat_map-append}
use Rattle.std.proofs.lemmas.List.Elements.{All-weaker}
use Rattle.std.proofs.lemmas.List.Folds.{list_any-append, list_any_none}
use Rattle.devices.specs.Device.{Files, Past, Does, Moved, Removed, files_of, put_there, with_effect, name_in_folder, names_in_folder}
use Rattle.devices.specs.Runs.{Runs}
use Rattle.hex.specs.Hex.{encode_lower, is_hex_digit}
use Rattle.git_name.specs.Name.{IsName, name_cmp, name_in}
use Rattle.git_name.specs.Same.{is_one_of}
use Rattle.git_name.proofs.Names.{name_total}
use Rattle.git_name.proofs.ReadingLemmas.{name_in-encode_lower}
use Rattle.folder_store.specs.Contents.{contents_of}
use Rattle.folder_store.specs.Listing.{names_spelled, names_swept, one_or_none}
use Rattle.folder_store.specs.Place.{home_with, place_of, swept_of, swept_at, name_at}
use Rattle.folder_store.specs.Swept.{swept_file, is_whole, put_back, opened, IsOpened, OpenAlike, steps_back}
use Rattle.folder_store.proofs.ContentLemmas.{shown, own_name, clash, one_key, same_key, not_true, insert_named, remove_other}
use Rattle.folder_store.proofs.ListingLemmas.{at_path, no_slash_digit, spelled}
use Rattle.folder_store.proofs.PlaceLemmas.{swept_has_none}

-- ---- the path of a swept file
-- the path of a swept file has its name
pub swept_has : (name : List ℕ) → IsName name → swept_at (swept_of name) ≡ Some name
swept_has name is_name = name_in-encode_lower name is_name

apart_from : (path other : List ℕ) → swept_at path ≢ swept_at other → is_eq (name_cmp path other) ≡ false
apart_from path other differ = not_true _ (λ same. differ (ap swept_at (one_key path other same)))

some_one : (a b : List ℕ) → Some a ≡ Some b → a ≡ b
some_one a b is = cc

-- the swept files of two names are two
swept_apart : (q n : List ℕ) → IsName q → IsName n → q ≢ n → is_eq (name_cmp (swept_of q) (swept_of n)) ≡ false
swept_apart q n q_name n_name differ = apart_from (swept_of q) (swept_of n) (λ same. differ (some_one q n (sym (swept_has q q_name) ∙ same ∙ swept_has n n_name)))

-- the swept file of a name is at no other path
swept_off : (q path : List ℕ) → IsName q → swept_at path ≡ None → is_eq (name_cmp (swept_of q) path) ≡ false
swept_off q path q_name none = apart_from (swept_of q) path (λ same. (let bad : Some q ≡ None = sym (swept_has q q_name) ∙ same ∙ none in absurd (cc)))

place_not_swept : (name : List ℕ) → swept_at (place_of name) ≡ None
place_not_swept name = refl

-- ---- one file more, and one less
removed_at : (files : Files) (q path : List ℕ) (b : Bool) → is_eq (name_cmp q path) ≡ b → get (remove files path) q ≡ cond b None (get files q)
removed_at files q path b is = get-remove name_total files path q ∙ ap (λ (t : Bool). cond t None (get files q)) is

inserted_at : (files : Files) (q path bytes : List ℕ) (b : Bool) → is_eq (name_cmp q path) ≡ b → get (insert files path bytes) q ≡ cond b (Some bytes) (get files q)
inserted_at files q path bytes b is = get-insert name_total files path bytes q ∙ ap (λ (t : Bool). cond t (Some bytes) (get files q)) is

-- a file that is removed, and is neither an object's nor a swept one
pub part_removed : (files : Files) (path : List ℕ) → name_at path ≡ None → swept_at path ≡ None → OpenAlike files (remove files path)
part_removed files path none no_swept q q_name =
    ap (λ (s : Option (List ℕ)). put_back q (option_map shown s) (get (contents_of (remove files path)) q)) (removed_at files (swept_of q) path false (swept_off q path q_name no_swept))
    ∙ ap (λ (c : Files). put_back q (swept_file files q) (get c q)) (remove_other files path none)

-- ---- a swept file that is put back
-- what is under each name after it is what was to be there before it, and the swept file is gone
pub record IsBack (name : List ℕ) (old new : Files) : Type 0 where
  pub alike : OpenAlike old new
  pub gone : get new (swept_of name) ≡ None
  pub others : (q : List ℕ) → IsName q → get old (swept_of q) ≡ None → get new (swept_of q) ≡ None

abbrev test : List ℕ → List ℕ → Bool
test q n = is_eq (name_cmp q n)

-- a whole file stays
stays : (name : List ℕ) (swept here : Option (List ℕ)) → is_whole name here ≡ true → put_back name swept here ≡ here
stays name (Some bytes) here is = ap (λ (b : Bool). cond b here (Some bytes)) is
stays name None here is = refl

module _ (files : Files) (name : List ℕ) (is_name : IsName name) where
  abbrev left : Files
  left = remove files (swept_of name)

  left_contents : contents_of left ≡ contents_of files
  left_contents = remove_other files (swept_of name) (swept_has_none name)

  left_gone : get left (swept_of name) ≡ None
  left_gone = removed_at files (swept_of name) (swept_of name) true (same_key (swept_of name))

  left_swept : (q : List ℕ) → IsName q → q ≢ name → get left (swept_of q) ≡ get files (swept_of q)
  left_swept q q_name differ = removed_at files (swept_of q) (swept_of name) false (swept_apart q name q_name is_name differ)

  left_none : (q : List ℕ) → get files (swept_of q) ≡ None → get left (swept_of q) ≡ None
  left_none q none = removed_at files (swept_of q) (swept_of name) (test (swept_of q) (swept_of name)) refl ∙ ap (cond (test (swept_of q) (swept_of name)) None) none ∙ either (test (swept_of q) (swept_of name))
    where
      either : (b : Bool) → cond {A = Option (List ℕ)} b None None ≡ None
      either true = refl
      either false = refl

  -- files that differ from these by the swept file of the name alone
  alike_by : (new : Files) → get new (swept_of name) ≡ None → get (contents_of new) name ≡ opened files name
      → ((q : List ℕ) → IsName q → q ≢ name → (get new (swept_of q) ≡ get files (swept_of q)) × (get (contents_of new) q ≡ get (contents_of files) q)) → OpenAlike files new
  alike_by new gone own others q q_name = by (test q name) refl
    where
      by : (b : Bool) → test q name ≡ b → opened new q ≡ opened files q
      by true e =
          let is : q ≡ name = one_key q name e in
          ap (opened new) is ∙ ap (λ (s : Option (List ℕ)). put_back name (option_map shown s) (get (contents_of new) name)) gone ∙ own ∙ sym (ap (opened files) is)
      by false e =
          let differ : q ≢ name = (λ is. absurd (cc (sym e ∙ ap (λ (p : List ℕ). test q p) (sym is) ∙ same_key q))) in
          (λ i. put_back q (option_map shown ((others q q_name differ).0 i)) ((others q q_name differ).1 i))

  pub let_go_back : is_whole name (get (contents_of files) name) ≡ true → IsBack name files left
  let_go_back whole = record {
    alike = alike_by left left_gone (ap (λ (c : Files). get c name) left_contents ∙ sym (stays name (swept_file files name) (get (contents_of files) name) whole))
        (λ q q_name differ. (left_swept q q_name differ, ap (λ (c : Files). get c q) left_contents));
    gone = left_gone;
    others = λ q q_name none. left_none q none;
  }

  differs : (q : List ℕ) → q ≢ name → test q name ≡ false
  differs q differ = not_true _ (λ same. differ (one_key q name same))

  abbrev there : List ℕ → Files
  there x = insert left (place_of name) x

  there_contents : (x : List ℕ) → contents_of (there x) ≡ insert (contents_of files) name (shown x)
  there_contents x = insert_named left name x (own_name name is_name) ∙ ap (λ (c : Files). insert c name (shown x)) left_contents

  there_swept : (x q : List ℕ) → IsName q → get (there x) (swept_of q) ≡ get left (swept_of q)
  there_swept x q q_name = inserted_at left (swept_of q) (place_of name) x false (swept_off q (place_of name) q_name (place_not_swept name))

  moved_by : (o : Option (List ℕ)) → get files (swept_of name) ≡ o → is_whole name (get (contents_of files) name) ≡ false → IsBack name files (put_there left (place_of name) o)
  moved_by (Some x) is whole = record {
    alike = alike_by (there x) (there_swept x name is_name ∙ left_gone)
        (ap (λ (c : Files). get c name) (there_contents x) ∙ inserted_at (contents_of files) name name (shown x) true (same_key name)
        ∙ sym (ap (λ (s : Option (List ℕ)). put_back name (option_map shown s) (get (contents_of files) name)) is ∙ ap (λ (b : Bool). cond b (get (contents_of files) name) (Some (shown x))) whole))
        (λ q q_name differ. (there_swept x q q_name ∙ left_swept q q_name differ, ap (λ (c : Files). get c q) (there_contents x) ∙ inserted_at (contents_of files) q name (shown x) false (differs q differ)));
    gone = there_swept x name is_name ∙ left_gone;
    others = λ q q_name none. there_swept x q q_name ∙ left_none q none;
  }
  moved_by None is whole = record {
    alike = alike_by left left_gone (ap (λ (c : Files). get c name) left_contents ∙ sym (ap (λ (s : Option (List ℕ)). put_back name (option_map shown s) (get (contents_of files) name)) is))
        (λ q q_name differ. (left_swept q q_name differ, ap (λ (c : Files). get c q) left_contents));
    gone = left_gone;
    others = λ q q_name none. left_none q none;
  }

  pub moved_back : is_whole name (get (contents_of files) name) ≡ false → IsBack name files (put_there left (place_of name) (get files (swept_of name)))
  moved_back whole = moved_by (get files (swept_of name)) refl whole

-- all steps that put a swept file back
pub stepped_back : {A : Type 0} (E : Type 0) (old new : Past) (name : List ℕ) (b : Bool) (answer : A) → IsName name → is_whole name (get (contents_of (files_of old)) name) ≡ b
    → Runs {A = A} {E = E} (steps_back name b) old new (Ok answer) → IsBack name (files_of old) (files_of new)
stepped_back E old new name true answer is_name whole runs = subst (λ (p : Past). IsBack name (files_of old) (files_of p)) (sym runs) (let_go_back (files_of old) name is_name whole)
stepped_back E old new name false answer is_name whole runs = subst (λ (p : Past). IsBack name (files_of old) (files_of p)) (sym runs) (moved_back (files_of old) name is_name whole)

-- ---- the names of the swept files
swept_one : (q : List ℕ) → IsName q → names_spelled (name_in_folder (codes "swept/") (swept_of q)) ≡ q ∷ []
swept_one q is_name =
    ap (λ (b : Bool). names_spelled (cond b [] (encode_lower q ∷ [])))
    (list_any_none (λ (b : ℕ). nat_eq b 47) (encode_lower q) (All-weaker (λ c. is_hex_digit c ≡ true) (λ c. nat_eq c 47 ≡ false) no_slash_digit (encode_lower q) (spelled (encode_lower q) q (name_in-encode_lower q is_name)).digits))
    ∙ ap (λ (o : Option (List ℕ)). one_or_none o ++ []) (name_in-encode_lower q is_name)

neither : (a b : Bool) → a || b ≡ false → (a ≡ false) × (b ≡ false)
neither true b is = absurd (cc)
neither false b is = (refl, is)

not_either : (a b : Bool) → a ≡ false → b ≡ false → a || b ≡ false
not_either true b p q = absurd (cc)
not_either false b p q = q

not_listed : (q : List ℕ) (paths : List (List ℕ)) → IsName q → is_one_of (names_swept paths) q ≡ false → list_any (is_at (name_cmp (swept_of q))) paths ≡ false
not_listed q [] is_name none = refl
not_listed q (p ∷ paths) is_name none =
    let read : List ℕ → List (List ℕ) = λ digits. one_or_none (name_in digits) in
    let parts = neither _ _ (sym (list_any-append (is_at (name_cmp q)) (names_spelled (name_in_folder (codes "swept/") p)) (names_swept paths))
    ∙ sym (ap (list_any (is_at (name_cmp q))) (flat_map-append read (name_in_folder (codes "swept/") p) (names_in_folder (codes "swept/") paths))) ∙ none) in
    not_either (test (swept_of q) p) _ (not_true _ (λ same.
    let is : swept_of q ≡ p = one_key (swept_of q) p same in
    let found : is_one_of (names_spelled (name_in_folder (codes "swept/") p)) q ≡ true =
    ap (λ (r : List ℕ). is_one_of (names_spelled (name_in_folder (codes "swept/") r)) q) (sym is) ∙ ap (λ (ns : List (List ℕ)). is_one_of ns q) (swept_one q is_name) ∙ ap (λ (b : Bool). b || false) (same_key q) in
    clash _ found parts.0))
    (not_listed q paths is_name parts.1)

no_file : (o : Option (List ℕ)) → is_some o ≡ false → o ≡ None
no_file (Some x) is = absurd (cc)
no_file None is = refl

-- each swept file is listed
pub all_listed : (files : Files) (q : List ℕ) → IsName q → is_one_of (names_swept (keys files)) q ≡ false → get files (swept_of q) ≡ None
all_listed files q is_name none = no_file (get files (swept_of q)) (contains_key-keys files (swept_of q) ∙ not_listed q (keys files) is_name none)

-- one swept file fewer is left
pub fewer_left : (old new : Files) (n : List ℕ) (now rest : List (List ℕ)) → now ≡ n ∷ rest → IsBack n old new
    → ((q : List ℕ) → IsName q → is_one_of now q ≡ false → get old (swept_of q) ≡ None) → (q : List ℕ) → IsName q → is_one_of rest q ≡ false → get new (swept_of q) ≡ None
fewer_left old new n now rest is back so_far q q_name none = by (test q n) refl
  where
    by : (b : Bool) → test q n ≡ b → get new (swept_of q) ≡ None
    by true e = ap (λ (r : List ℕ). get new (swept_of r)) (one_key q n e) ∙ back.gone
    by false e = back.others q q_name (so_far q q_name (ap (λ (ns : List (List ℕ)). is_one_of ns q) is ∙ not_either (test q n) (is_one_of rest q) e none))

-- the same, if it was removed
pub fewer_removed : (old new : Past) (n : List ℕ) (now rest : List (List ℕ)) → now ≡ n ∷ rest → IsName n → new ≡ with_effect old (Removed (swept_of n))
    → ((q : List ℕ) → IsName q → is_one_of now q ≡ false → get (files_of old) (swept_of q) ≡ None) → (q : List ℕ) → IsName q → is_one_of rest q ≡ false → get (files_of new) (swept_of q) ≡ None
fewer_removed old new n now rest is n_name done so_far q q_name none = by (test q n) refl
  where
    by : (b : Bool) → test q n ≡ b → get (files_of new) (swept_of q) ≡ None
    by true e = ap (λ (r : List ℕ). get (files_of new) (swept_of r)) (one_key q n e) ∙ ap (λ (p : Past). get (files_of p) (swept_of n)) done ∙ left_gone (files_of old) n n_name
    by false e =
        ap (λ (p : Past). get (files_of p) (swept_of q)) done
        ∙ left_none (files_of old) n n_name q (so_far q q_name (ap (λ (ns : List (List ℕ)). is_one_of ns q) is ∙ not_either (test q n) (is_one_of rest q) e none))

-- where no swept file is left, nothing more is put back
pub is_opened : (old new : Files) → OpenAlike old new → ((q : List ℕ) → IsName q → get new (swept_of q) ≡ None) → IsOpened old (contents_of new)
is_opened old new alike none q q_name = sym (ap (λ (s : Option (List ℕ)). put_back q (option_map shown s) (get (contents_of new) q)) (none q q_name)) ∙ alike q q_name

pub alike_then : (a b c : Files) → OpenAlike a b → OpenAlike b c → OpenAlike a c
alike_then a b c first then q q_name = then q q_name ∙ first q q_name

pub opened_then : (a b c : Files) → OpenAlike a b → IsOpened b c → IsOpened a c
opened_then a b c first then q q_name = then q q_name ∙ first q q_name

-- ---- a file that is swept
module _ (files : Files) (name : List ℕ) (is_name : IsName name) where
  off_place : (files : Files) → get (remove files (place_of name)) (swept_of name) ≡ get files (swept_of name)
  off_place files = removed_at files (swept_of name) (place_of name) false (swept_off name (place_of name) is_name (place_not_swept name))

  moved_there : (o : Option (List ℕ)) → get (put_there (remove files (place_of name)) (swept_of name) o) (swept_of name) ≡ option_or o (get files (swept_of name))
  moved_there (Some x) = inserted_at (remove files (place_of name)) (swept_of name) (swept_of name) x true (same_key (swept_of name))
  moved_there None = off_place files

-- what a sweep leaves as the swept file
pub swept_after : {A E : Type 0} (old new : Past) (name path swept : List ℕ) (result : Result A E) → IsName name → path ≡ place_of name → swept ≡ swept_of name
    → Does (Moved path swept) old new result → OnOk result (get (files_of new) (swept_of name) ≡ option_or (get (files_of old) (place_of name)) (get (files_of old) (swept_of name)))
swept_after old new name path swept (Err fault) is_name path_is swept_is does = tt
swept_after old new name path swept (Ok answer) is_name path_is swept_is does =
    ap (λ (p : Past). get (files_of p) (swept_of name)) (does ∙ (λ i. with_effect old (Moved (path_is i) (swept_is i)))) ∙ moved_there (files_of old) name is_name (get (files_of old) (place_of name))

-- the part in a folder of objects is such a file
pub home_part_none : (first : ℕ) → name_at (home_with (first ∷ []) ++ codes "part") ≡ None
home_part_none first = at_path first (codes "part") ∙ either (nat_eq (length (encode_lower (first ∷ []))) 2)
  where
    either : (b : Bool) → cond {A = Option (List ℕ)} b None None ≡ None
    either true = refl
    either false = refl

pub home_part_not_swept : (first : ℕ) → swept_at (home_with (first ∷ []) ++ codes "part") ≡ None
home_part_not_swept first = refl

-- a call that removes such a file
pub part_removed_by : {A E : Type 0} (old new : Past) (path : List ℕ) (result : Result A E) → name_at path ≡ None → swept_at path ≡ None → Does (Removed path) old new result → OpenAlike (files_of old) (files_of new)
part_removed_by old new path (Ok answer) none no_swept does = subst (λ (p : Past). OpenAlike (files_of old) (files_of p)) (sym does) (part_removed (files_of old) path none no_swept)
part_removed_by old new path (Err fault) none no_swept (inl same) = subst (λ (p : Past). OpenAlike (files_of old) (files_of p)) (sym same) (λ q q_name. refl)
part_removed_by old new path (Err fault) none no_swept (inr (part, of, is)) =
    subst (λ (p : Past). OpenAlike (files_of old) (files_of p)) (sym (is ∙ ap (with_effect old) of)) (part_removed (files_of old) path none no_swept)
