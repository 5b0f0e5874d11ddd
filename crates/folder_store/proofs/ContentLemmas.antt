-- What a folder's contents have under a name is what its files have at the place of the name.
use Rattle.std.proofs.Common.{◌≡◌, ℕ, ◌≤◌, ◌&&◌, Bool, true, false, cond, List, [], ◌∷◌, Option, Some, None, length, nat_eq, nat_le, option_map, refl, sym, ◌∙◌, ap, subst, arith}
use Rattle.std.specs.Ordering.{is_eq}
use Rattle.std.specs.Cmp.Lexicographic.{pointwise}
use Rattle.std.specs.FinMap.{find, get, insert, remove, entries, get-entries, get-from_entries, get-insert, get-remove, same_map}
use Rattle.std.proofs.lemmas.Bool.Decides.{nat_tests}
use Rattle.std.proofs.lemmas.Map.Text.{is_eq-slice_cmp}
use Rattle.devices.specs.Device.{Files, put_there, within}
use Rattle.git_name.specs.Name.{IsName, name_cmp}
use Rattle.git_name.proofs.Names.{name_total, name_exact}
use Rattle.folder_store.specs.Place.{place_of, name_at}
use Rattle.folder_store.specs.Contents.{add_named, named, contents_of}
use Rattle.folder_store.specs.declared.max_file.TheConstants.{MAX_FILE}
use Rattle.loose_store.proofs.FilesLemmas.{tied}
use Rattle.folder_store.proofs.PlaceLemmas.{one_text, same_text, at_place, place_has}

abbrev pub shown : List ℕ → List ℕ
shown = within MAX_FILE

pub shown_whole : (bytes : List ℕ) → length bytes ≤ MAX_FILE → within MAX_FILE bytes ≡ bytes
shown_whole bytes fits = by (nat_le (length bytes) MAX_FILE) refl
  where
    by : (t : Bool) → nat_le (length bytes) MAX_FILE ≡ t → cond t bytes [] ≡ bytes
    by true e = refl
    by false e = absurd (grind (arith, nat_tests))

pub one_key : (x y : List ℕ) → is_eq (name_cmp x y) ≡ true → x ≡ y
one_key x y e = name_exact x y (tied _ e)

pub same_key : (x : List ℕ) → is_eq (name_cmp x x) ≡ true
same_key x = is_eq-slice_cmp x x ∙ same_text x

pub not_true : (b : Bool) → (b ≡ true → ⊥) → b ≡ false
not_true true no_way = absurd (no_way refl)
not_true false no_way = refl

-- its place holds the file of this name
own_in : Option (List ℕ) → List ℕ → Bool
own_in (Some r) q = pointwise nat_eq r q
own_in None q = false

pub own : List ℕ → Bool
own q = own_in (name_at (place_of q)) q

pub clash : {P : Type 0} (b : Bool) → b ≡ true → b ≡ false → P
clash true p q = absurd (cc)
clash false p q = absurd (cc)

own_by : (q : List ℕ) (o : Option (List ℕ)) → name_at (place_of q) ≡ o → own_in o q ≡ true → name_at (place_of q) ≡ Some q
unfolding own_in
own_by q (Some r) is e = is ∙ ap Some (one_text r q e)
own_by q None is e = absurd (cc)

pub own_has : (q : List ℕ) → own q ≡ true → name_at (place_of q) ≡ Some q
unfolding own
own_has q e = own_by q (name_at (place_of q)) refl e

pub has_own : (q : List ℕ) → name_at (place_of q) ≡ Some q → own q ≡ true
unfolding own own_in
has_own q is = ap (λ o. own_in o q) is ∙ same_text q

pub own_name : (q : List ℕ) → IsName q → own q ≡ true
own_name q is_name = has_own q (place_has q is_name)

some_one : (a b : List ℕ) → Some a ≡ Some b → a ≡ b
some_one a b is = cc

pub both_of : (a b : Bool) → a && b ≡ true → (a ≡ true) × (b ≡ true)
both_of true true is = (refl, refl)
both_of true false is = absurd (cc)
both_of false b is = absurd (cc)

pub both_true : (a b : Bool) → a ≡ true → b ≡ true → a && b ≡ true
both_true true true p q = refl
both_true true false p q = absurd (cc)
both_true false b p q = absurd (cc)

-- two names have one place if they are one
pub one_place : (q n : List ℕ) → own n ≡ true → own q && is_eq (name_cmp (place_of q) (place_of n)) ≡ is_eq (name_cmp q n)
one_place q n n_own = by (is_eq (name_cmp q n)) refl
  where
    by : (t : Bool) → is_eq (name_cmp q n) ≡ t → own q && is_eq (name_cmp (place_of q) (place_of n)) ≡ t
    by true e =
        let is : n ≡ q = sym (one_key q n e) in
        both_true _ _ (subst (λ (r : List ℕ). own r ≡ true) is n_own) (subst (λ (r : List ℕ). is_eq (name_cmp (place_of q) (place_of r)) ≡ true) (sym is) (same_key (place_of q)))
    by false e = not_true _ (λ same.
        let parts = both_of (own q) _ same in
        let places : place_of q ≡ place_of n = one_key (place_of q) (place_of n) parts.1 in
        let is : q ≡ n = some_one q n (sym (own_has q parts.0) ∙ ap name_at places ∙ own_has n n_own) in
        clash (is_eq (name_cmp q n)) (subst (λ (r : List ℕ). is_eq (name_cmp q r) ≡ true) is (same_key q)) e)

-- a path that holds no object's file is nobody's place
pub no_place : (q p : List ℕ) → name_at p ≡ None → own q && is_eq (name_cmp (place_of q) p) ≡ false
no_place q p none = not_true _ (λ same.
    let parts = both_of (own q) _ same in
    let places : place_of q ≡ p = one_key (place_of q) p parts.1 in
    let is : Some q ≡ None = sym (own_has q parts.0) ∙ ap name_at places ∙ none in
    absurd (cc))

pub picked : (o c t : Bool) (x : List ℕ) (rest : Option (List ℕ)) → o && c ≡ t → cond t (Some (shown x)) (cond o (option_map shown rest) None) ≡ cond o (option_map shown (cond c (Some x) rest)) None
picked true true true x rest e = refl
picked true true false x rest e = absurd (cc)
picked true false true x rest e = absurd (cc)
picked true false false x rest e = refl
picked false c true x rest e = absurd (cc)
picked false c false x rest e = refl

pub dropped : (o c t : Bool) (rest : Option (List ℕ)) → o && c ≡ t → cond t None (cond o (option_map shown rest) None) ≡ cond o (option_map shown (cond c None rest)) None
dropped true true true rest e = refl
dropped true true false rest e = absurd (cc)
dropped true false true rest e = absurd (cc)
dropped true false false rest e = refl
dropped false c true rest e = absurd (cc)
dropped false c false rest e = refl

pub passed : (o c : Bool) (x rest : Option (List ℕ)) → o && c ≡ false → cond o (option_map shown (cond c x rest)) None ≡ cond o (option_map shown rest) None
passed true true x rest e = absurd (cc)
passed true false x rest e = refl
passed false c x rest e = refl

named_entry : (q : List ℕ) (e : List ℕ × List ℕ) (es : List (List ℕ × List ℕ)) → find name_cmp q (named es) ≡ cond (own q) (option_map shown (find name_cmp (place_of q) es)) None
    → (o : Option (List ℕ)) → name_at e.0 ≡ o → find name_cmp q (add_named o e.1 (named es)) ≡ cond (own q) (option_map shown (find name_cmp (place_of q) (e ∷ es))) None
named_entry q e es rest (Some n) is =
    let there : e.0 ≡ place_of n = at_place e.0 n is in
    let n_own : own n ≡ true = has_own n (ap name_at (sym there) ∙ is) in
    ap (cond (is_eq (name_cmp q n)) (Some (shown e.1))) rest
    ∙ picked (own q) (is_eq (name_cmp (place_of q) (place_of n))) (is_eq (name_cmp q n)) e.1 _ (one_place q n n_own)
    ∙ ap (λ (p : List ℕ). cond (own q) (option_map shown (cond (is_eq (name_cmp (place_of q) p)) (Some e.1) (find name_cmp (place_of q) es))) None) (sym there)
named_entry q e es rest None is = rest ∙ sym (passed (own q) (is_eq (name_cmp (place_of q) e.0)) (Some e.1) _ (no_place q e.0 is))

find_named : (q : List ℕ) (es : List (List ℕ × List ℕ)) → find name_cmp q (named es) ≡ cond (own q) (option_map shown (find name_cmp (place_of q) es)) None
find_named q [] = sym (none_either (own q))
  where
    none_either : (b : Bool) → cond {A = Option (List ℕ)} b None None ≡ None
    none_either true = refl
    none_either false = refl
find_named q (e ∷ es) = named_entry q e es (find_named q es) (name_at e.0) refl

pub get_contents : (files : Files) (q : List ℕ) → get (contents_of files) q ≡ cond (own q) (option_map shown (get files (place_of q))) None
unfolding contents_of
get_contents files q =
    get-from_entries name_total (named (entries files)) q ∙ find_named q (entries files)
    ∙ ap (λ (o : Option (List ℕ)). cond (own q) (option_map shown o) None) (sym (get-entries files (place_of q)))

-- what is under a name is the file at its place
pub get_file : (files : Files) (name : List ℕ) → IsName name → option_map (within MAX_FILE) (get files (place_of name)) ≡ get (contents_of files) name
get_file files name is_name = sym (get_contents files name ∙ ap (λ (b : Bool). cond b (option_map shown (get files (place_of name))) None) (own_name name is_name))

-- a file at the place of a name is one under the name
pub insert_named : (files : Files) (name bytes : List ℕ) → own name ≡ true → contents_of (insert files (place_of name) bytes) ≡ insert (contents_of files) name (within MAX_FILE bytes)
insert_named files name bytes name_own = same_map name_total name_exact _ _ (λ q.
    get_contents (insert files (place_of name) bytes) q
    ∙ ap (λ (o : Option (List ℕ)). cond (own q) (option_map shown o) None) (get-insert name_total files (place_of name) bytes (place_of q))
    ∙ sym (picked (own q) (is_eq (name_cmp (place_of q) (place_of name))) (is_eq (name_cmp q name)) bytes (get files (place_of q)) (one_place q name name_own))
    ∙ ap (cond (is_eq (name_cmp q name)) (Some (shown bytes))) (sym (get_contents files q))
    ∙ sym (get-insert name_total (contents_of files) name (shown bytes) q))

pub remove_named : (files : Files) (name : List ℕ) → own name ≡ true → contents_of (remove files (place_of name)) ≡ remove (contents_of files) name
remove_named files name name_own = same_map name_total name_exact _ _ (λ q.
    get_contents (remove files (place_of name)) q
    ∙ ap (λ (o : Option (List ℕ)). cond (own q) (option_map shown o) None) (get-remove name_total files (place_of name) (place_of q))
    ∙ sym (dropped (own q) (is_eq (name_cmp (place_of q) (place_of name))) (is_eq (name_cmp q name)) (get files (place_of q)) (one_place q name name_own))
    ∙ ap (cond (is_eq (name_cmp q name)) None) (sym (get_contents files q))
    ∙ sym (get-remove name_total (contents_of files) name q))

-- a file elsewhere is no object's
pub insert_other : (files : Files) (path bytes : List ℕ) → name_at path ≡ None → contents_of (insert files path bytes) ≡ contents_of files
insert_other files path bytes none = same_map name_total name_exact _ _ (λ q.
    get_contents (insert files path bytes) q
    ∙ ap (λ (o : Option (List ℕ)). cond (own q) (option_map shown o) None) (get-insert name_total files path bytes (place_of q))
    ∙ passed (own q) (is_eq (name_cmp (place_of q) path)) (Some bytes) (get files (place_of q)) (no_place q path none)
    ∙ sym (get_contents files q))

pub remove_other : (files : Files) (path : List ℕ) → name_at path ≡ None → contents_of (remove files path) ≡ contents_of files
remove_other files path none = same_map name_total name_exact _ _ (λ q.
    get_contents (remove files path) q
    ∙ ap (λ (o : Option (List ℕ)). cond (own q) (option_map shown o) None) (get-remove name_total files path (place_of q))
    ∙ passed (own q) (is_eq (name_cmp (place_of q) path)) None (get files (place_of q)) (no_place q path none)
    ∙ sym (get_contents files q))

-- a part that was written and renamed
pub moved_part : (files : Files) (name bytes part : List ℕ) → own name ≡ true → name_at part ≡ None
    → contents_of (put_there (remove (insert files part bytes) part) (place_of name) (get (insert files part bytes) part)) ≡ insert (contents_of files) name (within MAX_FILE bytes)
moved_part files name bytes part name_own none =
    let all = insert files part bytes in
    let there : get all part ≡ Some bytes = get-insert name_total files part bytes part ∙ ap (λ (b : Bool). cond b (Some bytes) (get files part)) (same_key part) in
    ap (λ (o : Option (List ℕ)). contents_of (put_there (remove all part) (place_of name) o)) there
    ∙ insert_named (remove all part) name bytes name_own
    ∙ ap (λ (k : Files). insert k name (shown bytes)) (remove_other all part none ∙ insert_other files part bytes none)

-- a file that was moved elsewhere
pub moved_away : (files : Files) (name path : List ℕ) (o : Option (List ℕ)) → own name ≡ true → name_at path ≡ None → contents_of (put_there (remove files (place_of name)) path o) ≡ remove (contents_of files) name
moved_away files name path (Some bytes) name_own none = insert_other _ path bytes none ∙ remove_named files name name_own
moved_away files name path None name_own none = remove_named files name name_own
