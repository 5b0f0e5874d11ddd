-- What a choice leaves of a device is something that a loss of power may leave.
use Rattle.std.proofs.Common.{◌≡◌, ◌<◌, ◌+◌, ◌⊎◌, inl, inr, ℕ, suc, ◌||◌, Bool, true, false, cond, List, [], ◌∷◌, ◌++◌, Option, Some, None, is_some, option_map, length, nat_eq, refl, sym, ◌∙◌, ap, subst, arith, append_assoc, length-append}
use Rattle.std.specs.Ordering.{eq_by_cmp}
use Rattle.std.specs.List.{list_any}
use Rattle.std.specs.Cmp.{eq_by_cmp_equiv}
use Rattle.std.specs.Cmp.Lexicographic.{pointwise}
use Rattle.std.specs.FinMap.{get, insert, empty, contains_key-keys, get-insert, get-empty}
use Rattle.std.proofs.lemmas.List.Folds.{list_any-append}
use Rattle.git_name.specs.Name.{name_cmp}
use Rattle.git_name.proofs.Names.{name_total}
use Rattle.devices.specs.Crash.{File, Names, names_after, folder_has_failed, IsIn, MayNames, MayLeave, Stands}
use Rattle.devices.specs.Device.{Files, Effect, Wrote, Added, Moved, Removed, SyncedFile, SyncedFolder, FailedFile, FailedFolder, put_there}
use Rattle.devices.specs.Loss.{ArePlaced, Lacks, changed, changes_in, folder_in, is_right_in, is_synced, keeps, kept_in, left_names, paths_of, source_seen, target_in, touches, with_target}
use Rattle.devices.specs.declared.fate.Fate.{Fate}
use Rattle.devices.proofs.CopyLemmas.{one_key}
use Rattle.devices.proofs.NameLemmas.{alike, found_in, is_early, may_step, neither, off, one_text, seen_step, untouched}

-- ---- which effects change a name
moved_in : (folder from to q : List ℕ) (a b : Bool) → pointwise nat_eq from q ≡ a → pointwise nat_eq to q ≡ b → (a || b) ≡ true → is_right_in folder q ≡ true → cond (is_right_in folder from) true (is_right_in folder to) ≡ true
moved_in folder from to q true b is_from is_to either right =
    ap (λ (t : Bool). cond t true (is_right_in folder to)) (ap (is_right_in folder) (one_text from q is_from) ∙ right)
moved_in folder from to q false b is_from is_to either right =
    by (is_right_in folder from) (ap (is_right_in folder) (one_text to q (is_to ∙ either)) ∙ right)
  where
    by : (t : Bool) → is_right_in folder to ≡ true → cond t true (is_right_in folder to) ≡ true
    by true is = refl
    by false is = is

-- an effect that changes a name in a folder changes names in it
touched_in : (folder : List ℕ) (e : Effect) (q : List ℕ) → touches e q ≡ true → is_right_in folder q ≡ true → changes_in folder e ≡ true
touched_in folder (Wrote path bytes) q is right = ap (is_right_in folder) (one_text path q is) ∙ right
touched_in folder (Added path bytes) q is right = ap (is_right_in folder) (one_text path q is) ∙ right
touched_in folder (Moved from to) q is right = moved_in folder from to q (pointwise nat_eq from q) (pointwise nat_eq to q) refl refl is right
touched_in folder (Removed path) q is right = ap (is_right_in folder) (one_text path q is) ∙ right
touched_in folder (SyncedFile path) q is right = absurd (cc)
touched_in folder (SyncedFolder other) q is right = absurd (cc)
touched_in folder (FailedFile path) q is right = absurd (cc)
touched_in folder (FailedFolder other) q is right = absurd (cc)

-- ---- what a sync of a folder keeps
always : (b : Bool) → cond b true true ≡ true
always true = refl
always false = refl

-- a sync of a folder that did not fail before keeps each change in it before
synced_later : (newer past : List Effect) (folder : List ℕ) (e : Effect) (place : ℕ) → folder_has_failed past folder ≡ false → changes_in folder e ≡ true → place < length past → is_synced (newer ++ SyncedFolder folder ∷ past) e place ≡ true
synced_later [] past folder e place unfailed changes less =
    ap (λ (t : Bool). cond t false (cond (keeps (Some folder) past e) true (is_synced past e place))) (is_early (length past) place less)
    ∙ ap (λ (t : Bool). cond (cond t false (changes_in folder e)) true (is_synced past e place)) unfailed
    ∙ ap (λ (t : Bool). cond t true (is_synced past e place)) changes
synced_later (n ∷ newer) past folder e place unfailed changes less =
    ap (λ (t : Bool). cond t false (cond (keeps (folder_in n) (newer ++ SyncedFolder folder ∷ past) e) true (is_synced (newer ++ SyncedFolder folder ∷ past) e place))) (is_early (length (newer ++ SyncedFolder folder ∷ past)) place longer)
    ∙ ap (λ (t : Bool). cond (keeps (folder_in n) (newer ++ SyncedFolder folder ∷ past) e) true t) (synced_later newer past folder e place unfailed changes less)
    ∙ always (keeps (folder_in n) (newer ++ SyncedFolder folder ∷ past) e)
  where
    longer : place < length (newer ++ SyncedFolder folder ∷ past)
    longer = let all : length (newer ++ SyncedFolder folder ∷ past) ≡ length newer + suc (length past) = length-append newer (SyncedFolder folder ∷ past) in omega (arith, all, less)

module _ (base : Files) (fates : List Fate) (whole : List Effect) where
  abbrev kept : Effect → ℕ → Bool
  kept = kept_in fates whole

  kept_late : (c : Bool) (e : Effect) (place : ℕ) → is_synced whole e place ≡ true → cond c true (is_synced whole e place) ≡ true
  kept_late true e place is = refl
  kept_late false e place is = is

  -- one effect, at a name in a synced folder
  agrees_step : (past : List Effect) (e : Effect) (q : List ℕ) (b t : Bool) → kept e (length past) ≡ b → touches e q ≡ t → (touches e q ≡ true → kept e (length past) ≡ true)
      → left_names base kept past q ≡ names_after base past q → left_names base kept (e ∷ past) q ≡ names_after base (e ∷ past) q
  agrees_step past e q true t kept_is touch_is forced same =
      ap (λ (c : Bool). cond c (changed e (suc (length past)) (source_seen base past e) (left_names base kept past q) q) (left_names base kept past q)) kept_is
      ∙ ap (λ (o : Option File). changed e (suc (length past)) (source_seen base past e) o q) same ∙ sym (seen_step base past e q)
  agrees_step past e q false true kept_is touch_is forced same = let must : kept e (length past) ≡ true = forced touch_is in absurd (cc)
  agrees_step past e q false false kept_is touch_is forced same =
      ap (λ (c : Bool). cond c (changed e (suc (length past)) (source_seen base past e) (left_names base kept past q) q) (left_names base kept past q)) kept_is
      ∙ same ∙ sym (untouched e (suc (length past)) (source_seen base past e) (names_after base past q) q touch_is) ∙ sym (seen_step base past e q)

  -- names in a folder that was synced are those that are seen
  agrees : (newer middle past before : List Effect) (folder q : List ℕ) → whole ≡ newer ++ SyncedFolder folder ∷ before → before ≡ middle ++ past → folder_has_failed before folder ≡ false → IsIn folder q
      → left_names base kept past q ≡ names_after base past q
  agrees newer middle [] before folder q whole_is before_is unfailed is_in = refl
  agrees newer middle (e ∷ past) before folder q whole_is before_is unfailed is_in =
      agrees_step past e q (kept e (length past)) (touches e q) refl refl
      (λ touch. kept_late _ e (length past) (ap (λ (w : List Effect). is_synced w e (length past)) whole_is ∙ synced_later newer before folder e (length past) unfailed (touched_in folder e q touch (found_in folder q is_in)) less))
      (agrees newer (middle ++ e ∷ []) past before folder q whole_is (before_is ∙ sym (append_assoc middle (e ∷ []) past)) unfailed is_in)
    where
      less : length past < length before
      less = let all : length before ≡ length middle + suc (length past) = ap length before_is ∙ length-append middle (e ∷ past) in omega (arith, all)

  same_both : (b : Bool) (o : Option File) → cond b o o ≡ o
  same_both true o = refl
  same_both false o = refl

  -- the names that are left may be left
  pub may_left : (newer past : List Effect) → whole ≡ newer ++ past → MayNames base past (left_names base kept past)
  may_left newer [] is = λ q. refl
  may_left newer (Wrote path bytes ∷ past) is = may_step base past (Wrote path bytes) _ _ _ (may_left (newer ++ Wrote path bytes ∷ []) past (is ∙ sym (append_assoc newer _ past))) refl (λ q. refl)
  may_left newer (Added path bytes ∷ past) is = may_step base past (Added path bytes) _ _ _ (may_left (newer ++ Added path bytes ∷ []) past (is ∙ sym (append_assoc newer _ past))) refl (λ q. refl)
  may_left newer (Moved from to ∷ past) is = may_step base past (Moved from to) _ _ _ (may_left (newer ++ Moved from to ∷ []) past (is ∙ sym (append_assoc newer _ past))) refl (λ q. refl)
  may_left newer (Removed path ∷ past) is = may_step base past (Removed path) _ _ _ (may_left (newer ++ Removed path ∷ []) past (is ∙ sym (append_assoc newer _ past))) refl (λ q. refl)
  may_left newer (SyncedFile path ∷ past) is = may_step base past (SyncedFile path) _ _ _ (may_left (newer ++ SyncedFile path ∷ []) past (is ∙ sym (append_assoc newer _ past))) refl (λ q. refl)
  may_left newer (SyncedFolder folder ∷ past) is = (
    alike base past (left_names base kept past) (left_names base kept (SyncedFolder folder ∷ past)) (λ q. same_both _ _) (may_left (newer ++ SyncedFolder folder ∷ []) past (is ∙ sym (append_assoc newer _ past))),
    λ unfailed q is_in. same_both _ _ ∙ agrees newer [] past past folder q is refl unfailed is_in,
  )
  may_left newer (FailedFile path ∷ past) is = may_step base past (FailedFile path) _ _ _ (may_left (newer ++ FailedFile path ∷ []) past (is ∙ sym (append_assoc newer _ past))) refl (λ q. refl)
  may_left newer (FailedFolder folder ∷ past) is = may_step base past (FailedFolder folder) _ _ _ (may_left (newer ++ FailedFolder folder ∷ []) past (is ∙ sym (append_assoc newer _ past))) refl (λ q. refl)

-- ---- the paths at which there may be a file
same_key : (x : List ℕ) → eq_by_cmp name_cmp x x ≡ true
same_key x = (eq_by_cmp_equiv name_total).refl x

differ : (q path : List ℕ) → eq_by_cmp name_cmp q path ≡ false → pointwise nat_eq path q ≡ false
differ q path is = by (pointwise nat_eq path q) refl
  where
    by : (b : Bool) → pointwise nat_eq path q ≡ b → pointwise nat_eq path q ≡ false
    by true e = let same : eq_by_cmp name_cmp q path ≡ true = ap (eq_by_cmp name_cmp q) (one_text path q e) ∙ same_key q in absurd (cc)
    by false e = e

none_there : {A : Type 0} (o : Option A) → is_some o ≡ false → o ≡ None
none_there None is = refl
none_there (Some x) is = absurd (cc)

-- where an effect puts nothing, there is nothing after it if there was nothing before
puts_none : (e : Effect) (n : ℕ) (source : Option File) (q : List ℕ) → ((path : List ℕ) → target_in e ≡ Some path → pointwise nat_eq path q ≡ false) → changed e n source None q ≡ None
puts_none (Wrote path bytes) n source q lack = off _ _ _ (lack path refl)
puts_none (Added path bytes) n None q lack = off _ _ _ (lack path refl)
puts_none (Added path bytes) n (Some file) q lack = refl
puts_none (Moved from to) n None q lack = refl
puts_none (Moved from to) n (Some file) q lack = off (pointwise nat_eq to q) (Some file) (cond (pointwise nat_eq from q) None None) (lack to refl) ∙ nothing (pointwise nat_eq from q)
  where
    nothing : (b : Bool) → cond {A = Option File} b None None ≡ None
    nothing true = refl
    nothing false = refl
puts_none (Removed path) n None q lack = refl
puts_none (Removed path) n (Some file) q lack = gone (pointwise nat_eq path q)
  where
    gone : (b : Bool) → cond {A = Option File} b None None ≡ None
    gone true = refl
    gone false = refl
puts_none (SyncedFile path) n source q lack = refl
puts_none (SyncedFolder folder) n source q lack = refl
puts_none (FailedFile path) n source q lack = refl
puts_none (FailedFolder folder) n source q lack = refl

lacks_before : (paths : List (List ℕ)) (o : Option (List ℕ)) (q : List ℕ) → Lacks (with_target paths o) q → Lacks paths q × ((path : List ℕ) → o ≡ Some path → pointwise nat_eq path q ≡ false)
lacks_before paths None q lack = (lack, λ path is. absurd (cc))
lacks_before paths (Some target) q lack =
    let both = neither _ _ (sym (list_any-append (eq_by_cmp name_cmp q) paths (target ∷ [])) ∙ lack) in
    (both.0, λ path is. differ q path (ap (eq_by_cmp name_cmp q) (let e : path ≡ target = cc in e) ∙ (neither _ _ both.1).0))

both_none : (b : Bool) (x y : Option File) → x ≡ None → y ≡ None → cond b x y ≡ None
both_none true x y a c = a
both_none false x y a c = c

pub none_left : (base : Files) (test : Effect → ℕ → Bool) (past : List Effect) (q : List ℕ) → Lacks (paths_of base past) q → left_names base test past q ≡ None
none_left base test [] q lack = ap (option_map (λ (b : List ℕ). (q, 0))) (none_there (get base q) (contains_key-keys base q ∙ lack))
none_left base test (e ∷ past) q lack =
    let before = lacks_before (paths_of base past) (target_in e) q lack in
    let none : left_names base test past q ≡ None = none_left base test past q before.0 in
    both_none (test e (length past)) _ _ (ap (λ (o : Option File). changed e (suc (length past)) (source_seen base past e) o q) none ∙ puts_none e (suc (length past)) (source_seen base past e) q before.1) none

-- ---- the files that are left
at_none : (base : Files) (past : List Effect) (o : Option File) (found given : Option (List ℕ)) → Stands base past o given → given ≡ None → found ≡ None → Stands base past o found
at_none base past None found given stands is none = none
at_none base past (Some file) found given (x, is_some, may) is none = absurd (cc)

stands_as : (base : Files) (past : List Effect) (o : Option File) (found given : Option (List ℕ)) → Stands base past o given → found ≡ given → Stands base past o found
stands_as base past o found given stands is = subst (Stands base past o) (sym is) stands

-- one more path, with what is left there
pub placed_more : (base : Files) (past : List Effect) (m : Names) (path : List ℕ) (paths : List (List ℕ)) (given : Option (List ℕ)) (left : Files) → Stands base past (m path) given → ArePlaced base past m paths left
    → ArePlaced base past m (path ∷ paths) (put_there left path given)
placed_more base past m path paths (Some bytes) left stands placed q = by (eq_by_cmp name_cmp q path) refl (placed q)
  where
    found : get (insert left path bytes) q ≡ cond (eq_by_cmp name_cmp q path) (Some bytes) (get left q)
    found = get-insert name_total left path bytes q

    by : (b : Bool) → eq_by_cmp name_cmp q path ≡ b → Stands base past (m q) (get left q) ⊎ ((get left q ≡ None) × Lacks paths q)
        → Stands base past (m q) (get (insert left path bytes) q) ⊎ ((get (insert left path bytes) q ≡ None) × Lacks (path ∷ paths) q)
    by true is before = inl (stands_as base past (m q) (get (insert left path bytes) q) (Some bytes) (subst (λ (p : List ℕ). Stands base past (m p) (Some bytes)) (sym (one_key q path is)) stands) (found ∙ ap (λ (t : Bool). cond t (Some bytes) (get left q)) is))
    by false is (inl before) = inl (stands_as base past (m q) (get (insert left path bytes) q) (get left q) before (found ∙ ap (λ (t : Bool). cond t (Some bytes) (get left q)) is))
    by false is (inr before) = inr (found ∙ ap (λ (t : Bool). cond t (Some bytes) (get left q)) is ∙ before.0, ap (λ (t : Bool). t || list_any (eq_by_cmp name_cmp q) paths) is ∙ before.1)
placed_more base past m path paths None left stands placed q = by (eq_by_cmp name_cmp q path) refl (placed q)
  where
    by : (b : Bool) → eq_by_cmp name_cmp q path ≡ b → Stands base past (m q) (get left q) ⊎ ((get left q ≡ None) × Lacks paths q)
        → Stands base past (m q) (get left q) ⊎ ((get left q ≡ None) × Lacks (path ∷ paths) q)
    by b is (inl before) = inl before
    by true is (inr before) = inl (at_none base past (m q) (get left q) None (subst (λ (p : List ℕ). Stands base past (m p) None) (sym (one_key q path is)) stands) refl before.0)
    by false is (inr before) = inr (before.0, ap (λ (t : Bool). t || list_any (eq_by_cmp name_cmp q) paths) is ∙ before.1)

-- the same of a list, by its first path
pub placed_first : (base : Files) (past : List Effect) (m : Names) (path key : List ℕ) (paths others : List (List ℕ)) (given : Option (List ℕ)) (left new : Files) → paths ≡ path ∷ others → key ≡ path → new ≡ put_there left key given
    → Stands base past (m path) given → ArePlaced base past m others left → ArePlaced base past m paths new
placed_first base past m path key paths others given left new is key_is new_is stands placed =
    subst (λ (ps : List (List ℕ)). ArePlaced base past m ps new) (sym is)
    (subst (ArePlaced base past m (path ∷ others)) (sym (new_is ∙ ap (λ (k : List ℕ). put_there left k given) key_is)) (placed_more base past m path others given left stands placed))

pub key_among : (path : List ℕ) (paths : List (List ℕ)) → list_any (pointwise nat_eq path) paths ≡ true → list_any (eq_by_cmp name_cmp path) paths ≡ true
key_among path [] is = absurd (cc)
key_among path (first ∷ paths) is = by (pointwise nat_eq path first) refl is (key_among path paths)
  where
    late : (b : Bool) → (b || true) ≡ true
    late true = refl
    late false = refl

    by : (b : Bool) → pointwise nat_eq path first ≡ b → (b || list_any (pointwise nat_eq path) paths) ≡ true → (list_any (pointwise nat_eq path) paths ≡ true → list_any (eq_by_cmp name_cmp path) paths ≡ true)
        → (eq_by_cmp name_cmp path first || list_any (eq_by_cmp name_cmp path) paths) ≡ true
    by true e either rest = ap (λ (t : Bool). t || list_any (eq_by_cmp name_cmp path) paths) (ap (eq_by_cmp name_cmp path) (sym (one_text path first e)) ∙ same_key path)
    by false e either rest = ap (λ (t : Bool). eq_by_cmp name_cmp path first || t) (rest either) ∙ late (eq_by_cmp name_cmp path first)

-- a path that is among the others
pub placed_again : (base : Files) (past : List Effect) (m : Names) (path : List ℕ) (paths others : List (List ℕ)) (left : Files) → paths ≡ path ∷ others → list_any (pointwise nat_eq path) others ≡ true → ArePlaced base past m others left
    → ArePlaced base past m paths left
placed_again base past m path paths others left is among placed = subst (λ (ps : List (List ℕ)). ArePlaced base past m ps left) (sym is) (λ q. by q (eq_by_cmp name_cmp q path) refl (placed q))
  where
    by : (q : List ℕ) (b : Bool) → eq_by_cmp name_cmp q path ≡ b → Stands base past (m q) (get left q) ⊎ ((get left q ≡ None) × Lacks others q) → Stands base past (m q) (get left q) ⊎ ((get left q ≡ None) × Lacks (path ∷ others) q)
    by q b e (inl stands) = inl stands
    by q true e (inr none) =
        let there : list_any (eq_by_cmp name_cmp q) others ≡ true = ap (λ (p : List ℕ). list_any (eq_by_cmp name_cmp p) others) (one_key q path e) ∙ key_among path others among in
        let lacking : list_any (eq_by_cmp name_cmp q) others ≡ false = none.1 in
        absurd (cc)
    by q false e (inr none) = inr (none.0, ap (λ (t : Bool). t || list_any (eq_by_cmp name_cmp q) others) e ∙ none.1)

pub placed_none : (base : Files) (past : List Effect) (m : Names) (paths : List (List ℕ)) (left : Files) → length paths ≡ 0 → left ≡ empty → ArePlaced base past m paths left
placed_none base past m [] left none is q = inr (ap (λ (f : Files). get f q) is ∙ get-empty name_cmp q, refl)
placed_none base past m (path ∷ paths) left none is q = absurd (omega (arith, none))

-- all that is left, at all paths at which there may be a file
pub all_placed : (base : Files) (fates : List Fate) (whole : List Effect) (paths : List (List ℕ)) (left : Files) → paths ≡ paths_of base whole → ArePlaced base whole (left_names base (kept_in fates whole) whole) paths left → MayLeave base whole left
all_placed base fates whole paths left is among = (left_names base (kept_in fates whole) whole, may_left base fates whole [] whole refl, λ q. by q (placed q))
  where
    placed : ArePlaced base whole (left_names base (kept_in fates whole) whole) (paths_of base whole) left
    placed = subst (λ (ps : List (List ℕ)). ArePlaced base whole (left_names base (kept_in fates whole) whole) ps left) is among

    none_at : (o : Option File) (found : Option (List ℕ)) → o ≡ None → found ≡ None → Stands base whole o found
    none_at None found is none = none
    none_at (Some file) found is none = absurd (cc)

    by : (q : List ℕ) → Stands base whole (left_names base (kept_in fates whole) whole q) (get left q) ⊎ ((get left q ≡ None) × Lacks (paths_of base whole) q) → Stands base whole (left_names base (kept_in fates whole) whole q) (get left q)
    by q (inl stands) = stands
    by q (inr none) = none_at (left_names base (kept_in fates whole) whole q) (get left q) (none_left base (kept_in fates whole) whole q none.1) none.0
