-- Which file is at a path: as it is seen, and as a choice leaves it.
use Rattle.std.proofs.Common.{◌≡◌, ◌≤◌, ◌<◌, ◌⊎◌, inl, inr, ◌≢◌, ℕ, suc, ◌&&◌, ◌||◌, Bool, true, false, cond, List, [], ◌∷◌, ◌++◌, Option, Some, None, is_some, option_and_then, length, nat_eq, nat_le, take, drop, refl, sym, ◌∙◌, ap, arith}
use Rattle.std.specs.List.{list_any}
use Rattle.std.specs.Cmp.Lexicographic.{pointwise}
use Rattle.std.proofs.lemmas.Bool.{le-leb}
use Rattle.std.proofs.lemmas.Bool.Decides.{Decides-eqb, leb_tells}
use Rattle.std.proofs.lemmas.Slice.Eq.{slice_eq-Decides}
use Rattle.devices.specs.Crash.{File, Names, set, moved, removed, added_to, names_after, HasNoSlash, IsIn, MayNames}
use Rattle.devices.specs.Device.{Files, Effect, Wrote, Added, Moved, Removed, SyncedFile, SyncedFolder, FailedFile, FailedFolder, plain}
use Rattle.devices.specs.Loss.{source_in, folder_in, changed, source_seen, touches, left_names, is_any, is_right_in, keeps, is_synced}
use Rattle.devices.specs.Note.{effect_of, effects_of}
use Rattle.devices.specs.declared.note.Note.{Note}

-- ---- texts
pub one_text : (x y : List ℕ) → pointwise nat_eq x y ≡ true → x ≡ y
one_text x y e = (slice_eq-Decides Decides-eqb x y (pointwise nat_eq x y) refl).0 e

pub same_text : (x : List ℕ) → pointwise nat_eq x x ≡ true
same_text x = (slice_eq-Decides Decides-eqb x x (pointwise nat_eq x x) refl).1 refl

-- ---- names: one effect
set_is : (d : Names) (path q : List ℕ) (file before : Option File) → d q ≡ before → set d path file q ≡ cond (pointwise nat_eq path q) file before
set_is d path q file before is = ap (cond (pointwise nat_eq path q) file) is

added_is : (d : Names) (path q : List ℕ) (number : ℕ) (bytes : List ℕ) (o before : Option File) → d q ≡ before → added_to d path number o q ≡ changed (Added path bytes) number o before q
added_is d path q number bytes None before is = set_is d path q _ before is
added_is d path q number bytes (Some file) before is = is

moved_is : (d : Names) (from to q : List ℕ) (number : ℕ) (o before : Option File) → d q ≡ before → moved d from to o q ≡ changed (Moved from to) number o before q
moved_is d from to q number None before is = is
moved_is d from to q number (Some file) before is = ap (λ (t : Option File). cond (pointwise nat_eq to q) (Some file) (cond (pointwise nat_eq from q) None t)) is

removed_is : (d : Names) (path q : List ℕ) (number : ℕ) (o before : Option File) → d q ≡ before → removed d path o q ≡ changed (Removed path) number o before q
removed_is d path q number None before is = is
removed_is d path q number (Some file) before is = set_is d path q None before is

-- the file that is seen at a path after an effect
pub seen_step : (base : Files) (past : List Effect) (e : Effect) (q : List ℕ) → names_after base (e ∷ past) q ≡ changed e (suc (length past)) (source_seen base past e) (names_after base past q) q
seen_step base past (Wrote path bytes) q = refl
seen_step base past (Added path bytes) q = added_is (names_after base past) path q (suc (length past)) bytes (names_after base past path) _ refl
seen_step base past (Moved from to) q = moved_is (names_after base past) from to q (suc (length past)) (names_after base past from) _ refl
seen_step base past (Removed path) q = removed_is (names_after base past) path q (suc (length past)) (names_after base past path) _ refl
seen_step base past (SyncedFile path) q = refl
seen_step base past (SyncedFolder folder) q = refl
seen_step base past (FailedFile path) q = refl
seen_step base past (FailedFolder folder) q = refl

pub count_effects : (notes : List Note) → length (effects_of notes) ≡ length notes
count_effects [] = refl
count_effects (note ∷ notes) = ap suc (count_effects notes)

-- the file that is seen after the newest note
pub seen_after : (base : Files) (notes past : List Note) (note : Note) (path : List ℕ) (source before result : Option File)
    → notes ≡ note ∷ past → source ≡ source_seen base (effects_of past) (effect_of note) → before ≡ names_after base (effects_of past) path
    → result ≡ changed (effect_of note) (length notes) source before path → result ≡ names_after base (effects_of notes) path
seen_after base notes past note path source before result is source_is before_is result_is =
    result_is
    ∙ ap (λ (n : ℕ). changed (effect_of note) n source before path) (ap length is ∙ ap suc (sym (count_effects past)))
    ∙ ap (λ (o : Option File). changed (effect_of note) (suc (length (effects_of past))) o before path) source_is
    ∙ ap (λ (o : Option File). changed (effect_of note) (suc (length (effects_of past))) (source_seen base (effects_of past) (effect_of note)) o path) before_is
    ∙ sym (seen_step base (effects_of past) (effect_of note) path)
    ∙ ap (λ (ns : List Note). names_after base (effects_of ns) path) (sym is)

-- names that are the same as others that may be left
pub alike : (base : Files) (past : List Effect) (d m : Names) → ((q : List ℕ) → m q ≡ d q) → MayNames base past d → MayNames base past m
alike base [] d m is may = λ q. is q ∙ may q
alike base (Wrote path bytes ∷ past) d m is (was, may, inl same) = (was, may, inl (λ q. is q ∙ same q))
alike base (Wrote path bytes ∷ past) d m is (was, may, inr same) = (was, may, inr (λ q. is q ∙ same q))
alike base (Added path bytes ∷ past) d m is (was, may, inl same) = (was, may, inl (λ q. is q ∙ same q))
alike base (Added path bytes ∷ past) d m is (was, may, inr same) = (was, may, inr (λ q. is q ∙ same q))
alike base (Moved from to ∷ past) d m is (was, may, inl same) = (was, may, inl (λ q. is q ∙ same q))
alike base (Moved from to ∷ past) d m is (was, may, inr same) = (was, may, inr (λ q. is q ∙ same q))
alike base (Removed path ∷ past) d m is (was, may, inl same) = (was, may, inl (λ q. is q ∙ same q))
alike base (Removed path ∷ past) d m is (was, may, inr same) = (was, may, inr (λ q. is q ∙ same q))
alike base (SyncedFile path ∷ past) d m is may = alike base past d m is may
alike base (SyncedFolder folder ∷ past) d m is may = (alike base past d m is may.0, λ unfailed q is_in. is q ∙ may.1 unfailed q is_in)
alike base (FailedFile path ∷ past) d m is may = alike base past d m is may
alike base (FailedFolder folder ∷ past) d m is may = alike base past d m is may

-- names that come of one effect, kept or not
pub may_step : (base : Files) (past : List Effect) (e : Effect) (d m : Names) (b : Bool) → MayNames base past d → folder_in e ≡ None
    → ((q : List ℕ) → m q ≡ cond b (changed e (suc (length past)) (source_seen base past e) (d q) q) (d q)) → MayNames base (e ∷ past) m
may_step base past (Wrote path bytes) d m true may off is = (d, may, inr is)
may_step base past (Wrote path bytes) d m false may off is = (d, may, inl is)
may_step base past (Added path bytes) d m true may off is = (d, may, inr (λ q. is q ∙ sym (added_is d path q (suc (length past)) bytes (names_after base past path) _ refl)))
may_step base past (Added path bytes) d m false may off is = (d, may, inl is)
may_step base past (Moved from to) d m true may off is = (d, may, inr (λ q. is q ∙ sym (moved_is d from to q (suc (length past)) (names_after base past from) _ refl)))
may_step base past (Moved from to) d m false may off is = (d, may, inl is)
may_step base past (Removed path) d m true may off is = (d, may, inr (λ q. is q ∙ sym (removed_is d path q (suc (length past)) (names_after base past path) _ refl)))
may_step base past (Removed path) d m false may off is = (d, may, inl is)
may_step base past (SyncedFile path) d m true may off is = alike base past d m is may
may_step base past (SyncedFile path) d m false may off is = alike base past d m is may
may_step base past (SyncedFolder folder) d m b may off is = absurd (cc)
may_step base past (FailedFile path) d m true may off is = alike base past d m is may
may_step base past (FailedFile path) d m false may off is = alike base past d m is may
may_step base past (FailedFolder folder) d m true may off is = alike base past d m is may
may_step base past (FailedFolder folder) d m false may off is = alike base past d m is may

-- ---- names: a sync of a folder
both : (a b : Bool) → (a && b) ≡ true → (a ≡ true) × (b ≡ true)
both true b is = (refl, is)
both false b is = absurd (cc)

pub begun : (folder rest : List ℕ) → pointwise nat_eq (take (length folder) (folder ++ rest)) folder ≡ true
begun folder rest = ap (λ (x : List ℕ). pointwise nat_eq x folder) (take_all folder rest) ∙ same_text folder
  where
    take_all : (xs ys : List ℕ) → take (length xs) (xs ++ ys) ≡ xs
    take_all [] ys = refl
    take_all (x ∷ xs) ys = ap (λ (zs : List ℕ). x ∷ zs) (take_all xs ys)

pub behind : (xs ys : List ℕ) → drop (length xs) (xs ++ ys) ≡ ys
behind [] ys = refl
behind (x ∷ xs) ys = behind xs ys

not_that : (b : ℕ) → b ≢ 47 → nat_eq b 47 ≡ false
not_that b differs = by (nat_eq b 47) refl
  where
    by : (t : Bool) → nat_eq b 47 ≡ t → nat_eq b 47 ≡ false
    by true e = absurd (differs ((Decides-eqb b 47).0 e))
    by false e = e

no_slash : (rest : List ℕ) → HasNoSlash rest → list_any (λ b. nat_eq b 47) rest ≡ false
no_slash [] none = refl
no_slash (b ∷ rest) none = ap (λ (t : Bool). t || list_any (λ c. nat_eq c 47) rest) (not_that b none.0) ∙ no_slash rest none.1

-- a path that is right in a folder is found there
pub found_in : (folder q : List ℕ) → IsIn folder q → is_right_in folder q ≡ true
found_in folder q (rest, is, none) =
    ap (is_right_in folder) is
    ∙ ap (λ (t : Bool). is_any (cond t (plain (drop (length folder) (folder ++ rest))) [])) (begun folder rest)
    ∙ ap (λ (x : List ℕ). is_any (plain x)) (behind folder rest)
    ∙ ap (λ (t : Bool). is_any (cond t [] (rest ∷ []))) (no_slash rest none)

pub is_late : (a b : ℕ) → a ≤ b → nat_le a b ≡ true
is_late a b le = le-leb a b le

pub is_early : (a b : ℕ) → b < a → nat_le a b ≡ false
is_early a b less = by (leb_tells a b)
  where
    by : (((nat_le a b ≡ true) × (a ≤ b)) ⊎ ((nat_le a b ≡ false) × (b < a))) → nat_le a b ≡ false
    by (inl le) = absurd (omega (arith, le.1, less))
    by (inr more) = more.0

pub synced_after : (whole past : List Note) (newest : Note) (e : Effect) (place : ℕ) (late kept : Bool) → whole ≡ newest ∷ past → late ≡ nat_le (length past) place → kept ≡ keeps (folder_in (effect_of newest)) (effects_of past) e
    → is_synced (effects_of whole) e place ≡ cond late false (cond kept true (is_synced (effects_of past) e place))
synced_after whole past newest e place late kept is late_is kept_is =
    ap (λ (ns : List Note). is_synced (effects_of ns) e place) is
    ∙ ap (λ (n : ℕ). cond (nat_le n place) false (cond (keeps (folder_in (effect_of newest)) (effects_of past) e) true (is_synced (effects_of past) e place))) (count_effects past)
    ∙ ap (λ (t : Bool). cond t false (cond (keeps (folder_in (effect_of newest)) (effects_of past) e) true (is_synced (effects_of past) e place))) (sym late_is)
    ∙ ap (λ (t : Bool). cond late false (cond t true (is_synced (effects_of past) e place))) (sym kept_is)

-- the file that is left after the newest note
pub left_after : (base : Files) (kept : Effect → ℕ → Bool) (notes past : List Note) (note : Note) (path : List ℕ) (b : Bool) (source before result : Option File)
    → notes ≡ note ∷ past → b ≡ kept (effect_of note) (length past) → source ≡ source_seen base (effects_of past) (effect_of note) → before ≡ left_names base kept (effects_of past) path
    → result ≡ cond b (changed (effect_of note) (length notes) source before path) before → result ≡ left_names base kept (effects_of notes) path
left_after base kept notes past note path b source before result is b_is source_is before_is result_is =
    result_is
    ∙ ap (λ (t : Bool). cond t (changed (effect_of note) (length notes) source before path) before) (b_is ∙ ap (kept (effect_of note)) (sym (count_effects past)))
    ∙ ap (λ (n : ℕ). cond (kept (effect_of note) (length (effects_of past))) (changed (effect_of note) n source before path) before) (ap length is ∙ ap suc (sym (count_effects past)))
    ∙ ap (λ (o : Option File). cond (kept (effect_of note) (length (effects_of past))) (changed (effect_of note) (suc (length (effects_of past))) o before path) before) source_is
    ∙ ap (λ (o : Option File). cond (kept (effect_of note) (length (effects_of past))) (changed (effect_of note) (suc (length (effects_of past))) (source_seen base (effects_of past) (effect_of note)) o path) o) before_is
    ∙ ap (λ (ns : List Note). left_names base kept (effects_of ns) path) (sym is)

-- ---- names that an effect leaves
pub neither : (a b : Bool) → (a || b) ≡ false → (a ≡ false) × (b ≡ false)
neither false b e = (refl, e)
neither true b e = absurd (cc)

pub off : {A : Type 0} (b : Bool) (x y : A) → b ≡ false → cond b x y ≡ y
off b x y is = ap (λ (t : Bool). cond t x y) is

pub untouched : (e : Effect) (n : ℕ) (source before : Option File) (q : List ℕ) → touches e q ≡ false → changed e n source before q ≡ before
untouched (Wrote path bytes) n source before q is = off _ _ _ is
untouched (Added path bytes) n None before q is = off _ _ _ is
untouched (Added path bytes) n (Some file) before q is = refl
untouched (Moved from to) n None before q is = refl
untouched (Moved from to) n (Some file) before q is =
    let both = neither (pointwise nat_eq from q) (pointwise nat_eq to q) is in
    off (pointwise nat_eq to q) (Some file) (cond (pointwise nat_eq from q) None before) both.1 ∙ off (pointwise nat_eq from q) None before both.0
untouched (Removed path) n None before q is = refl
untouched (Removed path) n (Some file) before q is = off _ _ _ is
untouched (SyncedFile path) n source before q is = refl
untouched (SyncedFolder folder) n source before q is = refl
untouched (FailedFile path) n source before q is = refl
untouched (FailedFolder folder) n source before q is = refl

pub seen_off : (base : Files) (notes past : List Note) (note : Note) (path : List ℕ) (before : Option File) → notes ≡ note ∷ past → touches (effect_of note) path ≡ false → before ≡ names_after base (effects_of past) path
    → before ≡ names_after base (effects_of notes) path
seen_off base notes past note path before is off_is before_is =
    before_is ∙ sym (untouched (effect_of note) (suc (length (effects_of past))) (source_seen base (effects_of past) (effect_of note)) (names_after base (effects_of past) path) path off_is)
    ∙ sym (seen_step base (effects_of past) (effect_of note) path) ∙ ap (λ (ns : List Note). names_after base (effects_of ns) path) (sym is)

pub same_both : (b : Bool) (x y : Option File) → x ≡ y → y ≡ cond b x y
same_both true x y is = sym is
same_both false x y is = refl

pub left_off : (base : Files) (kept : Effect → ℕ → Bool) (notes past : List Note) (note : Note) (path : List ℕ) (before : Option File) → notes ≡ note ∷ past → touches (effect_of note) path ≡ false
    → before ≡ left_names base kept (effects_of past) path → before ≡ left_names base kept (effects_of notes) path
left_off base kept notes past note path before is off_is before_is =
    before_is
    ∙ same_both (kept (effect_of note) (length (effects_of past))) (changed (effect_of note) (suc (length (effects_of past))) (source_seen base (effects_of past) (effect_of note)) (left_names base kept (effects_of past) path) path) (left_names base kept (effects_of past) path)
    (untouched (effect_of note) (suc (length (effects_of past))) (source_seen base (effects_of past) (effect_of note)) (left_names base kept (effects_of past) path) path off_is)
    ∙ ap (λ (ns : List Note). left_names base kept (effects_of ns) path) (sym is)

-- ---- effects after which it does not matter what was there before
on_both : {A : Type 0} (b : Bool) (x y z : A) → b ≡ true → cond b x y ≡ cond b x z
on_both b x y z is = ap (λ (t : Bool). cond t x y) is ∙ sym (ap (λ (t : Bool). cond t x z) is)

-- a file that is written
written_over : (e : Effect) (n : ℕ) (before : Option File) (q : List ℕ) → None ≡ source_in e → touches e q ≡ true → changed e n None None q ≡ changed e n None before q
written_over (Wrote path bytes) n before q none touch = on_both (pointwise nat_eq path q) (Some (path, n)) None before touch
written_over (Added path bytes) n before q none touch = absurd (cc)
written_over (Moved from to) n before q none touch = absurd (cc)
written_over (Removed path) n before q none touch = absurd (cc)
written_over (SyncedFile path) n before q none touch = absurd (cc)
written_over (SyncedFolder folder) n before q none touch = absurd (cc)
written_over (FailedFile path) n before q none touch = absurd (cc)
written_over (FailedFolder folder) n before q none touch = absurd (cc)

one_source : (a b : List ℕ) → Some a ≡ Some b → a ≡ b
one_source a b is = cc

apart_then : {A : Type 0} (path q source : List ℕ) → Some source ≡ Some path → pointwise nat_eq source q ≡ false → pointwise nat_eq path q ≡ true → A
apart_then path q source is differs touch = let same : pointwise nat_eq source q ≡ true = ap (λ (p : List ℕ). pointwise nat_eq p q) (one_source source path is) ∙ touch in absurd (cc)

other_side : (a b : Bool) → a ≡ false → (a || b) ≡ true → b ≡ true
other_side true b is either = absurd (cc)
other_side false b is either = either

-- a file that is moved to another path
moved_over : (e : Effect) (n : ℕ) (file : File) (before : Option File) (q source : List ℕ) → Some source ≡ source_in e → pointwise nat_eq source q ≡ false → touches e q ≡ true → changed e n (Some file) None q ≡ changed e n (Some file) before q
moved_over (Wrote path bytes) n file before q source is differs touch = absurd (cc)
moved_over (Added path bytes) n file before q source is differs touch = apart_then path q source is differs touch
moved_over (Moved from to) n file before q source is differs touch =
    on_both (pointwise nat_eq to q) (Some file) (cond (pointwise nat_eq from q) None None) (cond (pointwise nat_eq from q) None before)
    (other_side (pointwise nat_eq from q) (pointwise nat_eq to q) (ap (λ (p : List ℕ). pointwise nat_eq p q) (sym (one_source source from is)) ∙ differs) touch)
moved_over (Removed path) n file before q source is differs touch = apart_then path q source is differs touch
moved_over (SyncedFile path) n file before q source is differs touch = absurd (cc)
moved_over (SyncedFolder folder) n file before q source is differs touch = absurd (cc)
moved_over (FailedFile path) n file before q source is differs touch = absurd (cc)
moved_over (FailedFolder folder) n file before q source is differs touch = absurd (cc)

-- the file that is seen after a note that writes it
pub seen_written : (base : Files) (notes past : List Note) (note : Note) (path : List ℕ) (result : Option File) → notes ≡ note ∷ past → None ≡ source_in (effect_of note) → touches (effect_of note) path ≡ true
    → result ≡ changed (effect_of note) (length notes) None None path → result ≡ names_after base (effects_of notes) path
seen_written base notes past note path result is none touch result_is =
    seen_after base notes past note path None (names_after base (effects_of past) path) result is (ap (option_and_then (names_after base (effects_of past))) none) refl
    (result_is ∙ written_over (effect_of note) (length notes) (names_after base (effects_of past) path) path none touch)

-- the file that is seen after a note that moves it there
pub seen_moved : (base : Files) (notes past : List Note) (note : Note) (path source : List ℕ) (file result : Option File) → notes ≡ note ∷ past → Some source ≡ source_in (effect_of note) → pointwise nat_eq source path ≡ false → touches (effect_of note) path ≡ true
    → file ≡ names_after base (effects_of past) source → is_some file ≡ true → result ≡ changed (effect_of note) (length notes) file None path → result ≡ names_after base (effects_of notes) path
seen_moved base notes past note path source None result is source_is differs touch file_is some result_is = absurd (cc)
seen_moved base notes past note path source (Some file) result is source_is differs touch file_is some result_is =
    seen_after base notes past note path (Some file) (names_after base (effects_of past) path) result is (file_is ∙ ap (option_and_then (names_after base (effects_of past))) source_is) refl
    (result_is ∙ moved_over (effect_of note) (length notes) file (names_after base (effects_of past) path) path source source_is differs touch)

pub left_written : (base : Files) (kept : Effect → ℕ → Bool) (notes past : List Note) (note : Note) (path : List ℕ) (result : Option File) → notes ≡ note ∷ past → true ≡ kept (effect_of note) (length past) → None ≡ source_in (effect_of note)
    → touches (effect_of note) path ≡ true → result ≡ changed (effect_of note) (length notes) None None path → result ≡ left_names base kept (effects_of notes) path
left_written base kept notes past note path result is kept_is none touch result_is =
    left_after base kept notes past note path true None (left_names base kept (effects_of past) path) result is kept_is (ap (option_and_then (names_after base (effects_of past))) none) refl
    (result_is ∙ written_over (effect_of note) (length notes) (left_names base kept (effects_of past) path) path none touch)
