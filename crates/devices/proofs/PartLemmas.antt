-- What a loss of power may leave while a part is written, and when it takes the place of another file.
use Rattle.std.proofs.Common.{◌≡◌, ◌≢◌, ◌≤◌, ◌<◌, ◌⊎◌, inl, inr, ℕ, suc, Bool, true, false, cond, List, [], ◌∷◌, ◌++◌, Option, Some, None, Result, Ok, Err, option_map, length, nat_eq, refl, sym, ◌∙◌, ap, subst, arith, append_assoc}
use Rattle.std.specs.Cmp.Lexicographic.{pointwise}
use Rattle.std.specs.FinMap.{get}
use Rattle.devices.specs.Crash.{File, Names, MayNames, MayBytes, MayLeave, Stands, IsIn, set, moved, added_to, names_after, bytes_after, has_failed, folder_has_failed}
use Rattle.devices.specs.Device.{Files, Effect, Past, Wrote, Added, Moved, Removed, SyncedFile, SyncedFolder, FailedFile, FailedFolder, files_of, with_effect}
use Rattle.devices.specs.Moments.{HoldsAtEach, Throughout, past_with}
use Rattle.devices.specs.Parts.{AreAppends, AreOf, DropsPart, IsAppend, IsOf, IsSure, IsWritten, LeavesAs, LeavesAsOr, MayStand, WritesPart, placing}
use Rattle.devices.specs.Runs.{Runs}
use Rattle.devices.proofs.BeforeLemmas.{aged, before, older}
use Rattle.devices.proofs.ByteLemmas.{the_file}
use Rattle.devices.proofs.MomentLemmas.{throughout_none}
use Rattle.devices.proofs.NameLemmas.{one_text, same_text}
use Rattle.devices.proofs.SeenLemmas.{not_true, seen_aged, seen_bytes, set_here}

pub paths_apart : (p q : List ℕ) → p ≢ q → pointwise nat_eq p q ≡ false
paths_apart p q differ = not_true _ (λ same. differ (one_text p q same))

-- ---- a part that is written
-- since this past a file was made at the path, and no other path and no other file was touched
record IsBegun (part : List ℕ) (old : Past) (effects : List Effect) : Type 0 where
  later : length old.effects ≤ length effects
  file : File
  here : names_after old.base effects part ≡ Some file
  new : length old.effects < file.1
  names : (q : List ℕ) → pointwise nat_eq part q ≡ false → (m : Names) → MayNames old.base effects m → (d : Names) × MayNames old.base old.effects d × (m q ≡ d q)
  bytes : (f : File) (x : List ℕ) → f.1 ≤ length old.effects → MayBytes old.base effects f x → MayBytes old.base old.effects f x

too_old : {P : Type 0} (a b f : ℕ) → a ≤ b → f ≤ a → f ≡ suc b → P
too_old a b f le old is = absurd (omega (arith, le, old, is))

other_old : {P : Type 0} (f g : File) (n : ℕ) → n < f.1 → g.1 ≤ n → Some f ≡ Some g → P
other_old f g n new old is = let same : f ≡ g = cc in absurd (let bad : n < g.1 = subst (λ (h : File). n < h.1) same new in omega (arith, bad, old))

wrote_begun : (part : List ℕ) (old : Past) (first : List ℕ) → IsBegun part old (Wrote part first ∷ old.effects)
wrote_begun part old first = record {
  later = omega arith;
  file = (part, suc (length old.effects));
  here = set_here (names_after old.base old.effects) part part (Some (part, suc (length old.effects))) (same_text part);
  new = omega arith;
  names = λ q off m may. let was = before old.base old.effects (Wrote part first) m may in (was.names, was.may, was.others q off);
  bytes = λ f x age may. older old.base old.effects (Wrote part first) f x tt age may;
}

-- a write in place of the part
again_begun : (part : List ℕ) (old : Past) (effects : List Effect) (bytes : List ℕ) → IsBegun part old effects → IsBegun part old (Wrote part bytes ∷ effects)
again_begun part old effects bytes begun = record {
  later = let le = begun.later in omega (arith, le);
  file = (part, suc (length effects));
  here = set_here (names_after old.base effects) part part (Some (part, suc (length effects))) (same_text part);
  new = let le = begun.later in omega (arith, le);
  names = λ q off m may. let was = before old.base effects (Wrote part bytes) m may in let first = begun.names q off was.names was.may in (first.0, first.1, was.others q off ∙ first.2);
  bytes = λ f x age may. begun.bytes f x age (older old.base effects (Wrote part bytes) f x tt (let le = begun.later in omega (arith, le, age)) may);
}

-- an append to it
added_begun : (part : List ℕ) (old : Past) (effects : List Effect) (bytes : List ℕ) → IsBegun part old effects → IsBegun part old (Added part bytes ∷ effects)
added_begun part old effects bytes begun = record {
  later = let le = begun.later in omega (arith, le);
  file = begun.file;
  here = ap (λ (o : Option File). added_to (names_after old.base effects) part (suc (length effects)) o part) begun.here ∙ begun.here;
  new = begun.new;
  names = λ q off m may. let was = before old.base effects (Added part bytes) m may in let first = begun.names q off was.names was.may in (first.0, first.1, was.others q off ∙ first.2);
  bytes = λ f x age may. begun.bytes f x age (by f x age may);
}
  where
    by : (f : File) (x : List ℕ) → f.1 ≤ length old.effects → MayBytes old.base (Added part bytes ∷ effects) f x → MayBytes old.base effects f x
    by f x age (inl new) = too_old (length old.effects) (length effects) f.1 begun.later age new
    by f x age (inr (inl may)) = may
    by f x age (inr (inr (least, may, seen, front))) = other_old begun.file f (length old.effects) begun.new age (sym begun.here ∙ seen)

-- a sync, which was answered or failed
synced_begun : (part path : List ℕ) (old : Past) (effects : List Effect) → IsBegun part old effects → IsBegun part old (SyncedFile path ∷ effects)
synced_begun part path old effects begun = record {
  later = let le = begun.later in omega (arith, le);
  file = begun.file;
  here = begun.here;
  new = begun.new;
  names = begun.names;
  bytes = λ f x age may. begun.bytes f x age may.0;
}

failed_begun : (part path : List ℕ) (old : Past) (effects : List Effect) → IsBegun part old effects → IsBegun part old (FailedFile path ∷ effects)
failed_begun part path old effects begun = record {
  later = let le = begun.later in omega (arith, le);
  file = begun.file;
  here = begun.here;
  new = begun.new;
  names = begun.names;
  bytes = λ f x age may. begun.bytes f x age may;
}

more_begun : (part : List ℕ) (old : Past) (effects : List Effect) (e : Effect) → IsOf part e → IsBegun part old effects → IsBegun part old (e ∷ effects)
more_begun part old effects (Wrote path bytes) is begun = subst (λ (p : List ℕ). IsBegun part old (Wrote p bytes ∷ effects)) (sym is) (again_begun part old effects bytes begun)
more_begun part old effects (Added path bytes) is begun = subst (λ (p : List ℕ). IsBegun part old (Added p bytes ∷ effects)) (sym is) (added_begun part old effects bytes begun)
more_begun part old effects (Moved from to) is begun = absurd is
more_begun part old effects (Removed path) is begun = absurd is
more_begun part old effects (SyncedFile path) is begun = synced_begun part path old effects begun
more_begun part old effects (SyncedFolder folder) is begun = absurd is
more_begun part old effects (FailedFile path) is begun = failed_begun part path old effects begun
more_begun part old effects (FailedFolder folder) is begun = absurd is

all_begun : (part first : List ℕ) (old : Past) (done : List Effect) → AreOf part done → IsBegun part old (done ++ Wrote part first ∷ old.effects)
all_begun part first old [] each = wrote_begun part old first
all_begun part first old (e ∷ done) each = more_begun part old (done ++ Wrote part first ∷ old.effects) e each.0 (all_begun part first old done each.1)

-- what may stand at another path might have stood there before
still : (part : List ℕ) (old : Past) (effects : List Effect) → IsBegun part old effects → (q : List ℕ) → pointwise nat_eq part q ≡ false → (found : Option (List ℕ)) → MayStand (record old { effects = effects }) q found → MayStand old q found
still part old effects begun q off found (m, may, stands) =
    let was = begun.names q off m may in
    (was.0, was.1, by (was.0 q) (λ f is. aged old.base old.effects was.0 was.1 q f is) (subst (λ (o : Option File). Stands old.base effects o found) was.2 stands))
  where
    by : (o : Option File) → ((f : File) → o ≡ Some f → f.1 ≤ length old.effects) → Stands old.base effects o found → Stands old.base old.effects o found
    by None age is = is
    by (Some f) age (x, is, stood) = (x, is, begun.bytes f x (age f refl) stood)

pub left_at : (past : Past) (left : Files) (q : List ℕ) → MayLeave past.base past.effects left → MayStand past q (get left q)
left_at past left q (m, may, stands) = (m, may, stands q)

part_each : (part first q : List ℕ) (old : Past) (done : List Effect) → pointwise nat_eq part q ≡ false → AreOf part done → HoldsAtEach (LeavesAs old q) (with_effect old (Wrote part first)) done
part_each part first q old [] off each = still part old (Wrote part first ∷ old.effects) (wrote_begun part old first) q off
part_each part first q old (e ∷ done) off each = (still part old (e ∷ (done ++ Wrote part first ∷ old.effects)) (all_begun part first old (e ∷ done) each) q off, part_each part first q old done off each.1)

-- the same moments, counted from before the first write
from_first : (P : Past → Type 0) (old : Past) (e : Effect) (done : List Effect) → P old → HoldsAtEach P (with_effect old e) done → HoldsAtEach P old (done ++ e ∷ [])
from_first P old e [] was each = (each, was)
from_first P old e (f ∷ done) was each = (subst (λ (es : List Effect). P (record old { effects = f ∷ es })) (sym (append_assoc done (e ∷ []) old.effects)) each.0, from_first P old e done was each.1)

pub part_leaves : (part q : List ℕ) (old new : Past) → pointwise nat_eq part q ≡ false → WritesPart part old new → Throughout (LeavesAs old q) old new
part_leaves part q old new off (inl is) = throughout_none (LeavesAs old q) old new is (λ left may. may)
part_leaves part q old new off (inr (first, done, each, is)) = record {
  done = done ++ Wrote part first ∷ [];
  all = is ∙ ap (λ (es : List Effect). record old { effects = es }) (sym (append_assoc done (Wrote part first ∷ []) old.effects));
  each = from_first (LeavesAs old q) old (Wrote part first) done (λ left may. may) (part_each part first q old done off each);
}

-- no sync of a folder fails meanwhile
one_names : (part folder : List ℕ) (e : Effect) (effects : List Effect) → IsOf part e → folder_has_failed (e ∷ effects) folder ≡ folder_has_failed effects folder
one_names part folder (Wrote path bytes) effects is = refl
one_names part folder (Added path bytes) effects is = refl
one_names part folder (Moved from to) effects is = absurd is
one_names part folder (Removed path) effects is = absurd is
one_names part folder (SyncedFile path) effects is = refl
one_names part folder (SyncedFolder other) effects is = absurd is
one_names part folder (FailedFile path) effects is = refl
one_names part folder (FailedFolder other) effects is = absurd is

all_names : (part folder : List ℕ) (done effects : List Effect) → AreOf part done → folder_has_failed (done ++ effects) folder ≡ folder_has_failed effects folder
all_names part folder [] effects each = refl
all_names part folder (e ∷ done) effects each = one_names part folder e (done ++ effects) each.0 ∙ all_names part folder done effects each.1

pub part_names : (part folder : List ℕ) (old new : Past) → WritesPart part old new → folder_has_failed new.effects folder ≡ folder_has_failed old.effects folder
part_names part folder old new (inl is) = ap (λ (p : Past). folder_has_failed p.effects folder) is
part_names part folder old new (inr (first, done, each, is)) =
    ap (λ (p : Past). folder_has_failed p.effects folder) is ∙ all_names part folder done (Wrote part first ∷ old.effects) each

-- ---- a part that is dropped
dropped_still : (part q : List ℕ) (old : Past) → pointwise nat_eq part q ≡ false → (found : Option (List ℕ)) → MayStand (with_effect old (Removed part)) q found → MayStand old q found
dropped_still part q old off found (m, may, stands) =
    let was = before old.base old.effects (Removed part) m may in
    (was.names, was.may, by (was.names q) (subst (λ (o : Option File). Stands old.base (Removed part ∷ old.effects) o found) (was.others q off) stands))
  where
    by : (o : Option File) → Stands old.base (Removed part ∷ old.effects) o found → Stands old.base old.effects o found
    by None stands = stands
    by (Some f) stands = stands

pub dropped_leaves : (part q : List ℕ) (old new : Past) → pointwise nat_eq part q ≡ false → DropsPart part old new → Throughout (LeavesAs old q) old new
dropped_leaves part q old new off (inl is) = throughout_none (LeavesAs old q) old new is (λ left may. may)
dropped_leaves part q old new off (inr is) = record { done = Removed part ∷ []; all = is; each = (dropped_still part q old off, λ left may. may) }

pub dropped_names : (part folder : List ℕ) (old new : Past) → DropsPart part old new → folder_has_failed new.effects folder ≡ folder_has_failed old.effects folder
dropped_names part folder old new (inl is) = ap (λ (p : Past). folder_has_failed p.effects folder) is
dropped_names part folder old new (inr is) = ap (λ (p : Past). folder_has_failed p.effects folder) is

-- ---- a part that was synced
appends_of : (part : List ℕ) (e : Effect) → IsAppend part e → IsOf part e
appends_of part (Wrote path bytes) is = absurd is
appends_of part (Added path bytes) is = is
appends_of part (Moved from to) is = absurd is
appends_of part (Removed path) is = absurd is
appends_of part (SyncedFile path) is = absurd is
appends_of part (SyncedFolder folder) is = absurd is
appends_of part (FailedFile path) is = absurd is
appends_of part (FailedFolder folder) is = absurd is

pub all_of : (part : List ℕ) (pieces : List Effect) → AreAppends part pieces → AreOf part pieces
all_of part [] each = tt
all_of part (e ∷ pieces) each = (appends_of part e each.0, all_of part pieces each.1)

-- no sync of a file failed before it was made
new_unfailed : (base : Files) (past : List Effect) (f : File) → length past < f.1 → has_failed base past f ≡ false
new_unfailed base [] f new = refl
new_unfailed base (Wrote path bytes ∷ past) f new = new_unfailed base past f (omega (arith, new))
new_unfailed base (Added path bytes ∷ past) f new = new_unfailed base past f (omega (arith, new))
new_unfailed base (Moved from to ∷ past) f new = new_unfailed base past f (omega (arith, new))
new_unfailed base (Removed path ∷ past) f new = new_unfailed base past f (omega (arith, new))
new_unfailed base (SyncedFile path ∷ past) f new = new_unfailed base past f (omega (arith, new))
new_unfailed base (SyncedFolder folder ∷ past) f new = new_unfailed base past f (omega (arith, new))
new_unfailed base (FailedFolder folder ∷ past) f new = new_unfailed base past f (omega (arith, new))
new_unfailed base (FailedFile path ∷ past) f new =
    ap (λ (b : Bool). cond b true (has_failed base past f)) (not_true _ (λ is. older_than (seen_aged base past path f (the_file (names_after base past path) f is)))) ∙ new_unfailed base past f (omega (arith, new))
  where
    older_than : f.1 ≤ length past → ⊥
    older_than old = omega (arith, new, old)

-- what appends to a part that was just written leave as it is
record AreAsMade (part folder : List ℕ) (old : Past) (effects : List Effect) : Type 0 where
  here : names_after old.base effects part ≡ Some (part, suc (length old.effects))
  unfailed : has_failed old.base effects (part, suc (length old.effects)) ≡ false
  folder_as : folder_has_failed effects folder ≡ folder_has_failed old.effects folder

made_first : (part folder first : List ℕ) (old : Past) → AreAsMade part folder old (Wrote part first ∷ old.effects)
made_first part folder first old = record {
  here = set_here (names_after old.base old.effects) part part (Some (part, suc (length old.effects))) (same_text part);
  unfailed = new_unfailed old.base old.effects (part, suc (length old.effects)) (omega arith);
  folder_as = refl;
}

made_more : (part folder : List ℕ) (old : Past) (effects : List Effect) (e : Effect) → IsAppend part e → AreAsMade part folder old effects → AreAsMade part folder old (e ∷ effects)
made_more part folder old effects (Added path bytes) is made = record {
  here = ap (λ (p : List ℕ). names_after old.base (Added p bytes ∷ effects) part) is ∙ ap (λ (o : Option File). added_to (names_after old.base effects) part (suc (length effects)) o part) made.here ∙ made.here;
  unfailed = made.unfailed;
  folder_as = made.folder_as;
}
made_more part folder old effects (Wrote path bytes) is made = absurd is
made_more part folder old effects (Moved from to) is made = absurd is
made_more part folder old effects (Removed path) is made = absurd is
made_more part folder old effects (SyncedFile path) is made = absurd is
made_more part folder old effects (SyncedFolder other) is made = absurd is
made_more part folder old effects (FailedFile path) is made = absurd is
made_more part folder old effects (FailedFolder other) is made = absurd is

made_all : (part folder first : List ℕ) (old : Past) (pieces : List Effect) → AreAppends part pieces → AreAsMade part folder old (pieces ++ Wrote part first ∷ old.effects)
made_all part folder first old [] each = made_first part folder first old
made_all part folder first old (e ∷ pieces) each = made_more part folder old (pieces ++ Wrote part first ∷ old.effects) e each.0 (made_all part folder first old pieces each.1)

-- what is at a path, after an effect that leaves the bytes of files
stands_moved : (base : Files) (past : List Effect) (from to : List ℕ) (o : Option File) (found : Option (List ℕ)) → Stands base (Moved from to ∷ past) o found → Stands base past o found
stands_moved base past from to None found stands = stands
stands_moved base past from to (Some f) found stands = stands

stands_synced : (base : Files) (past : List Effect) (folder : List ℕ) (o : Option File) (found : Option (List ℕ)) → Stands base (SyncedFolder folder ∷ past) o found → Stands base past o found
stands_synced base past folder None found stands = stands
stands_synced base past folder (Some f) found stands = stands

stands_failed : (base : Files) (past : List Effect) (folder : List ℕ) (o : Option File) (found : Option (List ℕ)) → Stands base (FailedFolder folder ∷ past) o found → Stands base past o found
stands_failed base past folder None found stands = stands
stands_failed base past folder (Some f) found stands = stands

some_text : (a b : List ℕ) → Some a ≡ Some b → a ≡ b
some_text a b is = cc

module _ (part path folder text : List ℕ) (old : Past) (pieces : List Effect) (each : AreAppends part pieces) (off : pointwise nat_eq part path ≡ false)
    (bytes : get (files_of (past_with (with_effect old (Wrote part [])) (SyncedFile part ∷ pieces))) part ≡ Some text) where
  abbrev synced : Past
  synced = past_with (with_effect old (Wrote part [])) (SyncedFile part ∷ pieces)

  abbrev there : Past
  there = with_effect synced (Moved part path)

  abbrev sure : Past
  sure = with_effect there (SyncedFolder folder)

  abbrev made : File
  made = (part, suc (length old.effects))

  as_made : AreAsMade part folder old (pieces ++ Wrote part [] ∷ old.effects)
  as_made = made_all part folder [] old pieces each

  made_bytes : (x : List ℕ) → MayBytes old.base synced.effects made x → x ≡ text
  made_bytes x may =
      may.1 as_made.here as_made.unfailed
      ∙ some_text _ text (ap (option_map (bytes_after old.base synced.effects)) (sym as_made.here) ∙ seen_bytes old.base synced.effects part ∙ bytes)

  made_found : (found : Option (List ℕ)) → Stands old.base synced.effects (Some made) found → found ≡ Some text
  made_found found (x, is, may) = is ∙ ap Some (made_bytes x may)

  -- what was there before, or the text
  abbrev OldOrNew : Option (List ℕ) → Type 0
  OldOrNew found = MayStand old path found ⊎ (found ≡ Some text)

  at_synced : (found : Option (List ℕ)) → MayStand synced path found → OldOrNew found
  at_synced found may = inl (still part old synced.effects (all_begun part [] old (SyncedFile part ∷ pieces) (refl, all_of part pieces each)) path off found may)

  moved_to : (d : Names) → moved d part path (names_after old.base synced.effects part) path ≡ Some made
  moved_to d = ap (λ (o : Option File). moved d part path o path) as_made.here ∙ set_here (set d part None) path path (Some made) (same_text path)

  at_there : (found : Option (List ℕ)) → MayStand there path found → OldOrNew found
  at_there found (m, (d, was, inl same), stands) = at_synced found (d, was, stands_moved old.base synced.effects part path (d path) found (subst (λ (o : Option File). Stands old.base there.effects o found) (same path) stands))
  at_there found (m, (d, was, inr new), stands) =
      inr (made_found found (stands_moved old.base synced.effects part path (Some made) found (subst (λ (o : Option File). Stands old.base there.effects o found) (new path ∙ moved_to d) stands)))

  at_failed : (found : Option (List ℕ)) → MayStand (with_effect there (FailedFolder folder)) path found → OldOrNew found
  at_failed found (m, may, stands) = at_there found (m, may, stands_failed old.base there.effects folder (m path) found stands)

  at_sure : (found : Option (List ℕ)) → MayStand sure path found → OldOrNew found
  at_sure found (m, may, stands) = at_there found (m, may.0, stands_synced old.base there.effects folder (m path) found stands)

  -- once its folder is synced
  sure_found : IsIn folder path → folder_has_failed old.effects folder ≡ false → (found : Option (List ℕ)) → MayStand sure path found → found ≡ Some text
  sure_found is_in unfailed found (m, may, stands) =
      made_found found (stands_moved old.base synced.effects part path (Some made) found (stands_synced old.base there.effects folder (Some made) found
      (subst (λ (o : Option File). Stands old.base sure.effects o found) (may.1 (as_made.folder_as ∙ unfailed) path is_in ∙ moved_to (names_after old.base synced.effects)) stands)))

  abbrev Each : Past → Type 0
  Each = LeavesAsOr old path text

  to_there : Throughout Each synced there
  to_there = record { done = Moved part path ∷ []; all = refl; each = (at_there, at_synced) }

  to_failed : Throughout Each synced (with_effect there (FailedFolder folder))
  to_failed = record { done = FailedFolder folder ∷ Moved part path ∷ []; all = refl; each = (at_failed, (at_there, at_synced)) }

  to_sure : Throughout Each synced sure
  to_sure = record { done = SyncedFolder folder ∷ Moved part path ∷ []; all = refl; each = (at_sure, (at_there, at_synced)) }

  by_run : {A E : Type 0} (new : Past) (r : Result A E) → Runs {A = A} {E = E} (placing part path folder) synced new r → Throughout Each synced new
  by_run new (Ok answer) is = subst (Throughout Each synced) (sym is) to_sure
  by_run new (Err fault) (inl is) = record { done = []; all = is; each = at_synced }
  by_run new (Err fault) (inr (inl (cut, of, is))) = subst (Throughout Each synced) (sym (is ∙ ap (with_effect synced) of)) to_there
  by_run new (Err fault) (inr (inr (inl is))) = subst (Throughout Each synced) (sym is) to_there
  by_run new (Err fault) (inr (inr (inr (inl (cut, of, is))))) = subst (Throughout Each synced) (sym (is ∙ ap (with_effect there) of)) to_failed
  by_run new (Err fault) (inr (inr (inr (inr is)))) = subst (Throughout Each synced) (sym is) to_sure

  folder_same : folder_has_failed sure.effects folder ≡ folder_has_failed old.effects folder
  folder_same = as_made.folder_as

module _ (part path folder text : List ℕ) (old mid new : Past) (off : pointwise nat_eq part path ≡ false) (written : IsWritten part text old mid) where
  whole : get (files_of (past_with (with_effect old (Wrote part [])) (SyncedFile part ∷ written.pieces))) part ≡ Some text
  whole = subst (λ (p : Past). get (files_of p) part ≡ Some text) written.all written.bytes

  pub placed_each : {A E : Type 0} (result : Result A E) → Runs {A = A} {E = E} (placing part path folder) mid new result → Throughout (LeavesAsOr old path text) mid new
  placed_each {A} {E} result runs =
      subst (λ (p : Past). Throughout (LeavesAsOr old path text) p new) (sym written.all)
      (by_run part path folder text old written.pieces written.each off whole {A = A} {E = E} new result (subst (λ (p : Past). Runs {A = A} {E = E} (placing part path folder) p new result) written.all runs))

  ended : {A : Type 0} (E : Type 0) (answer : A) → Runs {A = A} {E = E} (placing part path folder) mid new (Ok answer) → new ≡ sure part path folder text old written.pieces written.each off whole
  ended {A} E answer runs = subst (λ (p : Past). Runs {A = A} {E = E} (placing part path folder) p new (Ok answer)) written.all runs

  pub placed_sure : {A : Type 0} (E : Type 0) (answer : A) → Runs {A = A} {E = E} (placing part path folder) mid new (Ok answer) → IsIn folder path → folder_has_failed old.effects folder ≡ false → IsSure new path (Some text)
  placed_sure {A} E answer runs is_in unfailed = subst (λ (p : Past). IsSure p path (Some text)) (sym (ended E answer runs)) (sure_found part path folder text old written.pieces written.each off whole is_in unfailed)

  pub placed_names : {A : Type 0} (E : Type 0) (answer : A) → Runs {A = A} {E = E} (placing part path folder) mid new (Ok answer) → folder_has_failed new.effects folder ≡ folder_has_failed old.effects folder
  placed_names {A} E answer runs = ap (λ (p : Past). folder_has_failed p.effects folder) (ended E answer runs) ∙ folder_same part path folder text old written.pieces written.each off whole

-- a part that was written is one that is written
pub part_written : (part text : List ℕ) (old new : Past) → IsWritten part text old new → WritesPart part old new
part_written part text old new written = inr ([], SyncedFile part ∷ written.pieces, (refl, all_of part written.pieces written.each), written.all)
