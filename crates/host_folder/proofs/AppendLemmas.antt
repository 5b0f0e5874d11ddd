-- What a loss of power leaves of a file that is only appended to and synced.
use Rattle.std.proofs.Common.{◌≡◌, ◌≢◌, ◌≤◌, inl, inr, ℕ, suc, Bool, true, false, cond, List, [], ◌∷◌, ◌++◌, Option, Some, Result, Ok, Err, option_map, length, nat_eq, refl, sym, ◌∙◌, ap, subst, arith, append-nil, append_assoc}
use Rattle.std.specs.Cmp.Lexicographic.{pointwise}
use Rattle.std.specs.FinMap.{get}
use Rattle.std.proofs.lemmas.Bool.Decides.{Decides-eqb}
use Rattle.host_folder.specs.Appending.{AllOnlyGrow, IsAppendedTo, IsUnfailed, LeavesFront, OnlyGrows, bytes_at}
use Rattle.devices.specs.Crash.{File, Names, IsFrontFrom, MayBytes, MayNames, Stands, added_to, bytes_after, has_failed, is_file, names_after}
use Rattle.devices.specs.Device.{Files, Effect, Past, Wrote, Added, Moved, Removed, SyncedFile, SyncedFolder, FailedFile, FailedFolder, Does, IsPart, bytes_or_none, files_of, with_effect}
use Rattle.devices.specs.Loss.{failed_in, touches}
use Rattle.devices.specs.Moments.{Throughout, past_with}
use Rattle.devices.specs.Runs.{Runs}
use Rattle.devices.proofs.BeforeLemmas.{before, seen_may}
use Rattle.devices.proofs.ByteLemmas.{same_file, the_file}
use Rattle.devices.proofs.MomentLemmas.{KeptBy, KeptByAll, does_keep, run_throughout, throughout_map}
use Rattle.devices.proofs.NameLemmas.{same_text}
use Rattle.devices.proofs.PartLemmas.{paths_apart}
use Rattle.devices.proofs.SeenLemmas.{clash, not_true, one_path, seen_aged, seen_bytes}

-- ---- fronts
front_more : (least whole bytes more : List ℕ) → IsFrontFrom least whole bytes → IsFrontFrom least (whole ++ more) bytes
front_more least whole bytes more (has, (rest, is)) = (has, (rest ++ more, ap (λ (w : List ℕ). w ++ more) is ∙ append_assoc bytes rest more))

front_less : (low least whole bytes more : List ℕ) → least ≡ low ++ more → IsFrontFrom least whole bytes → IsFrontFrom low whole bytes
front_less low least whole bytes more has ((rest, is), to) = ((more ++ rest, is ∙ ap (λ (l : List ℕ). l ++ rest) has ∙ append_assoc low more rest), to)

front_all : (whole bytes : List ℕ) → bytes ≡ whole → IsFrontFrom whole whole bytes
front_all whole bytes is = (([], is ∙ sym (append-nil whole)), ([], sym is ∙ sym (append-nil bytes)))

-- ---- the bytes of a file
-- a loss of power leaves a front of this file's bytes that has all of these
abbrev pub Fronts : Files → List Effect → File → List ℕ → Type 0
Fronts base past f least = (bytes : List ℕ) → MayBytes base past f bytes → IsFrontFrom least (bytes_after base past f) bytes

not_new : (a n : ℕ) → a ≤ n → a ≡ suc n → ⊥
not_new a n le is = omega (arith, le, is)

module _ (base : Files) (past : List Effect) (path : List ℕ) (f : File) (seen : names_after base past path ≡ Some f) where
  is_old : f.1 ≡ suc (length past) → ⊥
  is_old = not_new f.1 (length past) (seen_aged base past path f seen)

  unmade : nat_eq f.1 (suc (length past)) ≡ false
  unmade = not_true _ (λ same. is_old ((Decides-eqb f.1 (suc (length past))).0 same))

  -- it is at no other path
  alone : (other : List ℕ) → pointwise nat_eq other path ≡ false → names_after base past other ≡ Some f → ⊥
  alone other differs at = clash (pointwise nat_eq other path) (ap (λ (p : List ℕ). pointwise nat_eq p path) (one_path base past other path f at seen) ∙ same_text path) differs

  elsewhere : (other : List ℕ) → pointwise nat_eq other path ≡ false → is_file (names_after base past other) f ≡ false
  elsewhere other differs = not_true _ (λ is. alone other differs (the_file (names_after base past other) f is))

  -- an effect that does not touch its path
  bytes_off : (e : Effect) → touches e path ≡ false → bytes_after base (e ∷ past) f ≡ bytes_after base past f
  bytes_off (Wrote other bytes) off = ap (λ (t : Bool). cond t bytes (bytes_after base past f)) unmade
  bytes_off (Added other bytes) off =
      ap (λ (t : Bool). cond t bytes (cond (is_file (names_after base past other) f) (bytes_after base past f ++ bytes) (bytes_after base past f))) unmade
      ∙ ap (λ (t : Bool). cond t (bytes_after base past f ++ bytes) (bytes_after base past f)) (elsewhere other off)
  bytes_off (Moved from to) off = refl
  bytes_off (Removed other) off = refl
  bytes_off (SyncedFile other) off = refl
  bytes_off (SyncedFolder folder) off = refl
  bytes_off (FailedFile other) off = refl
  bytes_off (FailedFolder folder) off = refl

  may_off : (e : Effect) (x : List ℕ) → touches e path ≡ false → MayBytes base (e ∷ past) f x → MayBytes base past f x
  may_off (Wrote other bytes) x off (inl new) = absurd (is_old new)
  may_off (Wrote other bytes) x off (inr may) = may
  may_off (Added other bytes) x off (inl new) = absurd (is_old new)
  may_off (Added other bytes) x off (inr (inl may)) = may
  may_off (Added other bytes) x off (inr (inr (least, may, at, front))) = absurd (alone other off at)
  may_off (Moved from to) x off may = may
  may_off (Removed other) x off may = may
  may_off (SyncedFile other) x off may = may.0
  may_off (SyncedFolder folder) x off may = may
  may_off (FailedFile other) x off may = may
  may_off (FailedFolder folder) x off may = may

  fronts_off : (e : Effect) (least : List ℕ) → touches e path ≡ false → Fronts base past f least → Fronts base (e ∷ past) f least
  fronts_off e least off fronts x may = subst (λ (w : List ℕ). IsFrontFrom least w x) (sym (bytes_off e off)) (fronts x (may_off e x off may))

  -- an append to it
  bytes_added : (bytes : List ℕ) → bytes_after base (Added path bytes ∷ past) f ≡ bytes_after base past f ++ bytes
  bytes_added bytes =
      ap (λ (t : Bool). cond t bytes (cond (is_file (names_after base past path) f) (bytes_after base past f ++ bytes) (bytes_after base past f))) unmade
      ∙ ap (λ (o : Option File). cond (is_file o f) (bytes_after base past f ++ bytes) (bytes_after base past f)) seen
      ∙ ap (λ (t : Bool). cond t (bytes_after base past f ++ bytes) (bytes_after base past f)) (same_file f)

  front_added : (bytes least : List ℕ) → Fronts base past f least → (x : List ℕ) → MayBytes base (Added path bytes ∷ past) f x → IsFrontFrom least (bytes_after base past f ++ bytes) x
  front_added bytes least fronts x (inl new) = absurd (is_old new)
  front_added bytes least fronts x (inr (inl may)) = front_more least (bytes_after base past f) x bytes (fronts x may)
  front_added bytes least fronts x (inr (inr (low, may, at, front))) =
      let has = (fronts low may).0 in
      front_less least low (bytes_after base past f ++ bytes) x has.0 has.1 front

  fronts_added : (bytes least : List ℕ) → Fronts base past f least → Fronts base (Added path bytes ∷ past) f least
  fronts_added bytes least fronts x may = subst (λ (w : List ℕ). IsFrontFrom least w x) (sym (bytes_added bytes)) (front_added bytes least fronts x may)

  -- a sync of it that was answered
  pub fronts_synced : has_failed base past f ≡ false → Fronts base (SyncedFile path ∷ past) f (bytes_after base past f)
  fronts_synced unfailed x may = front_all (bytes_after base past f) x (may.1 seen unfailed)

  -- a failed sync of another file
  pub failed_off : (e : Effect) → failed_in e ≢ Some path → has_failed base (e ∷ past) f ≡ has_failed base past f
  failed_off (Wrote other bytes) differs = refl
  failed_off (Added other bytes) differs = refl
  failed_off (Moved from to) differs = refl
  failed_off (Removed other) differs = refl
  failed_off (SyncedFile other) differs = refl
  failed_off (SyncedFolder folder) differs = refl
  failed_off (FailedFile other) differs = ap (λ (t : Bool). cond t true (has_failed base past f)) (elsewhere other (paths_apart other path (λ same. differs (ap (λ (p : List ℕ). Some p) same))))
  failed_off (FailedFolder folder) differs = refl

-- ---- what is there, and what is left
module _ (path least : List ℕ) (past : Past) (is : IsAppendedTo path least past) where
  seen_of : names_after past.base past.effects path ≡ Some is.file
  seen_of = is.named (names_after past.base past.effects) (seen_may past.base past.effects)

  shown_of : Some (bytes_after past.base past.effects is.file) ≡ get (files_of past) path
  shown_of = ap (option_map (bytes_after past.base past.effects)) (sym seen_of) ∙ seen_bytes past.base past.effects path

  bytes_are : bytes_after past.base past.effects is.file ≡ bytes_at path past
  bytes_are = ap bytes_or_none shown_of

  pub appended_shown : get (files_of past) path ≡ Some (bytes_at path past)
  appended_shown = sym shown_of ∙ ap (λ (bytes : List ℕ). Some bytes) bytes_are

  left_front : (found : Option (List ℕ)) → Stands past.base past.effects (Some is.file) found → (bytes : List ℕ) × (found ≡ Some bytes) × IsFrontFrom least (bytes_at path past) bytes
  left_front found (bytes, at, may) = (bytes, at, subst (λ (w : List ℕ). IsFrontFrom least w bytes) bytes_are (is.fronts bytes may))

  pub appended_left : LeavesFront path least past
  appended_left left (m, may, stands) = left_front (get left path) (subst (λ (o : Option File). Stands past.base past.effects o (get left path)) (is.named m may) (stands path))

-- ---- effects that leave a front
module _ (path least : List ℕ) where
  appended_off : (p : Past) (e : Effect) → touches e path ≡ false → IsAppendedTo path least p → IsAppendedTo path least (with_effect p e)
  appended_off p e off is = record {
    file = is.file;
    named = λ m may. let was = before p.base p.effects e m may in was.others path off ∙ is.named was.names was.may;
    fronts = fronts_off p.base p.effects path is.file (seen_of path least p is) e least off is.fronts;
  }

  appended_more : (p : Past) (bytes : List ℕ) → IsAppendedTo path least p → IsAppendedTo path least (with_effect p (Added path bytes))
  appended_more p bytes is = record {
    file = is.file;
    named = λ m may. by m may;
    fronts = fronts_added p.base p.effects path is.file (seen_of path least p is) bytes least is.fronts;
  }
    where
      by : (m : Names) → MayNames p.base (Added path bytes ∷ p.effects) m → m path ≡ Some is.file
      by m (d, was, inl same) = same path ∙ is.named d was
      by m (d, was, inr new) = new path ∙ ap (λ (o : Option File). added_to d path (suc (length p.effects)) o path) (seen_of path least p is) ∙ is.named d was

  pub appended_grows : (p : Past) (e : Effect) → OnlyGrows path e → IsAppendedTo path least p → IsAppendedTo path least (with_effect p e)
  appended_grows p e (inr off) is = appended_off p e off is
  appended_grows p (Added other bytes) (inl same) is = subst (λ (q : List ℕ). IsAppendedTo path least (with_effect p (Added q bytes))) (sym same) (appended_more p bytes is)
  appended_grows p (Wrote other bytes) (inl same) is = absurd same
  appended_grows p (Moved from to) (inl same) is = absurd same
  appended_grows p (Removed other) (inl same) is = absurd same
  appended_grows p (SyncedFile other) (inl same) is = absurd same
  appended_grows p (SyncedFolder folder) (inl same) is = absurd same
  appended_grows p (FailedFile other) (inl same) is = absurd same
  appended_grows p (FailedFolder folder) (inl same) is = absurd same

-- what a call that fails may have done
pub grows_part : (path : List ℕ) (e part : Effect) → IsPart e part → OnlyGrows path e → OnlyGrows path part
grows_part path (Wrote other bytes) part (n, is) grows = subst (OnlyGrows path) (sym is) grows
grows_part path (Added other bytes) part (n, is) grows = subst (OnlyGrows path) (sym is) grows
grows_part path (Moved from to) part is grows = subst (OnlyGrows path) (sym is) grows
grows_part path (Removed other) part is grows = subst (OnlyGrows path) (sym is) grows
grows_part path (SyncedFile other) part is grows = subst (OnlyGrows path) (sym is) (inr refl)
grows_part path (SyncedFolder folder) part is grows = subst (OnlyGrows path) (sym is) (inr refl)
grows_part path (FailedFile other) part is grows = subst (OnlyGrows path) (sym is) grows
grows_part path (FailedFolder folder) part is grows = subst (OnlyGrows path) (sym is) grows

module _ (path least : List ℕ) where
  kept_by : (e : Effect) → OnlyGrows path e → KeptBy (IsAppendedTo path least) e
  kept_by e grows = record {
    whole = λ p was. appended_grows path least p e grows was;
    part = λ p part is was. appended_grows path least p part (grows_part path e part is grows) was;
  }

  kept_by_all : (effects : List Effect) → AllOnlyGrow path effects → KeptByAll (IsAppendedTo path least) effects
  kept_by_all [] grow = tt
  kept_by_all (e ∷ effects) grow = (kept_by e grow.0, kept_by_all effects grow.1)

  pub grows_keeps : {A E : Type 0} (e : Effect) (old new : Past) (result : Result A E) → OnlyGrows path e → IsAppendedTo path least old → Does e old new result → IsAppendedTo path least new
  grows_keeps {A} {E} e old new result grows was does = does_keep {A = A} {E = E} (IsAppendedTo path least) e old new result (kept_by e grows) does was

  pub done_keeps : (old : Past) (done : List Effect) → AllOnlyGrow path done → IsAppendedTo path least old → IsAppendedTo path least (past_with old done)
  done_keeps old [] grow was = was
  done_keeps old (e ∷ done) grow was = appended_grows path least (past_with old done) e grow.0 (done_keeps old done grow.1 was)

  pub run_keeps_appended : {A E : Type 0} (effects : List Effect) (old new : Past) (result : Result A E) → AllOnlyGrow path effects → IsAppendedTo path least old → Runs effects old new result → Throughout (IsAppendedTo path least) old new
  run_keeps_appended {A} {E} effects old new result grow was runs = run_throughout (IsAppendedTo path least) {A = A} {E = E} effects old new result (kept_by_all effects grow) runs was

  pub leaves_throughout : (old new : Past) → Throughout (IsAppendedTo path least) old new → Throughout (LeavesFront path least) old new
  leaves_throughout old new all = throughout_map (IsAppendedTo path least) (LeavesFront path least) (λ past is. appended_left path least past is) old new all

-- ---- a sync that was answered
pub appended_synced : (path least : List ℕ) (past : Past) → IsUnfailed path past → IsAppendedTo path least past → IsAppendedTo path (bytes_at path past) (with_effect past (SyncedFile path))
appended_synced path least past unfailed is = record {
  file = is.file;
  named = λ m may. is.named m may;
  fronts = subst (λ (low : List ℕ). Fronts past.base (SyncedFile path ∷ past.effects) is.file low) (bytes_are path least past is) (fronts_synced past.base past.effects path is.file (seen_of path least past is) (unfailed is.file (seen_of path least past is)));
}

-- ---- a device that was opened, and nothing done to it since
opened_base : (base : Files) (path text : List ℕ) → get base path ≡ Some text → IsAppendedTo path text (record { base = base; effects = [] })
opened_base base path text is = record {
  file = (path, 0);
  named = λ m may. may path ∙ ap (option_map (λ (b : List ℕ). (path, 0))) is;
  fronts = λ bytes may. subst (λ (w : List ℕ). IsFrontFrom text w bytes) (sym (ap bytes_or_none is)) (front_all text bytes (may ∙ ap bytes_or_none is));
}

pub opened_appended : (path text : List ℕ) (past : Past) → past.effects ≡ [] → get past.base path ≡ Some text → IsAppendedTo path text past
opened_appended path text past none is = subst (λ (es : List Effect). IsAppendedTo path text (record past { effects = es })) (sym none) (opened_base past.base path text is)

-- ---- the bytes that a read shows
-- there are as many or more behind
abbrev Grown : List ℕ → Past → Past → Type 0
Grown path old new = (more : List ℕ) × (bytes_at path new ≡ bytes_at path old ++ more)

module _ (path least : List ℕ) where
  grown_off : (p : Past) (e : Effect) → touches e path ≡ false → IsAppendedTo path least p → Grown path p (with_effect p e)
  unfolding appended_off
  grown_off p e off is =
      ([], sym (bytes_are path least (with_effect p e) (appended_off path least p e off is)) ∙ bytes_off p.base p.effects path is.file (seen_of path least p is) e off ∙ bytes_are path least p is ∙ sym (append-nil (bytes_at path p)))

  pub added_bytes : (p : Past) (bytes : List ℕ) → IsAppendedTo path least p → bytes_at path (with_effect p (Added path bytes)) ≡ bytes_at path p ++ bytes
  unfolding appended_more
  added_bytes p bytes is =
      sym (bytes_are path least (with_effect p (Added path bytes)) (appended_more path least p bytes is)) ∙ bytes_added p.base p.effects path is.file (seen_of path least p is) bytes ∙ ap (λ (w : List ℕ). w ++ bytes) (bytes_are path least p is)

  grown_one : (p : Past) (e : Effect) → OnlyGrows path e → IsAppendedTo path least p → Grown path p (with_effect p e)
  grown_one p e (inr off) is = grown_off p e off is
  grown_one p (Added other bytes) (inl same) is = subst (λ (q : List ℕ). Grown path p (with_effect p (Added q bytes))) (sym same) (bytes, added_bytes p bytes is)
  grown_one p (Wrote other bytes) (inl same) is = absurd same
  grown_one p (Moved from to) (inl same) is = absurd same
  grown_one p (Removed other) (inl same) is = absurd same
  grown_one p (SyncedFile other) (inl same) is = absurd same
  grown_one p (SyncedFolder folder) (inl same) is = absurd same
  grown_one p (FailedFile other) (inl same) is = absurd same
  grown_one p (FailedFolder folder) (inl same) is = absurd same

  pub does_grow : {A E : Type 0} (e : Effect) (old new : Past) (result : Result A E) → OnlyGrows path e → IsAppendedTo path least old → Does e old new result → Grown path old new
  does_grow e old new (Ok answer) grows was is = subst (Grown path old) (sym is) (grown_one old e grows was)
  does_grow e old new (Err fault) grows was (inl is) = subst (Grown path old) (sym is) ([], sym (append-nil (bytes_at path old)))
  does_grow e old new (Err fault) grows was (inr (part, is_part, is)) = subst (Grown path old) (sym is) (grown_one old part (grows_part path e part is_part grows) was)
