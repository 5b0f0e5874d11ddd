-- Syncs of a file that failed: none has before it is made, and none does by another effect.
use Rattle.std.proofs.Common.{◌≡◌, ◌≢◌, ◌≤◌, ◌<◌, inl, inr, ℕ, suc, Bool, true, false, cond, List, [], ◌∷◌, Option, Some, None, Result, Ok, Err, length, nat_eq, refl, sym, ◌∙◌, ap, subst, arith}
use Rattle.std.specs.Cmp.Lexicographic.{pointwise}
use Rattle.host_folder.specs.Appending.{AllOnlyGrow, IsUnfailed, OnlyGrows, sync_has_failed}
use Rattle.devices.specs.Crash.{File, added_to, has_failed, names_after}
use Rattle.devices.specs.Device.{Files, Effect, Past, Wrote, Added, Moved, Removed, SyncedFile, SyncedFolder, FailedFile, FailedFolder, Does, IsPart, with_effect}
use Rattle.devices.specs.Loss.{failed_in, synced_in, touches}
use Rattle.devices.specs.Moments.{past_with}
use Rattle.devices.specs.Parts.{AreAppends, IsAppend}
use Rattle.devices.proofs.BeforeLemmas.{names_off}
use Rattle.devices.proofs.ByteLemmas.{the_file}
use Rattle.devices.proofs.NameLemmas.{same_text}
use Rattle.devices.proofs.SeenLemmas.{clash, not_true, seen_aged, set_here}
use Rattle.host_folder.proofs.AppendLemmas.{failed_off, grows_part}

-- ---- what leaves it unfailed
pub one_file : (f g : File) → Some f ≡ Some g → f ≡ g
one_file f g is = cc

-- no sync of a file failed before it was made
new_unfailed : (base : Files) (past : List Effect) (f : File) → length past < f.1 → has_failed base past f ≡ false
new_unfailed base [] f new = refl
new_unfailed base (Wrote path bytes ∷ past) f new = new_unfailed base past f (omega (arith, new))
new_unfailed base (Added path bytes ∷ past) f new = new_unfailed base past f (omega (arith, new))
new_unfailed base (Moved from to ∷ past) f new = new_unfailed base past f (omega (arith, new))
new_unfailed base (Removed path ∷ past) f new = new_unfailed base past f (omega (arith, new))
new_unfailed base (SyncedFile path ∷ past) f new = new_unfailed base past f (omega (arith, new))
new_unfailed base (SyncedFolder folder ∷ past) f new = new_unfailed base past f (omega (arith, new))
new_unfailed base (FailedFolder folder ∷ past) f new = new_unfailed base past f (omega (arith, new))
new_unfailed base (FailedFile path ∷ past) f new =
    ap (λ (b : Bool). cond b true (has_failed base past f)) (not_true _ (λ is. too_new (seen_aged base past path f (the_file (names_after base past path) f is)))) ∙ new_unfailed base past f (omega (arith, new))
  where
    too_new : f.1 ≤ length past → ⊥
    too_new old = omega (arith, new, old)

pub made_unfailed : (base : Files) (past : List Effect) (path : List ℕ) (f : File) → Some (path, suc (length past)) ≡ Some f → has_failed base past f ≡ false
made_unfailed base past path f is = subst (λ (g : File). has_failed base past g ≡ false) (one_file (path, suc (length past)) f is) (new_unfailed base past (path, suc (length past)) (omega arith))

added_unfailed : (path bytes : List ℕ) (past : Past) → IsUnfailed path past → IsUnfailed path (with_effect past (Added path bytes))
added_unfailed path bytes past was f at = by (names_after past.base past.effects path) refl at
  where
    by : (o : Option File) → names_after past.base past.effects path ≡ o → added_to (names_after past.base past.effects) path (suc (length past.effects)) o path ≡ Some f → has_failed past.base past.effects f ≡ false
    by (Some g) is same = was f same
    by None is same = made_unfailed past.base past.effects path f (sym (set_here (names_after past.base past.effects) path path (Some (path, suc (length past.effects))) (same_text path)) ∙ same)

unfailed_off : (path : List ℕ) (past : Past) (e : Effect) → touches e path ≡ false → failed_in e ≢ Some path → IsUnfailed path past → IsUnfailed path (with_effect past e)
unfailed_off path past e off differs was f at =
    let seen : names_after past.base past.effects path ≡ Some f = sym (names_off past.base past.effects e path off) ∙ at in
    failed_off past.base past.effects path f seen e differs ∙ was f seen

unfailed_grows : (path : List ℕ) (past : Past) (e : Effect) → OnlyGrows path e → failed_in e ≢ Some path → IsUnfailed path past → IsUnfailed path (with_effect past e)
unfailed_grows path past e (inr off) differs was = unfailed_off path past e off differs was
unfailed_grows path past (Added other bytes) (inl same) differs was = subst (λ (q : List ℕ). IsUnfailed path (with_effect past (Added q bytes))) (sym same) (added_unfailed path bytes past was)
unfailed_grows path past (Wrote other bytes) (inl same) differs was = absurd same
unfailed_grows path past (Moved from to) (inl same) differs was = absurd same
unfailed_grows path past (Removed other) (inl same) differs was = absurd same
unfailed_grows path past (SyncedFile other) (inl same) differs was = absurd same
unfailed_grows path past (SyncedFolder folder) (inl same) differs was = absurd same
unfailed_grows path past (FailedFile other) (inl same) differs was = absurd same
unfailed_grows path past (FailedFolder folder) (inl same) differs was = absurd same

-- a list of effects of which none is a failed sync of it
pub none_is : (path : List ℕ) → None ≢ Some path
none_is path same = cc

neither_failed : (b c : Bool) → cond b true c ≡ false → (b ≡ false) × (c ≡ false)
neither_failed true c is = absurd (cc)
neither_failed false c is = (refl, is)

not_that : (other path : List ℕ) → pointwise nat_eq other path ≡ false → Some other ≢ Some path
not_that other path differs same = clash (pointwise nat_eq other path) (ap (λ (p : List ℕ). pointwise nat_eq p path) (one_path_is other path same) ∙ same_text path) differs
  where
    one_path_is : (a b : List ℕ) → Some a ≡ Some b → a ≡ b
    one_path_is a b is = cc

newest_unfailed : (path : List ℕ) (e : Effect) (done : List Effect) → sync_has_failed (e ∷ done) path ≡ false → (failed_in e ≢ Some path) × (sync_has_failed done path ≡ false)
newest_unfailed path (Wrote other bytes) done none = (none_is path, none)
newest_unfailed path (Added other bytes) done none = (none_is path, none)
newest_unfailed path (Moved from to) done none = (none_is path, none)
newest_unfailed path (Removed other) done none = (none_is path, none)
newest_unfailed path (SyncedFile other) done none = (none_is path, none)
newest_unfailed path (SyncedFolder folder) done none = (none_is path, none)
newest_unfailed path (FailedFile other) done none = let both = neither_failed _ _ none in (not_that other path both.0, both.1)
newest_unfailed path (FailedFolder folder) done none = (none_is path, none)

pub done_unfailed : (path : List ℕ) (past : Past) (done : List Effect) → AllOnlyGrow path done → sync_has_failed done path ≡ false → IsUnfailed path past → IsUnfailed path (past_with past done)
done_unfailed path past [] grow none was = was
done_unfailed path past (e ∷ done) grow none was =
    let newest = newest_unfailed path e done none in
    unfailed_grows path (past_with past done) e grow.0 newest.0 (done_unfailed path past done grow.1 newest.1 was)

pub opened_unfailed : (path : List ℕ) (past : Past) → past.effects ≡ [] → IsUnfailed path past
opened_unfailed path past none = subst (λ (es : List Effect). IsUnfailed path (record past { effects = es })) (sym none) (λ f at. refl)

-- what a call may have done that fails is a failed sync only if the call was a sync
failed_part : (path : List ℕ) (e part : Effect) → IsPart e part → synced_in e ≢ Some path → failed_in e ≢ Some path → failed_in part ≢ Some path
failed_part path (Wrote other bytes) part (n, is) synced failed same = failed (ap failed_in (sym is) ∙ same)
failed_part path (Added other bytes) part (n, is) synced failed same = failed (ap failed_in (sym is) ∙ same)
failed_part path (Moved from to) part is synced failed same = failed (ap failed_in (sym is) ∙ same)
failed_part path (Removed other) part is synced failed same = failed (ap failed_in (sym is) ∙ same)
failed_part path (SyncedFile other) part is synced failed same = synced (ap failed_in (sym is) ∙ same)
failed_part path (SyncedFolder folder) part is synced failed same = failed (ap failed_in (sym is) ∙ same)
failed_part path (FailedFile other) part is synced failed same = failed (ap failed_in (sym is) ∙ same)
failed_part path (FailedFolder folder) part is synced failed same = failed (ap failed_in (sym is) ∙ same)

pub does_unfailed : {A E : Type 0} (path : List ℕ) (e : Effect) (old new : Past) (result : Result A E) → OnlyGrows path e → synced_in e ≢ Some path → failed_in e ≢ Some path → IsUnfailed path old → Does e old new result → IsUnfailed path new
does_unfailed path e old new (Ok answer) grows synced failed was is = subst (IsUnfailed path) (sym is) (unfailed_grows path old e grows failed was)
does_unfailed path e old new (Err fault) grows synced failed was (inl is) = subst (IsUnfailed path) (sym is) was
does_unfailed path e old new (Err fault) grows synced failed was (inr (part, is_part, is)) =
    subst (IsUnfailed path) (sym is) (unfailed_grows path old part (grows_part path e part is_part grows) (failed_part path e part is_part synced failed) was)

pub synced_unfailed : (path : List ℕ) (past : Past) → IsUnfailed path past → IsUnfailed path (with_effect past (SyncedFile path))
synced_unfailed path past was f at = was f at

-- ---- a file that is written
-- no sync of a part failed while it was written
pub first_unfailed : (part first : List ℕ) (old : Past) → IsUnfailed part (with_effect old (Wrote part first))
first_unfailed part first old f at =
    made_unfailed old.base old.effects part f (sym (set_here (names_after old.base old.effects) part part (Some (part, suc (length old.effects))) (same_text part)) ∙ at)

pieces_grow : (part : List ℕ) (pieces : List Effect) → AreAppends part pieces → AllOnlyGrow part pieces
pieces_grow part [] each = tt
pieces_grow part (e ∷ pieces) each = (inl each.0, pieces_grow part pieces each.1)

append_is_no_sync : (path : List ℕ) (e : Effect) (done : List Effect) → IsAppend path e → sync_has_failed (e ∷ done) path ≡ sync_has_failed done path
append_is_no_sync path (Added other bytes) done is = refl
append_is_no_sync path (Wrote other bytes) done is = absurd is
append_is_no_sync path (Moved from to) done is = absurd is
append_is_no_sync path (Removed other) done is = absurd is
append_is_no_sync path (SyncedFile other) done is = absurd is
append_is_no_sync path (SyncedFolder folder) done is = absurd is
append_is_no_sync path (FailedFile other) done is = absurd is
append_is_no_sync path (FailedFolder folder) done is = absurd is

pieces_are_no_syncs : (part : List ℕ) (pieces : List Effect) → AreAppends part pieces → sync_has_failed pieces part ≡ false
pieces_are_no_syncs part [] each = refl
pieces_are_no_syncs part (e ∷ pieces) each = append_is_no_sync part e pieces each.0 ∙ pieces_are_no_syncs part pieces each.1

pub pieces_unfailed : (part : List ℕ) (begun : Past) (pieces : List Effect) → AreAppends part pieces → IsUnfailed part begun → IsUnfailed part (past_with begun pieces)
pieces_unfailed part begun pieces each was = done_unfailed part begun pieces (pieces_grow part pieces each) (pieces_are_no_syncs part pieces each) was
