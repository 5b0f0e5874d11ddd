-- A file that is only appended to, over any list of effects: which of its bytes are sure.
use Rattle.std.proofs.Common.{◌≡◌, ℕ, ◌&&◌, not, Bool, true, false, cond, List, [], ◌∷◌, nat_eq, refl, sym, subst}
use Rattle.std.specs.Cmp.Lexicographic.{pointwise}
use Rattle.devices.specs.Device.{Effect, Past, Wrote, Added, Moved, Removed, SyncedFile, SyncedFolder, FailedFile, FailedFolder}
use Rattle.devices.specs.Moments.{past_with}
use Rattle.devices.proofs.NameLemmas.{one_text}
use Rattle.host_folder.specs.Appending.{AllOnlyGrow, IsAppendedTo, IsUnfailed, OnlyGrows, bytes_at, sure_bytes, sync_has_failed}
use Rattle.host_folder.proofs.AppendLemmas.{appended_grows, appended_synced}
use Rattle.host_folder.proofs.UnfailedLemmas.{done_unfailed}

both_are : (a b : Bool) → (a && not b) ≡ true → (a ≡ true) × (b ≡ false)
both_are true false is = (refl, refl)
both_are true true is = absurd (cc)
both_are false b is = absurd (cc)

module _ (path least : List ℕ) (past : Past) (unfailed : IsUnfailed path past) where
  sync_of : (other : List ℕ) (done : List Effect) → AllOnlyGrow path done → IsAppendedTo path (sure_bytes path least past done) (past_with past done)
      → pointwise nat_eq other path ≡ true → sync_has_failed done path ≡ false → IsAppendedTo path (bytes_at path (past_with past done)) (past_with past (SyncedFile other ∷ done))
  sync_of other done grow is same none =
      subst (λ (p : List ℕ). IsAppendedTo path (bytes_at path (past_with past done)) (past_with past (SyncedFile p ∷ done))) (sym (one_text other path same))
      (appended_synced path (sure_bytes path least past done) (past_with past done) (done_unfailed path past done grow none unfailed) is)

  one_more : (e : Effect) (done : List Effect) → OnlyGrows path e → AllOnlyGrow path done → IsAppendedTo path (sure_bytes path least past done) (past_with past done) → IsAppendedTo path (sure_bytes path least past (e ∷ done)) (past_with past (e ∷ done))
  one_more (Wrote other bytes) done grows grow is = appended_grows path (sure_bytes path least past done) (past_with past done) (Wrote other bytes) grows is
  one_more (Added other bytes) done grows grow is = appended_grows path (sure_bytes path least past done) (past_with past done) (Added other bytes) grows is
  one_more (Moved from to) done grows grow is = appended_grows path (sure_bytes path least past done) (past_with past done) (Moved from to) grows is
  one_more (Removed other) done grows grow is = appended_grows path (sure_bytes path least past done) (past_with past done) (Removed other) grows is
  one_more (SyncedFolder folder) done grows grow is = appended_grows path (sure_bytes path least past done) (past_with past done) (SyncedFolder folder) grows is
  one_more (FailedFile other) done grows grow is = appended_grows path (sure_bytes path least past done) (past_with past done) (FailedFile other) grows is
  one_more (FailedFolder folder) done grows grow is = appended_grows path (sure_bytes path least past done) (past_with past done) (FailedFolder folder) grows is
  one_more (SyncedFile other) done grows grow is = by (pointwise nat_eq other path && not (sync_has_failed done path)) refl
    where
      by : (b : Bool) → (pointwise nat_eq other path && not (sync_has_failed done path)) ≡ b → IsAppendedTo path (cond b (bytes_at path (past_with past done)) (sure_bytes path least past done)) (past_with past (SyncedFile other ∷ done))
      by true e = let both = both_are _ _ e in sync_of other done grow is both.0 both.1
      by false e = appended_grows path (sure_bytes path least past done) (past_with past done) (SyncedFile other) grows is

  pub sure_kept : (done : List Effect) → AllOnlyGrow path done → IsAppendedTo path least past → IsAppendedTo path (sure_bytes path least past done) (past_with past done)
  sure_kept [] grow was = was
  sure_kept (e ∷ done) grow was = one_more e done grow.0 grow.1 (sure_kept done grow.1 was)
