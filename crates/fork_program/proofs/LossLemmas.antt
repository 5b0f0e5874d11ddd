-- What a loss of power leaves of a journal is what a start repeats.
use Rattle.std.proofs.Common.{◌≡◌, ℕ, false, List, [], ◌∷◌, ◌++◌, Some, refl, sym, ◌∙◌, ap, append_assoc}
use Rattle.chained_log.specs.Log.{log_bytes}
use Rattle.devices.specs.Crash.{MayLeave}
use Rattle.devices.specs.Device.{Files, Past}
use Rattle.fork_frame.specs.declared.frame.Frame.{Frame}
use Rattle.host_folder.specs.Journal.{first_line, journal_file}
use Rattle.host_folder.proofs.AppendLemmas.{appended_left}
use Rattle.fork_program.specs.Synced.{IsJournalOf, IsLeftOf, LossIsRepeated, SyncedIsRepeated}
use Rattle.fork_program.specs.UploadLog.{is_reference}
use Rattle.fork_program.proofs.SyncedLemmas.{behind}

-- a front of bytes that do not begin with a reference does not
front_alone : (front rest : List ℕ) → is_reference (front ++ rest) ≡ false → is_reference front ≡ false
front_alone [] rest alone = refl
front_alone (byte ∷ front) rest alone = alone

-- what is behind the first line
behind_line : (line synced more rest whole : List ℕ) → line ++ whole ≡ ((line ++ synced) ++ more) ++ rest → whole ≡ synced ++ (more ++ rest)
behind_line line synced more rest whole is =
    behind line line whole (synced ++ (more ++ rest)) refl (is ∙ append_assoc (line ++ synced) more rest ∙ append_assoc line synced (more ++ rest))

pub left_of : (past : Past) (left : Files) (name : List ℕ) (frames later : List Frame) → IsJournalOf past name frames later → MayLeave past.base past.effects left → IsLeftOf left name frames later
left_of past left name frames later it may =
    let line = first_line it.standing in
    let synced = log_bytes name it.synced in
    let found = appended_left (journal_file name) (line ++ synced) past it.sure left may in
    let more = found.2.0.0 in
    let rest = found.2.1.0 in
    let seen : it.front ≡ synced ++ (more ++ rest) =
    behind_line line synced more rest it.front (sym it.shown ∙ found.2.1.1 ∙ ap (λ (b : List ℕ). b ++ rest) found.2.0.1) in
    let whole : log_bytes name (it.synced ++ it.others) ≡ synced ++ (more ++ (rest ++ it.rest)) =
    it.whole ∙ ap (λ (b : List ℕ). b ++ it.rest) seen ∙ append_assoc synced (more ++ rest) it.rest ∙ ap (λ (b : List ℕ). synced ++ b) (append_assoc more rest it.rest) in
    record {
      standing = it.standing;
      line = it.line;
      synced = it.synced;
      others = it.others;
      front = more;
      rest = rest ++ it.rest;
      fits = it.fits;
      kept = it.kept;
      whole = whole;
      left = found.1 ∙ ap Some (found.2.0.1 ∙ append_assoc line synced more);
      alone = front_alone (synced ++ more) rest (ap is_reference (append_assoc synced more rest ∙ sym seen) ∙ it.alone);
    }

pub loss_repeated : SyncedIsRepeated → LossIsRepeated
loss_repeated law past left name frames later old new count it may repeated = law left name frames later old new count (left_of past left name frames later it may) repeated
