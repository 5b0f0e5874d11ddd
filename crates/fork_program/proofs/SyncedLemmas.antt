-- What is repeated of a journal that a loss of power left.
use Rattle.std.proofs.Common.{◌≡◌, ℕ, true, false, List, [], ◌∷◌, ◌++◌, Option, Some, None, length, sym, ap, subst, ◌∙◌, arith, length-append}
use Rattle.std.specs.Prelude.{codes}
use Rattle.std.specs.FinMap.{get}
use Rattle.std.specs.List.{concat}
use Rattle.std.proofs.lemmas.List.Folds.{concat-append}
use Rattle.hex.specs.Hex.{encode_lower, lower_digits}
use Rattle.hex.proofs.HexLemmas.{length-encode_with}
use Rattle.chained_log.specs.Laws.{HasAllContents, SyncedContents}
use Rattle.chained_log.specs.Log.{contents, log_bytes}
use Rattle.chained_log.specs.Reading.{log_contents}
use Rattle.fork_frame.specs.Frame.{AreFrames, IsRequestStream}
use Rattle.fork_frame.specs.Fronts.{FrontIsRead, HasAllFrames}
use Rattle.fork_frame.specs.declared.frame.Frame.{Frame}
use Rattle.fork_frame.specs.declared.session_end.Ended.{Ended}
use Rattle.fork_host.specs.Shown.{HostState}
use Rattle.fork_program.specs.Repeating.{IsJournalRepeated, IsRestRepeated, Plain, Logged}
use Rattle.fork_program.specs.Synced.{AreDoneAgain, SyncedIsRepeated}
use Rattle.fork_program.specs.UploadLog.{is_reference, reference_line}
use Rattle.fork_wire.specs.Again.{IsServedAgain}
use Rattle.fork_wire.specs.Sessions.{IsAnswered}
use Rattle.git_name.specs.Name.{IsName}
use Rattle.host_folder.specs.Journal.{first_line}

-- a first line has 75 bytes
length-first_line : (name : List ℕ) → IsName name → length (first_line name) ≡ 75
length-first_line name right =
    let digits = length-encode_with lower_digits name in
    let long = right.length in
    let all = length-append (encode_lower name) (codes "\n") in
    omega (arith, digits, long, all)

-- two fronts of the same length of the same bytes
pub behind : (a b r s : List ℕ) → length a ≡ length b → a ++ r ≡ b ++ s → r ≡ s
behind [] [] r s same is = is
behind [] (y ∷ b) r s same is = absurd (omega arith)
behind (x ∷ a) [] r s same is = absurd (omega arith)
behind (x ∷ a) (y ∷ b) r s same is =
    let tail : a ++ r ≡ b ++ s = cc in
    let lens : length a ≡ length b = omega arith in
    behind a b r s lens tail

-- what was repeated of a journal that is there
rest_of : (found earlier : Option (List ℕ)) (standing log name : List ℕ) (old new : HostState) (count : ℕ) → IsName standing → found ≡ Some (first_line standing ++ log) → IsJournalRepeated found earlier name old new count
    → IsRestRepeated (Some log) name old new count
rest_of None earlier standing log name old new count line is repeated = absurd (cc)
rest_of (Some text) earlier standing log name old new count line is repeated =
    let same : text ≡ first_line standing ++ log = cc in
    let lens = length-first_line repeated.0 repeated.2 ∙ sym (length-first_line standing line) in
    subst (λ (rest : List ℕ). IsRestRepeated (Some rest) name old new count) (behind (first_line repeated.0) (first_line standing) repeated.1 log lens (sym repeated.3 ∙ same)) repeated.4

refers : (log rest sum : List ℕ) (number len : ℕ) → log ≡ reference_line number len sum ++ rest → is_reference log ≡ true
refers log rest sum number len is = ap is_reference is

-- requests behind its first line were repeated without a log
without_log : (log name : List ℕ) (old new : HostState) (count : ℕ) → is_reference log ≡ false → IsRestRepeated (Some log) name old new count → IsServedAgain old new (Some (log_contents name log)) count
without_log log name old new count alone (Plain none served) = served
without_log log name old new count alone (Logged number len before more sum None mid line first last is) = absurd line
without_log log name old new count alone (Logged number len before more sum (Some rest) mid line first last is) =
    absurd (let both : true ≡ false = sym (refers log rest sum number len line) ∙ alone in cc)

-- the frames that were read are all of the first, and the first of the others
read_frames : FrontIsRead → (name log : List ℕ) (first others : List (List ℕ)) (frames later read : List Frame) (ended : Ended) → HasAllContents name log first others → AreFrames frames (concat first) → AreFrames later (concat others)
    → IsRequestStream (log_contents name log) read ended → HasAllFrames read frames later
read_frames law name log first others frames later read ended all kept also stream =
    let parts = sym also.spelled ∙ ap concat all.parts ∙ concat-append all.found all.lost in
    let whole = all.given ∙ ap (λ (l : List ℕ). l ++ concat all.found) kept.spelled in
    law frames later read (concat all.found) (concat all.lost) ended kept.right also.right parts (subst (λ (input : List ℕ). IsRequestStream input read ended) whole stream)

done_again : (frames later : List Frame) (old new : HostState) (input : Option (List ℕ)) (count : ℕ) (served : IsServedAgain old new input count) → HasAllFrames served.frames frames later → AreDoneAgain frames later old new count
done_again frames later old new input count served all = record {
  found = all.found;
  lost = all.lost;
  parts = all.parts;
  replies = served.replies;
  answered = subst (λ (fs : List Frame). IsAnswered old new fs served.replies) all.all served.answered;
  fine = served.fine;
  number = ap (λ (fs : List Frame). length fs) (sym all.all) ∙ served.number;
}

pub synced_repeated : SyncedContents → FrontIsRead → SyncedIsRepeated
synced_repeated contents_law frames_law shown name frames later old new count it repeated =
    let log = log_bytes name it.synced ++ it.front in
    let served = without_log log name old new count it.alone (rest_of (get shown _) _ it.standing log name old new count it.line it.left repeated) in
    let all = contents_law name it.synced it.others it.front it.rest it.fits.0 it.fits.1 it.whole in
    done_again frames later old new _ count served (read_frames frames_law name log (contents it.synced) (contents it.others) frames later served.frames served.read.0 all it.kept.0 it.kept.1 served.read.1)
