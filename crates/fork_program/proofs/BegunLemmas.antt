-- A journal that is begun, gets its name, and stays when others are cleared.
use Rattle.std.proofs.Common.{◌≡◌, ◌≢◌, inl, inr, ℕ, Bool, true, false, cond, List, [], ◌∷◌, ◌++◌, Option, None, Some, Result, Ok, Err, IfOk, IsTrue, refl, sym, ◌∙◌, ap, subst, nat_eq, drop}
use Rattle.std.specs.Cmp.Lexicographic.{pointwise}
use Rattle.std.specs.FinMap.{contains_key, get, get-remove, insert, remove}
use Rattle.std.specs.Ordering.{eq_by_cmp}
use Rattle.git_name.specs.Name.{name_cmp}
use Rattle.git_name.proofs.Names.{name_total}
use Rattle.std.specs.List.{list_any}
use Rattle.devices.specs.Crash.{HasNoSlash, IsIn, folder_has_failed}
use Rattle.devices.specs.Device.{Effect, Past, Does, Wrote, Added, Moved, Removed, SyncedFile, SyncedFolder, FailedFile, FailedFolder, bytes_or_none, files_of, put_there, with_effect}
use Rattle.devices.specs.Loss.{touches}
use Rattle.devices.specs.Moments.{past_with}
use Rattle.devices.specs.Parts.{AreAppends}
use Rattle.devices.specs.Runs.{Runs}
use Rattle.devices.specs.Sink.{before_appends, past_beside}
use Rattle.devices.specs.declared.device.DeviceFault.{DeviceFault}
use Rattle.devices.proofs.NameLemmas.{neither, one_text, same_text}
use Rattle.devices.proofs.CopyLemmas.{one_key}
use Rattle.devices.proofs.SeenLemmas.{clash}
use Rattle.devices.proofs.SinkLemmas.{appended_to, inserted_here}
use Rattle.host_folder.specs.Appending.{AllOnlyGrow, IsUnfailed, bytes_at, sync_has_failed}
use Rattle.host_folder.specs.Journal.{AllClear, BeginsJournal, Clears, OnlyClears, beginning, first_line, journal_called, journal_file, journal_folder, journal_part, naming, syncing_names}
use Rattle.host_folder.proofs.AppendLemmas.{done_keeps, grows_keeps}
use Rattle.host_folder.proofs.ClearingLemmas.{leaves_names}
use Rattle.host_folder.proofs.OtherLemmas.{called_slashless}
use Rattle.host_folder.proofs.PlacedLemmas.{placed_appended, placed_unfailed}
use Rattle.host_folder.proofs.UnfailedLemmas.{does_unfailed, done_unfailed, first_unfailed, none_is, pieces_unfailed}
use Rattle.fork_program.specs.Journaling.{IsBegun, IsNamed}
use Rattle.fork_program.specs.UploadLog.{log_file}

-- ---- a journal is begun
begun_line : (first : Past) (line : List ℕ) → folder_has_failed first.effects journal_folder ≡ false → IsBegun (with_effect (with_effect first (Wrote journal_part [])) (Added journal_part line))
begun_line first line unfailed = record { first = first; pieces = Added journal_part line ∷ []; each = (refl, tt); all = refl; unfailed = unfailed }

run_begun : (standing : List ℕ) (is_missing : Bool) (mid new : Past) → Runs {A = Unit {0}} {E = DeviceFault} (syncing_names is_missing ++ beginning standing) mid new (Ok tt) → folder_has_failed mid.effects journal_folder ≡ false → IsBegun new
run_begun standing false mid new runs unfailed = subst IsBegun (sym runs) (begun_line (with_effect mid (SyncedFolder journal_folder)) (first_line standing) unfailed)
run_begun standing true mid new runs unfailed = subst IsBegun (sym runs) (begun_line (with_effect (with_effect mid (Wrote journal_part [])) (SyncedFolder journal_folder)) (first_line standing) unfailed)

pub is_begun : (standing : List ℕ) (old mid new : Past) → folder_has_failed old.effects journal_folder ≡ false → OnlyClears standing old mid → BeginsJournal {A = Unit {0}} {E = DeviceFault} standing mid new (Ok tt) → IsBegun new
is_begun standing old mid new unfailed clears did = run_begun standing did.0 mid new did.1 (leaves_names standing journal_folder old mid clears ∙ unfailed)

-- the bytes of a file that was written anew, and of one that was appended to
added_bytes : (past : Past) (path bytes : List ℕ) → bytes_at path (with_effect past (Added path bytes)) ≡ bytes_at path past ++ bytes
added_bytes past path bytes = ap bytes_or_none (inserted_here (files_of past) path (bytes_at path past ++ bytes))

line_bytes : (past : Past) (line : List ℕ) → bytes_at journal_part (with_effect (with_effect past (Wrote journal_part [])) (Added journal_part line)) ≡ line
line_bytes past line = added_bytes (with_effect past (Wrote journal_part [])) journal_part line ∙ ap (λ (o : Option (List ℕ)). bytes_or_none o ++ line) (inserted_here (files_of past) journal_part [])

run_line : (standing : List ℕ) (is_missing : Bool) (mid new : Past) → Runs {A = Unit {0}} {E = DeviceFault} (syncing_names is_missing ++ beginning standing) mid new (Ok tt) → bytes_at journal_part new ≡ first_line standing
run_line standing false mid new runs = ap (bytes_at journal_part) runs ∙ line_bytes (with_effect mid (SyncedFolder journal_folder)) (first_line standing)
run_line standing true mid new runs = ap (bytes_at journal_part) runs ∙ line_bytes (with_effect (with_effect mid (Wrote journal_part [])) (SyncedFolder journal_folder)) (first_line standing)

pub has_line : (standing : List ℕ) (mid new : Past) → BeginsJournal {A = Unit {0}} {E = DeviceFault} standing mid new (Ok tt) → bytes_at journal_part new ≡ first_line standing
has_line standing mid new did = run_line standing did.0 mid new did.1

-- ---- what is appended to it
pub goes_on_by : (old new : Past) (bytes : List ℕ) → new ≡ with_effect old (Added journal_part bytes) → IsBegun old → IsBegun new
goes_on_by old new bytes is begun = record {
  first = begun.first;
  pieces = Added journal_part bytes ∷ begun.pieces;
  each = (refl, begun.each);
  all = is ∙ ap (λ (p : Past). with_effect p (Added journal_part bytes)) begun.all;
  unfailed = begun.unfailed;
}

pub has_more : (old new : Past) (bytes : List ℕ) → new ≡ with_effect old (Added journal_part bytes) → bytes_at journal_part new ≡ bytes_at journal_part old ++ bytes
has_more old new bytes is = ap (bytes_at journal_part) is ∙ added_bytes old journal_part bytes

append_off : (path other bytes : List ℕ) (past : List Effect) → other ≡ path → before_appends path (Added other bytes ∷ past) ≡ before_appends path past
append_off path other bytes past is =
    ap (λ (b : Bool). cond b (before_appends path past) (Added other bytes ∷ past)) (ap (λ (p : List ℕ). pointwise nat_eq p path) is ∙ same_text path)

stripped : (path : List ℕ) (first : Past) (pieces : List Effect) → AreAppends path pieces → before_appends path (pieces ++ Wrote path [] ∷ first.effects) ≡ Wrote path [] ∷ first.effects
stripped path first [] each = refl
stripped path first (Added other bytes ∷ pieces) each = append_off path other bytes (pieces ++ Wrote path [] ∷ first.effects) each.0 ∙ stripped path first pieces each.1
stripped path first (Wrote other bytes ∷ pieces) each = absurd each.0
stripped path first (Moved from to ∷ pieces) each = absurd each.0
stripped path first (Removed other ∷ pieces) each = absurd each.0
stripped path first (SyncedFile other ∷ pieces) each = absurd each.0
stripped path first (SyncedFolder folder ∷ pieces) each = absurd each.0
stripped path first (FailedFile other ∷ pieces) each = absurd each.0
stripped path first (FailedFolder folder ∷ pieces) each = absurd each.0

-- nothing but appends to it was done
pub goes_on : (b c : Bool) (old new : Past) → IsTrue b → c ≡ b → past_beside c new journal_part ≡ past_beside b old journal_part → IsBegun old → IsBegun new
goes_on b c old new honest same beside begun =
    let start = with_effect begun.first (Wrote journal_part []) in
    let both : past_beside true new journal_part ≡ past_beside true old journal_part =
    ap (λ (d : Bool). past_beside d new journal_part) (sym (same ∙ honest)) ∙ beside ∙ ap (λ (d : Bool). past_beside d old journal_part) honest in
    let was : past_beside true old journal_part ≡ past_beside true start journal_part =
    ap (λ (p : Past). past_beside true p journal_part) begun.all ∙ ap (λ (es : List Effect). Some (record start { effects = es })) (stripped journal_part begun.first begun.pieces begun.each) in
    let appended = appended_to true true journal_part begun.first start new refl refl refl (both ∙ was) in
    record { first = begun.first; pieces = appended.pieces; each = appended.each; all = appended.all; unfailed = begun.unfailed }

-- the same of a writer's path
pub goes_on_at : (b c : Bool) (old new : Past) (p q : List ℕ) → IsTrue b → p ≡ journal_part → q ≡ p → c ≡ b → past_beside c new q ≡ past_beside b old p → IsBegun old → IsBegun new
goes_on_at b c old new p q honest at path same beside begun =
    goes_on b c old new honest same (ap (past_beside c new) (sym (path ∙ at)) ∙ beside ∙ ap (past_beside b old) at) begun

-- ---- it gets its name
pieces_names : (effects pieces : List Effect) (path folder : List ℕ) → AreAppends path pieces → folder_has_failed (pieces ++ effects) folder ≡ folder_has_failed effects folder
pieces_names effects [] path folder each = refl
pieces_names effects (Added other bytes ∷ pieces) path folder each = pieces_names effects pieces path folder each.1
pieces_names effects (Wrote other bytes ∷ pieces) path folder each = absurd each.0
pieces_names effects (Moved from to ∷ pieces) path folder each = absurd each.0
pieces_names effects (Removed other ∷ pieces) path folder each = absurd each.0
pieces_names effects (SyncedFile other ∷ pieces) path folder each = absurd each.0
pieces_names effects (SyncedFolder other ∷ pieces) path folder each = absurd each.0
pieces_names effects (FailedFile other ∷ pieces) path folder each = absurd each.0
pieces_names effects (FailedFolder other ∷ pieces) path folder each = absurd each.0

-- a read shows it
there : (path : List ℕ) (first : Past) (pieces : List Effect) → AreAppends path pieces → (x : List ℕ) × (get (files_of (past_with (with_effect first (Wrote path [])) pieces)) path ≡ Some x)
there path first [] each = ([], inserted_here (files_of first) path [])
there path first (Added other bytes ∷ pieces) each =
    let before = files_of (past_with (with_effect first (Wrote path [])) pieces) in
    (bytes_or_none (get before other) ++ bytes, ap (λ (p : List ℕ). get (insert before other (bytes_or_none (get before other) ++ bytes)) p) (sym each.0) ∙ inserted_here before other (bytes_or_none (get before other) ++ bytes))
there path first (Wrote other bytes ∷ pieces) each = absurd each.0
there path first (Moved from to ∷ pieces) each = absurd each.0
there path first (Removed other ∷ pieces) each = absurd each.0
there path first (SyncedFile other ∷ pieces) each = absurd each.0
there path first (SyncedFolder folder ∷ pieces) each = absurd each.0
there path first (FailedFile other ∷ pieces) each = absurd each.0
there path first (FailedFolder folder ∷ pieces) each = absurd each.0

begun_shown : (past : Past) → IsBegun past → get (files_of past) journal_part ≡ Some (bytes_at journal_part past)
begun_shown past begun =
    let found = there journal_part begun.first begun.pieces begun.each in
    let is : get (files_of past) journal_part ≡ Some found.0 = ap (λ (p : Past). get (files_of p) journal_part) begun.all ∙ found.1 in
    is ∙ ap Some (sym (ap bytes_or_none is))

begun_unfailed : (past : Past) → IsBegun past → IsUnfailed journal_part past
begun_unfailed past begun =
    subst (IsUnfailed journal_part) (sym begun.all) (pieces_unfailed journal_part (with_effect begun.first (Wrote journal_part [])) begun.pieces begun.each (first_unfailed journal_part [] begun.first))

names_unfailed : (past : Past) → IsBegun past → folder_has_failed past.effects journal_folder ≡ false
names_unfailed past begun =
    ap (λ (p : Past). folder_has_failed p.effects journal_folder) begun.all ∙ pieces_names (Wrote journal_part [] ∷ begun.first.effects) begun.pieces journal_part journal_folder begun.each ∙ begun.unfailed

moved_bytes : (name : List ℕ) (old new : Past) → IsBegun old → Runs {A = Unit {0}} {E = DeviceFault} (naming name) old new (Ok tt) → bytes_at (journal_file name) new ≡ bytes_at journal_part old
moved_bytes name old new begun runs =
    let files = remove (files_of old) journal_part in
    ap (bytes_at (journal_file name)) runs ∙ ap (λ (o : Option (List ℕ)). bytes_or_none (get (put_there files (journal_file name) o) (journal_file name))) (begun_shown old begun)
    ∙ ap bytes_or_none (inserted_here files (journal_file name) (bytes_at journal_part old))

not_slash : (b : ℕ) → nat_eq b 47 ≡ false → b ≢ 47
not_slash b differs same = clash (nat_eq b 47) (ap (λ (n : ℕ). nat_eq n 47) same) differs

slashless : (bytes : List ℕ) → list_any (λ b. nat_eq b 47) bytes ≡ false → HasNoSlash bytes
slashless [] none = tt
slashless (b ∷ bytes) none = let both = neither (nat_eq b 47) (list_any (λ b. nat_eq b 47) bytes) none in (not_slash b both.0, slashless bytes both.1)

-- a journal is in the folder of journals
is_inside : (name : List ℕ) → IsIn journal_folder (journal_file name)
is_inside name = (journal_called name, refl, slashless (journal_called name) (called_slashless name))

pub named : (name : List ℕ) (old new : Past) → IsBegun old → Runs {A = Unit {0}} {E = DeviceFault} (naming name) old new (Ok tt) → IsNamed name (bytes_at journal_part old) new
named name old new begun runs = record {
  shown = moved_bytes name old new begun runs;
  kept = placed_appended journal_part (journal_file name) journal_folder (bytes_at journal_part old) old new (begun_unfailed old begun) (begun_shown old begun) DeviceFault (tt {0}) runs (is_inside name) (names_unfailed old begun);
  unfailed = placed_unfailed journal_part (journal_file name) journal_folder (bytes_at journal_part old) old new (begun_unfailed old begun) (begun_shown old begun) DeviceFault (tt {0}) runs;
}

-- ---- others are cleared
apart : (a b : List ℕ) → a ≢ b → pointwise nat_eq a b ≡ false
apart a b differs = by (pointwise nat_eq a b) refl
  where
    by : (t : Bool) → pointwise nat_eq a b ≡ t → pointwise nat_eq a b ≡ false
    by false is = is
    by true is = absurd (differs (one_text a b is))

clear_grows : (is_there : Bool) (name : List ℕ) (e : Effect) → Clears is_there name e → touches e (journal_file name) ≡ false
clear_grows is_there name (Removed path) (called, inside, other) = apart path (journal_file name) (λ same. other.other (ap (drop 8) (sym inside ∙ same)))
clear_grows is_there name (Wrote path bytes) clears = absurd clears
clear_grows is_there name (Added path bytes) clears = absurd clears
clear_grows is_there name (Moved from to) clears = absurd clears
clear_grows is_there name (SyncedFile path) clears = absurd clears
clear_grows is_there name (SyncedFolder folder) clears = absurd clears
clear_grows is_there name (FailedFile path) clears = absurd clears
clear_grows is_there name (FailedFolder folder) clears = absurd clears

all_grow : (is_there : Bool) (name : List ℕ) (done : List Effect) → AllClear is_there name done → AllOnlyGrow (journal_file name) done
all_grow is_there name [] clear = tt
all_grow is_there name (e ∷ done) clear = (inr (clear_grows is_there name e clear.0), all_grow is_there name done clear.1)

none_failed : (is_there : Bool) (name : List ℕ) (done : List Effect) → AllClear is_there name done → sync_has_failed done (journal_file name) ≡ false
none_failed is_there name [] clear = refl
none_failed is_there name (Removed path ∷ done) clear = none_failed is_there name done clear.1
none_failed is_there name (Wrote path bytes ∷ done) clear = absurd clear.0
none_failed is_there name (Added path bytes ∷ done) clear = absurd clear.0
none_failed is_there name (Moved from to ∷ done) clear = absurd clear.0
none_failed is_there name (SyncedFile path ∷ done) clear = absurd clear.0
none_failed is_there name (SyncedFolder folder ∷ done) clear = absurd clear.0
none_failed is_there name (FailedFile path ∷ done) clear = absurd clear.0
none_failed is_there name (FailedFolder folder ∷ done) clear = absurd clear.0

-- the bytes of another file
off_key : (path other : List ℕ) → pointwise nat_eq path other ≡ false → eq_by_cmp name_cmp other path ≡ false
off_key path other off = by (eq_by_cmp name_cmp other path) refl
  where
    by : (b : Bool) → eq_by_cmp name_cmp other path ≡ b → eq_by_cmp name_cmp other path ≡ false
    by false is = is
    by true is = clash (pointwise nat_eq path other) (ap (pointwise nat_eq path) (one_key other path is) ∙ same_text path) off

bytes_off : (path other : List ℕ) (past : Past) → pointwise nat_eq path other ≡ false → bytes_at other (with_effect past (Removed path)) ≡ bytes_at other past
bytes_off path other past off = ap bytes_or_none (get-remove name_total (files_of past) path other ∙ ap (λ (b : Bool). cond b None (get (files_of past) other)) (off_key path other off))

bytes_cleared : (is_there : Bool) (name : List ℕ) (old : Past) (done : List Effect) → AllClear is_there name done → bytes_at (journal_file name) (past_with old done) ≡ bytes_at (journal_file name) old
bytes_cleared is_there name old [] clear = refl
bytes_cleared is_there name old (Removed path ∷ done) clear = bytes_off path (journal_file name) (past_with old done) (clear_grows is_there name (Removed path) clear.0) ∙ bytes_cleared is_there name old done clear.1
bytes_cleared is_there name old (Wrote path bytes ∷ done) clear = absurd clear.0
bytes_cleared is_there name old (Added path bytes ∷ done) clear = absurd clear.0
bytes_cleared is_there name old (Moved from to ∷ done) clear = absurd clear.0
bytes_cleared is_there name old (SyncedFile path ∷ done) clear = absurd clear.0
bytes_cleared is_there name old (SyncedFolder folder ∷ done) clear = absurd clear.0
bytes_cleared is_there name old (FailedFile path ∷ done) clear = absurd clear.0
bytes_cleared is_there name old (FailedFolder folder ∷ done) clear = absurd clear.0

pub cleared : (name text : List ℕ) (old new : Past) → OnlyClears name old new → IsNamed name text old → IsNamed name text new
cleared name text old new (done, clear, is) was =
    let is_there = contains_key (files_of old) (journal_file name) in
    subst (IsNamed name text) (sym is) (record {
      shown = bytes_cleared is_there name old done clear ∙ was.shown;
      kept = done_keeps (journal_file name) text old done (all_grow is_there name done clear) was.kept;
      unfailed = done_unfailed (journal_file name) old done (all_grow is_there name done clear) (none_failed is_there name done clear) was.unfailed;
    })

-- a log of uploads is removed
bytes_stay : {A E : Type 0} (name : List ℕ) (number : ℕ) (old new : Past) (result : Result A E) → Does (Removed (log_file number)) old new result → bytes_at (journal_file name) new ≡ bytes_at (journal_file name) old
bytes_stay name number old new (Ok answer) is = ap (bytes_at (journal_file name)) is ∙ bytes_off (log_file number) (journal_file name) old refl
bytes_stay name number old new (Err fault) (inl is) = ap (bytes_at (journal_file name)) is
bytes_stay name number old new (Err fault) (inr (part, is_part, is)) =
    ap (bytes_at (journal_file name)) (is ∙ ap (λ (e : Effect). with_effect old e) is_part) ∙ bytes_off (log_file number) (journal_file name) old refl

pub log_removed : {A E : Type 0} (name text : List ℕ) (number : ℕ) (old new : Past) (result : Result A E) → Does (Removed (log_file number)) old new result → IsNamed name text old → IsNamed name text new
log_removed name text number old new result does was = record {
  shown = bytes_stay name number old new result does ∙ was.shown;
  kept = grows_keeps (journal_file name) text (Removed (log_file number)) old new result (inr refl) was.kept does;
  unfailed = does_unfailed (journal_file name) (Removed (log_file number)) old new result (inr refl) (none_is (journal_file name)) (none_is (journal_file name)) was.unfailed does;
}

-- a number that is told
pub if_ok_at : {E : Type 0} (P : ℕ → Type 0) (r : Result ℕ E) (n : ℕ) → P n → IfOk r (λ a. a ≡ n) → IfOk r P
if_ok_at P (Ok a) n holds is = subst P (sym is) holds
if_ok_at P (Err e) n holds is = tt
