-- What is sure to be kept of a file: what was seen at its last sync.
use Rattle.std.proofs.Common.{◌≡◌, inl, inr, ℕ, suc, Bool, true, false, cond, nat_eq, List, [], ◌∷◌, ◌++◌, Option, Some, None, Result, Ok, Err, IfOk, OnOk, IsTrue, length, refl, sym, ◌∙◌, ap, subst, option_map, append_assoc, append-nil}
use Rattle.std.proofs.lemmas.Bool.Decides.{Decides-eqb}
use Rattle.std.specs.FinMap.{get}
use Rattle.std.specs.Io.KnownBytes.{Keeps}
use Rattle.devices.specs.Crash.{File, bytes_after, has_failed, is_file, names_after}
use Rattle.devices.specs.Device.{Effect, Files, Past, Does, Wrote, Added, Moved, Removed, SyncedFile, SyncedFolder, FailedFile, FailedFolder, bytes_or_none, files_after, files_of, with_effect}
use Rattle.devices.specs.Sink.{bytes_known}
use Rattle.devices.proofs.ByteLemmas.{same_file, the_file}
use Rattle.devices.proofs.SeenLemmas.{seen_bytes}
use Rattle.chained_log.specs.Synced.{SyncedStays, synced_bytes, synced_known, synced_of}

-- ---- a sync changes no byte
kept_by : {T E : Type 0} (old new : Past) (path : List ℕ) (answer : Result T E) → Does (SyncedFile path) old new answer → bytes_or_none (get (files_of new) path) ≡ bytes_or_none (get (files_of old) path)
kept_by old new path (Ok value) is = ap (λ (p : Past). bytes_or_none (get (files_of p) path)) is
kept_by old new path (Err fault) (inl is) = ap (λ (p : Past). bytes_or_none (get (files_of p) path)) is
kept_by old new path (Err fault) (inr (part, of, is)) = ap (λ (p : Past). bytes_or_none (get (files_of p) path)) (is ∙ ap (with_effect old) of)

pub sync_keeps : {T E : Type 0} (b c : Bool) (old new : Past) (path : List ℕ) (answer : Result T E) → c ≡ b → (IsTrue b → Does (SyncedFile path) old new answer) → Keeps (bytes_known b old path) (bytes_known c new path)
sync_keeps false c old new path answer same does = tt
sync_keeps true c old new path answer same does = subst (λ (d : Bool). Keeps (bytes_known true old path) (bytes_known d new path)) (sym same) (kept_by old new path answer (does refl))

-- ---- after a sync what is seen is kept
known_seen : (failed here : Bool) (seen before now : List ℕ) → here ≡ true → now ≡ seen → Keeps (cond failed None (Some (cond here seen before))) (Some now)
known_seen true here seen before now is same = tt
known_seen false here seen before now is same = same ∙ ap (λ (b : Bool). cond b seen before) (sym is)

seen_of : (base : Files) (past : List Effect) (path : List ℕ) (file : Option File) → names_after base past path ≡ file → get (files_after base past) path ≡ option_map (bytes_after base past) file
seen_of base past path file is = sym (seen_bytes base past path) ∙ ap (option_map (bytes_after base past)) is

synced_seen : (base : Files) (past : List Effect) (path : List ℕ) (file : Option File) → names_after base past path ≡ file
    → Keeps (synced_of base (SyncedFile path ∷ past) file) (Some (bytes_or_none (get (files_after base past) path)))
synced_seen base past path None is = ap bytes_or_none (seen_of base past path None is)
synced_seen base past path (Some file) is =
    known_seen (has_failed base past file) (is_file (names_after base past path) file) (bytes_after base past file) (synced_bytes base past file) (bytes_or_none (get (files_after base past) path))
    (ap (λ (o : Option File). is_file o file) is ∙ same_file file) (ap bytes_or_none (seen_of base past path (Some file) is))

synced_as : (b c : Bool) (old new : Past) (path : List ℕ) → c ≡ b → (IsTrue b → new ≡ with_effect old (SyncedFile path)) → Keeps (synced_known c new path) (bytes_known c new path)
synced_as false c old new path same is = subst (λ (d : Bool). Keeps (synced_known d new path) (bytes_known d new path)) (sym same) tt
synced_as true c old new path same is =
    subst (λ (d : Bool). Keeps (synced_known d new path) (bytes_known d new path)) (sym same)
    (subst (λ (p : Past). Keeps (synced_known true p path) (bytes_known true p path)) (sym (is refl)) (synced_seen old.base old.effects path (names_after old.base old.effects path) refl))

pub synced_now : {T E F : Type 0} (b c : Bool) (old new : Past) (path : List ℕ) (answer : Result T F) (result : Result T E) → c ≡ b → (IsTrue b → Does (SyncedFile path) old new answer) → IfOk result (λ value. answer ≡ Ok value)
    → OnOk result (Keeps (synced_known c new path) (bytes_known c new path))
synced_now {T} {E} {F} b c old new path answer (Err fault) same does passed = tt
synced_now {T} {E} {F} b c old new path answer (Ok value) same does passed =
    synced_as b c old new path same (λ honest. subst (λ (r : Result T F). Does (SyncedFile path) old new r) passed (does honest))

-- ---- what a loss of power leaves begins with what is sure to be kept
-- a text with this front
abbrev Begins : List ℕ → List ℕ → Type 0
Begins front x = (more : List ℕ) × (x ≡ front ++ more)

all_of : (front x : List ℕ) → x ≡ front → Begins front x
all_of front x is = ([], is ∙ sym (append-nil front))

no_front : (b : Bool) (front x : List ℕ) → b ≡ true → Begins (cond b [] front) x
no_front b front x is = (x, ap (λ (c : Bool). cond c [] front ++ x) (sym is))

old_front : (b : Bool) (front x : List ℕ) → Begins front x → Begins (cond b [] front) x
old_front true front x begins = (x, refl)
old_front false front x begins = begins

more_front : (front least x : List ℕ) → Begins front least → Begins least x → Begins front x
more_front front least x first second = (first.0 ++ second.0, second.1 ∙ ap (λ l. l ++ second.0) first.1 ∙ append_assoc front first.0 second.0)

seen_front : (base : Files) (past : List Effect) (path : List ℕ) (file : File) (x seen before : List ℕ) (b : Bool) → is_file (names_after base past path) file ≡ b
    → (names_after base past path ≡ Some file → x ≡ seen) → Begins before x → Begins (cond b seen before) x
seen_front base past path file x seen before true is kept begins = all_of seen x (kept (the_file (names_after base past path) file is))
seen_front base past path file x seen before false is kept begins = begins

not_failed : (b h : Bool) → cond b true h ≡ false → h ≡ false
not_failed true h is = (let no : ⊥ = cc in absurd no)
not_failed false h is = is

new_number : (file : File) (n : ℕ) → file.1 ≡ n → nat_eq file.1 n ≡ true
new_number file n is = (Decides-eqb file.1 n).1 is

pub synced_stays : SyncedStays
synced_stays base [] file x well may = all_of (bytes_or_none (get base file.0)) x may
synced_stays base (Wrote path bytes ∷ past) file x well (inl new) = no_front (nat_eq file.1 (suc (length past))) (synced_bytes base past file) x (new_number file (suc (length past)) new)
synced_stays base (Wrote path bytes ∷ past) file x well (inr may) = old_front (nat_eq file.1 (suc (length past))) (synced_bytes base past file) x (synced_stays base past file x well may)
synced_stays base (Added path bytes ∷ past) file x well (inl new) = no_front (nat_eq file.1 (suc (length past))) (synced_bytes base past file) x (new_number file (suc (length past)) new)
synced_stays base (Added path bytes ∷ past) file x well (inr (inl may)) = old_front (nat_eq file.1 (suc (length past))) (synced_bytes base past file) x (synced_stays base past file x well may)
synced_stays base (Added path bytes ∷ past) file x well (inr (inr (least, may, has, parts))) =
    old_front (nat_eq file.1 (suc (length past))) (synced_bytes base past file) x (more_front (synced_bytes base past file) least x (synced_stays base past file least well may) parts.0)
synced_stays base (Moved from to ∷ past) file x well may = synced_stays base past file x well may
synced_stays base (Removed path ∷ past) file x well may = synced_stays base past file x well may
synced_stays base (SyncedFile path ∷ past) file x well (may, kept) =
    seen_front base past path file x (bytes_after base past file) (synced_bytes base past file) (is_file (names_after base past path) file) refl (λ has. kept has well) (synced_stays base past file x well may)
synced_stays base (SyncedFolder folder ∷ past) file x well may = synced_stays base past file x well may
synced_stays base (FailedFile path ∷ past) file x well may = synced_stays base past file x (not_failed (is_file (names_after base past path) file) (has_failed base past file) well) may
synced_stays base (FailedFolder folder ∷ past) file x well may = synced_stays base past file x well may
