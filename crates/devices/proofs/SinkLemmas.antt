-- What appends to a file of a device do, and what they leave.
use Rattle.std.proofs.Common.{◌≡◌, inl, inr, ℕ, Bool, true, false, cond, List, [], ◌∷◌, ◌++◌, Option, Some, Result, Ok, Err, IfOk, OnOk, IsTrue, refl, sym, ◌∙◌, ap, subst, nat_eq, take}
use Rattle.std.specs.Cmp.{eq_by_cmp_equiv}
use Rattle.std.specs.Cmp.Lexicographic.{pointwise}
use Rattle.std.specs.FinMap.{get, insert, get-insert}
use Rattle.std.specs.Io.KnownBytes.{Appends}
use Rattle.git_name.proofs.Names.{name_total}
use Rattle.devices.specs.Device.{Files, Effect, Past, Does, Wrote, Added, Moved, Removed, SyncedFile, SyncedFolder, FailedFile, FailedFolder, bytes_or_none, files_of, with_effect}
use Rattle.devices.specs.Moments.{past_with}
use Rattle.devices.specs.Parts.{AreAppends, IsWritten, WritesPart}
use Rattle.devices.specs.Sink.{before_appends, bytes_known, past_beside}
use Rattle.devices.proofs.NameLemmas.{one_text, same_text}
use Rattle.devices.proofs.PartLemmas.{all_of}

pub inserted_here : (files : Files) (path bytes : List ℕ) → get (insert files path bytes) path ≡ Some bytes
inserted_here files path bytes = get-insert name_total files path bytes path ∙ ap (λ (b : Bool). cond b (Some bytes) (get files path)) ((eq_by_cmp_equiv name_total).refl path)

-- the bytes of the file after an append
grown : (old : Past) (path bytes : List ℕ) → bytes_or_none (get (files_of (with_effect old (Added path bytes))) path) ≡ bytes_or_none (get (files_of old) path) ++ bytes
grown old path bytes = ap bytes_or_none (inserted_here (files_of old) path (bytes_or_none (get (files_of old) path) ++ bytes))

known_as : (b c : Bool) (old new : Past) (path bytes : List ℕ) → c ≡ b → (IsTrue b → new ≡ with_effect old (Added path bytes)) → Appends (bytes_known b old path) (bytes_known c new path) bytes
known_as false c old new path bytes same is = tt
known_as true c old new path bytes same is =
    subst (λ (d : Bool). Appends (bytes_known true old path) (bytes_known d new path) bytes) (sym same) (ap (λ (p : Past). bytes_or_none (get (files_of p) path)) (is refl) ∙ grown old path bytes)

-- an append that succeeds
pub appended : {T E F : Type 0} (b c : Bool) (old new : Past) (path bytes : List ℕ) (answer : Result T F) (result : Result T E) → c ≡ b → (IsTrue b → Does (Added path bytes) old new answer) → IfOk result (λ value. answer ≡ Ok value)
    → OnOk result (Appends (bytes_known b old path) (bytes_known c new path) bytes)
appended {T} {E} {F} b c old new path bytes answer (Err fault) same does passed = tt
appended {T} {E} {F} b c old new path bytes answer (Ok value) same does passed =
    known_as b c old new path bytes same (λ honest. subst (λ (r : Result T F). Does (Added path bytes) old new r) passed (does honest))

-- an append of any bytes is not among what was done beside
beside_as : (old : Past) (path bytes : List ℕ) → past_beside true (with_effect old (Added path bytes)) path ≡ past_beside true old path
beside_as old path bytes = ap (λ (b : Bool). Some (record old { effects = cond b (before_appends path old.effects) (Added path bytes ∷ old.effects) })) (same_text path)

beside_done : {T E : Type 0} (old new : Past) (path bytes : List ℕ) (answer : Result T E) → Does (Added path bytes) old new answer → past_beside true new path ≡ past_beside true old path
beside_done old new path bytes (Ok value) is = ap (λ (p : Past). past_beside true p path) is ∙ beside_as old path bytes
beside_done old new path bytes (Err fault) (inl is) = ap (λ (p : Past). past_beside true p path) is
beside_done old new path bytes (Err fault) (inr (part, (n, of), is)) =
    ap (λ (p : Past). past_beside true p path) is ∙ ap (λ (e : Effect). past_beside true (with_effect old e) path) of ∙ beside_as old path (take n bytes)

pub beside_kept : {T E : Type 0} (b c : Bool) (old new : Past) (path bytes : List ℕ) (answer : Result T E) → c ≡ b → (IsTrue b → Does (Added path bytes) old new answer) → past_beside c new path ≡ past_beside b old path
beside_kept true c old new path bytes answer same does = ap (λ (d : Bool). past_beside d new path) same ∙ beside_done old new path bytes answer (does refl)
beside_kept false c old new path bytes answer same does = ap (λ (d : Bool). past_beside d new path) same

-- ---- a part to which a sink appends
-- the appends at the end, and what was before them
record IsSplit (path : List ℕ) (effects : List Effect) : Type 0 where
  pieces : List Effect
  each : AreAppends path pieces
  parts : effects ≡ pieces ++ before_appends path effects

none_split : (path : List ℕ) (effects : List Effect) → effects ≡ before_appends path effects → IsSplit path effects
none_split path effects is = record { pieces = []; each = tt; parts = is }

split_appends : (path : List ℕ) (effects : List Effect) → IsSplit path effects
split_appends path [] = none_split path [] refl
split_appends path (Wrote other bytes ∷ past) = none_split path (Wrote other bytes ∷ past) refl
split_appends path (Moved from to ∷ past) = none_split path (Moved from to ∷ past) refl
split_appends path (Removed other ∷ past) = none_split path (Removed other ∷ past) refl
split_appends path (SyncedFile other ∷ past) = none_split path (SyncedFile other ∷ past) refl
split_appends path (SyncedFolder folder ∷ past) = none_split path (SyncedFolder folder ∷ past) refl
split_appends path (FailedFile other ∷ past) = none_split path (FailedFile other ∷ past) refl
split_appends path (FailedFolder folder ∷ past) = none_split path (FailedFolder folder ∷ past) refl
split_appends path (Added other bytes ∷ past) = by (pointwise nat_eq other path) refl (split_appends path past)
  where
    choose : Bool → List Effect
    choose b = cond b (before_appends path past) (Added other bytes ∷ past)

    by : (b : Bool) → pointwise nat_eq other path ≡ b → IsSplit path past → IsSplit path (Added other bytes ∷ past)
    by false is rest = none_split path (Added other bytes ∷ past) (sym (ap choose is))
    by true is rest = record {
      pieces = Added other bytes ∷ rest.pieces;
      each = (one_text other path is, rest.each);
      parts = ap (λ (es : List Effect). Added other bytes ∷ es) (rest.parts ∙ ap (λ (es : List Effect). rest.pieces ++ es) (sym (ap choose is)));
    }

some_past : (a b : Past) → Some a ≡ Some b → a ≡ b
some_past a b is = cc

-- what a sink leaves of a part that was begun
pub record IsAppendedTo (path : List ℕ) (old new : Past) : Type 0 where
  pub pieces : List Effect
  pub each : AreAppends path pieces
  pub all : new ≡ past_with (with_effect old (Wrote path [])) pieces

pub appended_to : (b c : Bool) (path : List ℕ) (old mid far : Past) → IsTrue b → c ≡ b → mid ≡ with_effect old (Wrote path []) → past_beside c far path ≡ past_beside b mid path → IsAppendedTo path old far
appended_to b c path old mid far honest same begun beside =
    let split = split_appends path far.effects in
    let both : past_beside true far path ≡ past_beside true (with_effect old (Wrote path [])) path =
    ap (λ (d : Bool). past_beside d far path) (sym (same ∙ honest)) ∙ beside ∙ ap (λ (d : Bool). past_beside d mid path) honest ∙ ap (λ (p : Past). past_beside true p path) begun in
    let is = some_past (record far { effects = before_appends path far.effects }) (with_effect old (Wrote path [])) both in
    let effects : far.effects ≡ split.pieces ++ Wrote path [] ∷ old.effects = split.parts ∙ ap (λ (p : Past). split.pieces ++ p.effects) is in
    record { pieces = split.pieces; each = split.each; all = λ i. record { base = (is i).base; effects = effects i } }

-- there is a file at the path
there_is : (path : List ℕ) (old : Past) (pieces : List Effect) → AreAppends path pieces → (x : List ℕ) × (get (files_of (past_with (with_effect old (Wrote path [])) pieces)) path ≡ Some x)
there_is path old [] each = ([], inserted_here (files_of old) path [])
there_is path old (Added other bytes ∷ pieces) each =
    let before = files_of (past_with (with_effect old (Wrote path [])) pieces) in
    (bytes_or_none (get before other) ++ bytes, ap (λ (p : List ℕ). get (insert before other (bytes_or_none (get before other) ++ bytes)) p) (sym each.0) ∙ inserted_here before other (bytes_or_none (get before other) ++ bytes))
there_is path old (Wrote other bytes ∷ pieces) each = absurd each.0
there_is path old (Moved from to ∷ pieces) each = absurd each.0
there_is path old (Removed other ∷ pieces) each = absurd each.0
there_is path old (SyncedFile other ∷ pieces) each = absurd each.0
there_is path old (SyncedFolder folder ∷ pieces) each = absurd each.0
there_is path old (FailedFile other ∷ pieces) each = absurd each.0
there_is path old (FailedFolder folder ∷ pieces) each = absurd each.0

text_there : (path text : List ℕ) (old far : Past) → IsAppendedTo path old far → bytes_or_none (get (files_of far) path) ≡ text → get (files_of far) path ≡ Some text
text_there path text old far appended is =
    let there = there_is path old appended.pieces appended.each in
    let found : get (files_of far) path ≡ Some there.0 = ap (λ (p : Past). get (files_of p) path) appended.all ∙ there.1 in
    found ∙ ap Some (sym (ap bytes_or_none found) ∙ is)

known_text : (b c : Bool) (path text : List ℕ) (old mid far : Past) → IsTrue b → c ≡ b → mid ≡ with_effect old (Wrote path []) → Appends (bytes_known b mid path) (bytes_known c far path) text → bytes_or_none (get (files_of far) path) ≡ text
known_text b c path text old mid far honest same begun appends =
    let both : Appends (bytes_known true (with_effect old (Wrote path [])) path) (bytes_known true far path) text =
    subst (λ (p : Past). Appends (bytes_known true p path) (bytes_known true far path) text) begun
    (subst (λ (d : Bool). Appends (bytes_known d mid path) (bytes_known true far path) text) honest (subst (λ (d : Bool). Appends (bytes_known b mid path) (bytes_known d far path) text) (same ∙ honest) appends)) in
    both ∙ ap (λ (o : Option (List ℕ)). bytes_or_none o ++ text) (inserted_here (files_of old) path [])

-- a part that is whole and synced
pub written_whole : (b c : Bool) (path text : List ℕ) (old mid far new : Past) → IsTrue b → c ≡ b → mid ≡ with_effect old (Wrote path []) → past_beside c far path ≡ past_beside b mid path → Appends (bytes_known b mid path) (bytes_known c far path) text
    → new ≡ with_effect far (SyncedFile path) → IsWritten path text old new
written_whole b c path text old mid far new honest same begun beside appends synced =
    let appended = appended_to b c path old mid far honest same begun beside in
    record {
      pieces = appended.pieces;
      each = appended.each;
      all = synced ∙ ap (λ (p : Past). with_effect p (SyncedFile path)) appended.all;
      bytes = ap (λ (p : Past). get (files_of p) path) synced ∙ text_there path text old far appended (known_text b c path text old mid far honest same begun appends);
    }

-- a part whose beginning, whose appends or whose sync may have failed
pub part_begun : {A E : Type 0} (path : List ℕ) (old new : Past) (result : Result A E) → Does (Wrote path []) old new result → WritesPart path old new
part_begun path old new (Ok value) is = inr ([], [], tt, is)
part_begun path old new (Err fault) (inl is) = inl is
part_begun path old new (Err fault) (inr (part, (n, of), is)) = inr (take n [], [], tt, is ∙ ap (with_effect old) of)

pub part_appended : (path : List ℕ) (old new : Past) → IsAppendedTo path old new → WritesPart path old new
part_appended path old new appended = inr ([], appended.pieces, all_of path appended.pieces appended.each, appended.all)

pub part_synced : {A E : Type 0} (path : List ℕ) (old far new : Past) (result : Result A E) → IsAppendedTo path old far → Does (SyncedFile path) far new result → WritesPart path old new
part_synced path old far new (Ok value) appended is =
    inr ([], SyncedFile path ∷ appended.pieces, (refl, all_of path appended.pieces appended.each), is ∙ ap (λ (p : Past). with_effect p (SyncedFile path)) appended.all)
part_synced path old far new (Err fault) appended (inl is) = part_appended path old new (record { pieces = appended.pieces; each = appended.each; all = is ∙ appended.all })
part_synced path old far new (Err fault) appended (inr (part, of, is)) =
    inr ([], FailedFile path ∷ appended.pieces, (refl, all_of path appended.pieces appended.each), is ∙ ap (with_effect far) of ∙ ap (λ (p : Past). with_effect p (FailedFile path)) appended.all)
