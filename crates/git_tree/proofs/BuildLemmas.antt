-- What is built stays a tree when an entry is appended.
use Rattle.std.proofs.Common.{◌≡◌, ℕ, ◌+◌, ◌-◌, ◌≤◌, Bool, false, List, [], ◌∷◌, ◌++◌, length, take, drop, Result, Ok, Err, refl, sym, ap, subst, ◌∙◌, arith, append_assoc, length-append}
use Rattle.std.specs.Prelude.{OnOk, is_err}
use Rattle.std.proofs.lemmas.List.{take_at, drop_at}
use Rattle.git_tree.specs.Fronts.{FrontLengths}
use Rattle.git_tree.specs.Mode.{digits, is_tree}
use Rattle.git_tree.specs.Entry.{Entry, spelled}
use Rattle.git_tree.specs.Tree.{AreEntries}
use Rattle.git_tree.specs.Row.{IsRow, entries_in}
use Rattle.git_tree.specs.Known.{Knows}
use Rattle.git_tree.specs.Tracks.{Reached, Tracks, FollowsLast, MayFollow}
use Rattle.git_tree.specs.Building.{IsBuilt}
use Rattle.git_tree.proofs.RowLemmas.{row_push}
use Rattle.git_tree.proofs.TreeLemmas.{are_push}
use Rattle.git_tree.proofs.PlaceLemmas.{past, tracks_on}

pub on_ok : {T E : Type 0} (r : Result T E) (P : Type 0) → is_err r ≡ false → OnOk r P → P
on_ok (Ok x) P e h = h
on_ok (Err x) P e h = absurd cc

-- where the last file name begins
name_at : (bytes : List ℕ) (e : Entry) → length e.name ≡ 32 → (start : ℕ) → start ≡ length (bytes ++ spelled e) - 33 - length e.file_name
    → (take (length e.file_name) (drop start (bytes ++ spelled e)) ≡ e.file_name) × (start ≤ length (bytes ++ spelled e)) × (length e.file_name ≤ length (drop start (bytes ++ spelled e)))
name_at bytes e long start is =
    let tail = e.file_name ++ 0 ∷ e.name in
    let front = bytes ++ (digits e.mode ++ 32 ∷ []) in
    let whole : bytes ++ spelled e ≡ front ++ tail = sym (append_assoc bytes (digits e.mode ++ 32 ∷ []) tail ∙ ap (λ (x : List ℕ). bytes ++ x) (append_assoc (digits e.mode) (32 ∷ []) tail)) in
    let tail_len : length tail ≡ length e.file_name + 33 = omega (arith, length-append e.file_name (0 ∷ e.name), long) in
    let at : length front ≡ start = omega (arith, ap length whole, length-append front tail, tail_len, is) in
    let rest : drop start (bytes ++ spelled e) ≡ tail = ap (drop start) whole ∙ drop_at front tail start at in (
      ap (take (length e.file_name)) rest ∙ take_at e.file_name (0 ∷ e.name) (length e.file_name) refl,
      omega (arith, ap length whole, length-append front tail, at),
      omega (arith, ap length rest, tail_len),
    )

pub built_push : (bytes seen new : List ℕ) (start len : ℕ) (t t' : Bool) (fronts fronts' : FrontLengths) (e : Entry) (s : ℕ) → IsBuilt bytes start len t fronts → seen ≡ bytes
    → new ≡ bytes ++ spelled e → MayFollow (entries_in seen) e → FollowsLast (record { file_name = take len (drop start seen); is_tree = t; fronts = fronts }) e s → t' ≡ is_tree e.mode
    → ((n : ℕ) → n ≤ s → Knows fronts n → Knows fronts' n) → (is_tree e.mode ≡ false → Knows fronts' (length e.file_name))
    → IsBuilt new (length new - 33 - length e.file_name) (length e.file_name) t' fronts' × (entries_in new ≡ entries_in bytes ++ e ∷ [])
built_push bytes seen new start len t t' fronts fronts' e s built same parts follows steps tree kept added =
    let follows' : MayFollow (entries_in bytes) e = subst (λ (b : List ℕ). MayFollow (entries_in b) e) same follows in
    let steps' : FollowsLast (record { file_name = take len (drop start bytes); is_tree = t; fronts = fronts }) e s = subst (λ (b : List ℕ). FollowsLast (record { file_name = take len (drop start b); is_tree = t; fronts = fronts }) e s) same steps in
    let old : Reached = record { file_name = take len (drop start bytes); is_tree = t; fronts = fronts } in
    let more = row_push bytes e steps'.is built.row in
    let row : entries_in new ≡ entries_in bytes ++ e ∷ [] = ap entries_in parts ∙ more.0 in
    let n = length new - 33 - length e.file_name in
    let place = name_at bytes e steps'.is.name.length n (ap (λ (b : List ℕ). length b - 33 - length e.file_name) parts) in
    let name : take (length e.file_name) (drop n new) ≡ e.file_name = ap (λ (b : List ℕ). take (length e.file_name) (drop n b)) parts ∙ place.0 in (
      record {
        row = subst IsRow (sym parts) more.1;
        are = subst AreEntries (sym row) (are_push (entries_in bytes) e built.are steps'.is follows');
        within = omega (arith, place.1, ap length parts);
        name_within = subst (λ (b : List ℕ). length e.file_name ≤ length (drop n b)) (sym parts) place.2;
        tracks = subst (λ (es : List Entry). Tracks es (record { file_name = take (length e.file_name) (drop n new); is_tree = t'; fronts = fronts' })) (sym row)
            (tracks_on (entries_in bytes) old (record { file_name = take (length e.file_name) (drop n new); is_tree = t'; fronts = fronts' }) e s steps'
            (past (entries_in bytes) old built.row.each built.tracks.low built.tracks.known) name tree kept added);
      },
      row,
    )
