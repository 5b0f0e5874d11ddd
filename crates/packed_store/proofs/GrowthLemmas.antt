-- What appends leave of the files of a device, and of the bytes at places.
use Rattle.std.proofs.Common.{◌≡◌, inl, inr, ℕ, ◌+◌, ◌&&◌, ◌≤◌, Bool, true, false, nat_le, List, [], ◌++◌, Option, Some, None, Result, Ok, Err, OnOk, cond, length, take, drop, option_map, refl, sym, ◌∙◌, ap, subst, append-nil, append_assoc, length-append, length-drop, arith}
use Rattle.std.proofs.lemmas.Bool.Decides.{nat_tests}
use Rattle.std.proofs.lemmas.List.{take-append-le, drop-append-le}
use Rattle.std.specs.Cmp.{eq_by_cmp_equiv}
use Rattle.std.specs.Ordering.{eq_by_cmp}
use Rattle.std.specs.FinMap.{get, insert, remove, get-insert, get-remove, same_map}
use Rattle.devices.specs.Device.{Files, Past, Effect, Does, Added, SyncedFile, SyncedFolder, bytes_or_none, files_of, with_effect}
use Rattle.git_name.specs.Name.{name_cmp}
use Rattle.git_name.specs.Maps.{map_values}
use Rattle.git_name.proofs.MapLemmas.{get_map_values}
use Rattle.git_name.proofs.Names.{name_total, name_exact}
use Rattle.loose_store.proofs.FilesLemmas.{tied}
use Rattle.packed_store.specs.declared.place.Place.{Place}
use Rattle.packed_store.specs.Place.{AreRecorded, Grows, Index, IsRecorded, IsThere, before, bytes_at, last_of, name_before, say_length, segment_of, segment_path}

pub one_path : (a b : List ℕ) → eq_by_cmp name_cmp a b ≡ true → a ≡ b
one_path a b e = name_exact a b (tied (name_cmp a b) e)

-- what is under a path that was set
pub found_set : (files : Files) (path bytes : List ℕ) → get (insert files path bytes) path ≡ Some bytes
found_set files path bytes = get-insert name_total files path bytes path ∙ ap (λ (b : Bool). cond b (Some bytes) (get files path)) ((eq_by_cmp_equiv name_total).refl path)

grown_at : (b : Bool) (o p : Option (List ℕ)) (bytes : List ℕ) → (b ≡ true → o ≡ p) → (more : List ℕ) × (bytes_or_none (cond b (Some (bytes_or_none p ++ bytes)) o) ≡ bytes_or_none o ++ more)
grown_at true o p bytes same = (bytes, ap (λ (x : Option (List ℕ)). bytes_or_none x ++ bytes) (sym (same refl)))
grown_at false o p bytes same = ([], sym (append-nil (bytes_or_none o)))

-- an append to one file
pub appended_grows : (files : Files) (path bytes : List ℕ) → Grows files (insert files path (bytes_or_none (get files path) ++ bytes))
appended_grows files path bytes q =
    subst (λ (x : Option (List ℕ)). (more : List ℕ) × (bytes_or_none x ≡ bytes_or_none (get files q) ++ more))
    (sym (get-insert name_total files path (bytes_or_none (get files path) ++ bytes) q))
    (grown_at (eq_by_cmp name_cmp q path) (get files q) (get files path) bytes (λ e. ap (get files) (one_path q path e)))

pub same_grows : (old new : Files) → new ≡ old → Grows old new
same_grows old new same q = ([], ap (λ (f : Files). bytes_or_none (get f q)) same ∙ sym (append-nil (bytes_or_none (get old q))))

-- appends one after another
pub grows_on : (old mid new : Files) → Grows old mid → Grows mid new → Grows old new
grows_on old mid new first then path =
    let one = first path in
    let two = then path in
    (one.0 ++ two.0, two.1 ∙ ap (λ (b : List ℕ). b ++ two.0) one.1 ∙ append_assoc (bytes_or_none (get old path)) one.0 two.0)

-- an append, whether it fails or not
pub does_grow : {A E : Type 0} (path bytes : List ℕ) (old new : Past) (result : Result A E) → Does (Added path bytes) old new result → Grows (files_of old) (files_of new)
does_grow path bytes old new (Ok answer) does = subst (Grows (files_of old)) (sym (ap files_of does)) (appended_grows (files_of old) path bytes)
does_grow path bytes old new (Err fault) (inl same) = same_grows _ _ (ap files_of same)
does_grow path bytes old new (Err fault) (inr (part, (n, of), is)) =
    subst (Grows (files_of old)) (sym (ap files_of is ∙ ap (λ (e : Effect). files_of (with_effect old e)) of)) (appended_grows (files_of old) path (take n bytes))

-- an append that did not fail
pub does_add : {A E : Type 0} (path bytes : List ℕ) (old new : Past) (result : Result A E) → Does (Added path bytes) old new result
    → OnOk result (bytes_or_none (get (files_of new) path) ≡ bytes_or_none (get (files_of old) path) ++ bytes)
does_add path bytes old new (Ok answer) does =
    ap (λ (past : Past). bytes_or_none (get (files_of past) path)) does ∙ ap bytes_or_none (found_set (files_of old) path (bytes_or_none (get (files_of old) path) ++ bytes))
does_add path bytes old new (Err fault) does = tt

-- a sync
pub file_synced : {A E : Type 0} (path : List ℕ) (old new : Past) (result : Result A E) → Does (SyncedFile path) old new result → files_of new ≡ files_of old
file_synced path old new (Ok answer) does = ap files_of does
file_synced path old new (Err fault) (inl same) = ap files_of same
file_synced path old new (Err fault) (inr (part, of, is)) = ap files_of is ∙ ap (λ (e : Effect). files_of (with_effect old e)) of

pub folder_synced : {A E : Type 0} (folder : List ℕ) (old new : Past) (result : Result A E) → Does (SyncedFolder folder) old new result → files_of new ≡ files_of old
folder_synced folder old new (Ok answer) does = ap files_of does
folder_synced folder old new (Err fault) (inl same) = ap files_of same
folder_synced folder old new (Err fault) (inr (part, of, is)) = ap files_of is ∙ ap (λ (e : Effect). files_of (with_effect old e)) of

-- a part of a front is the same part of the whole
part_still : (at len : ℕ) (front more : List ℕ) → at + len ≤ length front → take len (drop at (front ++ more)) ≡ take len (drop at front)
part_still at len front more fits =
    let within : at ≤ length front = omega arith in
    let left : len ≤ length (drop at front) = omega (arith, length-drop at front) in
    ap (take len) (drop-append-le at front more within) ∙ take-append-le len (drop at front) more left

there_by : (a b : Bool) (o : Option (List ℕ)) (name : List ℕ) → cond (a && b) o None ≡ Some name → a ≡ true
there_by true b o name is = refl
there_by false b o name is = let never : ⊥ = cc in absurd never

-- the bytes of a record are there
pub there_in : (files : Files) (name : List ℕ) (place : Place) → IsRecorded files name place → IsThere files place
unfolding name_before
there_in files name place is =
    let long = nat_le (place.at + place.len) (length (segment_of files place.segment)) in
    let told : long ≡ true = there_by long (say_length place.len (before files place)) (Some (last_of 32 (before files place))) name is in
    grind (arith, nat_tests)

said_by : (a b c : Bool) (o : Option (List ℕ)) (name : List ℕ) → c ≡ true → cond (a && b) o None ≡ Some name → cond (c && b) o None ≡ Some name
said_by true b true o name there is = is
said_by false b true o name there is = let never : ⊥ = cc in absurd never
said_by a b false o name there is = let never : ⊥ = cc in absurd never

-- the same bytes before a place end with the same title
pub recorded_as : (old new : Files) (name : List ℕ) (place : Place) → IsThere new place → before new place ≡ before old place → IsRecorded old name place → IsRecorded new name place
unfolding name_before
recorded_as old new name place there same is =
    let long : nat_le (place.at + place.len) (length (segment_of new place.segment)) ≡ true = grind (arith, nat_tests) in
    ap (λ (b : List ℕ). cond (nat_le (place.at + place.len) (length (segment_of new place.segment)) && say_length place.len b) (Some (last_of 32 b)) None) same
    ∙ said_by (nat_le (place.at + place.len) (length (segment_of old place.segment))) (say_length place.len (before old place)) (nat_le (place.at + place.len) (length (segment_of new place.segment))) (Some (last_of 32 (before old place))) name long is

module _ (old new : Files) (grows : Grows old new) where
  -- what is there stays there
  pub there_still : (place : Place) → IsThere old place → IsThere new place
  there_still place there =
      let more = grows (segment_path place.segment) in
      subst (λ (bytes : List ℕ). place.at + place.len ≤ length bytes) (sym more.1)
      (omega (arith, there, length-append (segment_of old place.segment) more.0))

  -- and has the same bytes
  pub bytes_still : (place : Place) → IsThere old place → bytes_at new place ≡ bytes_at old place
  bytes_still place there =
      let more = grows (segment_path place.segment) in
      ap (λ (bytes : List ℕ). take place.len (drop place.at bytes)) more.1
      ∙ part_still place.at place.len (segment_of old place.segment) more.0 there

  -- so the record at a place stays
  recorded_still : (name : List ℕ) (place : Place) → IsRecorded old name place → IsRecorded new name place
  recorded_still name place one =
      let there = there_in old name place one in
      let more = grows (segment_path place.segment) in
      let fits : place.at ≤ length (segment_of old place.segment) = omega (arith, there) in
      let same : before new place ≡ before old place = ap (take place.at) more.1 ∙ take-append-le place.at (segment_of old place.segment) more.0 fits in
      recorded_as old new name place (there_still place there) same one

  pub are_recorded_still : (index : Index) → AreRecorded old index → AreRecorded new index
  are_recorded_still index all name place is = recorded_still name place (all name place is)

  at_still : (o : Option Place) → ((place : Place) → o ≡ Some place → IsThere old place) → option_map (bytes_at new) o ≡ option_map (bytes_at old) o
  at_still None there = refl
  at_still (Some place) there = ap Some (bytes_still place (there place refl))

  -- the bytes at all places of an index
  pub values_still : (index : Index) → AreRecorded old index → map_values (bytes_at new) index ≡ map_values (bytes_at old) index
  values_still index all = same_map name_total name_exact _ _ (λ q.
      get_map_values name_total (bytes_at new) index q ∙ at_still (get index q) (λ place is. there_in old q place (all q place is)) ∙ sym (get_map_values name_total (bytes_at old) index q))

set_recorded : (files : Files) (b : Bool) (o : Option Place) (q name : List ℕ) (place one : Place) → (b ≡ true → q ≡ name) → IsRecorded files name place → ((p : Place) → o ≡ Some p → IsRecorded files q p)
    → cond b (Some place) o ≡ Some one → IsRecorded files q one
set_recorded files true o q name place one same here others is =
    let set : place ≡ one = cc in
    subst (IsRecorded files q) set (subst (λ (n : List ℕ). IsRecorded files n place) (sym (same refl)) here)
set_recorded files false o q name place one same here others is = others one is

removed_recorded : (files : Files) (b : Bool) (o : Option Place) (q : List ℕ) (one : Place) → ((p : Place) → o ≡ Some p → IsRecorded files q p) → cond b None o ≡ Some one → IsRecorded files q one
removed_recorded files true o q one others is = let never : ⊥ = cc in absurd never
removed_recorded files false o q one others is = others one is

-- one more place
pub are_recorded_set : (files : Files) (index : Index) (name : List ℕ) (place : Place) → AreRecorded files index → IsRecorded files name place → AreRecorded files (insert index name place)
are_recorded_set files index name place all here q one is =
    set_recorded files (eq_by_cmp name_cmp q name) (get index q) q name place one (one_path q name) here (all q) (sym (get-insert name_total index name place q) ∙ is)

-- one place less
pub are_recorded_removed : (files : Files) (index : Index) (name : List ℕ) → AreRecorded files index → AreRecorded files (remove index name)
are_recorded_removed files index name all q one is = removed_recorded files (eq_by_cmp name_cmp q name) (get index q) q one (all q) (sym (get-remove name_total index name q) ∙ is)
