-- What is done to the part of a state while that is saved, and what a loss of power leaves then.
use Rattle.std.proofs.Common.{◌≡◌, ◌≢◌, ◌⊎◌, inl, inr, ℕ, Bool, true, false, List, [], Option, Some, None, Result, Ok, Err, IfOk, IfSome, IsTrue, OnOk, refl, sym, ap, ◌∙◌, subst}
use Rattle.std.proofs.lemmas.Cmp.{nat_list_eq_equiv}
use Rattle.std.specs.FinMap.{get}
use Rattle.devices.specs.Crash.{folder_has_failed}
use Rattle.devices.specs.Device.{Past, bytes_or_none}
use Rattle.devices.specs.Moments.{Throughout}
use Rattle.devices.specs.Parts.{DropsPart, IsSure, IsWritten, LeavesAs, WritesPart, placing}
use Rattle.devices.specs.Runs.{Runs}
use Rattle.devices.specs.declared.device.DeviceFault.{DeviceFault}
use Rattle.devices.specs.declared.device.DeviceFault.TheVariants.{Device}
use Rattle.devices.proofs.MomentLemmas.{throughout_map}
use Rattle.devices.proofs.PartLemmas.{part_written}
use Rattle.fork_host.specs.Shown.{HostState}
use Rattle.fork_program.specs.Keeping.{IsNameOf, IsTextOf}
use Rattle.fork_program.specs.Saving.{IsStanding, LeavesNameOf, LeavesStateOrOf, SettlesOn, StandsIfSure}
use Rattle.git_name.proofs.HashMaps.{one_name}
use Rattle.git_name.specs.Same.{same_name}
use Rattle.sha2.specs.Sha256.{sha256}
use Rattle.host_folder.specs.State.{LeavesState, LeavesStateOr, SettlesPart, TriesPart, TriesPlace, part_file, state_file}

-- ---- the part
pub tried_none : (past : Past) → TriesPart past past
tried_none past = (past, inl refl, inl refl)

pub tried_at : (path : List ℕ) (old new : Past) → path ≡ part_file → WritesPart path old new → TriesPart old new
tried_at path old new is writes = (new, subst (λ (p : List ℕ). WritesPart p old new) is writes, inl refl)

pub dropped_at : (path : List ℕ) (old mid new : Past) → path ≡ part_file → WritesPart path old mid → DropsPart part_file mid new → TriesPart old new
dropped_at path old mid new is writes drops = (mid, subst (λ (p : List ℕ). WritesPart p old mid) is writes, drops)

pub written_dropped : (text : List ℕ) (old mid new : Past) → IsWritten part_file text old mid → DropsPart part_file mid new → TriesPart old new
written_dropped text old mid new written drops = (mid, part_written part_file text old mid written, drops)

-- ---- its place
pub settles_dropped : (old new : Past) → DropsPart part_file old new → SettlesPart old new
settles_dropped old new drops = (old, (Err Device, inl refl), drops)

pub settles_run : (old new : Past) (result : Result (Unit {0}) DeviceFault) → Runs (placing part_file state_file []) old new result → SettlesPart old new
settles_run old new result runs = (new, (result, runs), inl refl)

pub settles_then : (old mid new : Past) → TriesPlace old mid → DropsPart part_file mid new → SettlesPart old new
settles_then old mid new tries drops = (mid, tries, drops)

-- ---- what is left
-- the state that was there is one of two
pub one_of_two : (before : Option (List ℕ)) (text : List ℕ) (old new : Past) → Throughout (LeavesState before) old new → Throughout (LeavesStateOr before text) old new
one_of_two before text old new all = throughout_map (LeavesState before) (LeavesStateOr before text) (λ past leaves left may. inl (leaves left may)) old new all

-- the state that was there, or that of a host
pub none_of_host : (before : Option (List ℕ)) (host : HostState) (old new : Past) → Throughout (LeavesState before) old new → Throughout (LeavesStateOrOf before host) old new
none_of_host before host old new all = throughout_map (LeavesState before) (LeavesStateOrOf before host) (λ past leaves left may. inl (leaves left may)) old new all

pub one_of_host : (before : Option (List ℕ)) (host : HostState) (text : List ℕ) (old new : Past) → IsTextOf host text → Throughout (LeavesStateOr before text) old new → Throughout (LeavesStateOrOf before host) old new
one_of_host before host text old new saved all = throughout_map (LeavesStateOr before text) (LeavesStateOrOf before host) (λ past leaves left may. by (get left state_file) (leaves left may)) old new all
  where
    by : (found : Option (List ℕ)) → (found ≡ before) ⊎ (found ≡ Some text) → (found ≡ before) ⊎ ((text : List ℕ) × IsTextOf host text × (found ≡ Some text))
    by found (inl is) = inl is
    by found (inr is) = inr (text, saved, is)

-- a sync leaves what was sure
pub sure_still : (before : Option (List ℕ)) (old new : Past) → LeavesAs old state_file new → IsSure old state_file before → IsSure new state_file before
sure_still before old new same sure left may = sure left (same left may)

-- the state that is sure is one of two, of which the second is that of a host
pub settled_on : (before : Option (List ℕ)) (host : HostState) (text : List ℕ) (past : Past) → IsTextOf host text → IsSure past state_file before ⊎ IsSure past state_file (Some text) → SettlesOn before host past
settled_on before host text past saved (inl sure) = inl sure
settled_on before host text past saved (inr sure) = inr (text, saved, sure)

pub settled_of : {A E : Type 0} (before : Option (List ℕ)) (host : HostState) (past : Past) (r : Result A E) → OnOk r ((text : List ℕ) × IsTextOf host text × IsSure past state_file (Some text)) → OnOk r (SettlesOn before host past)
settled_of before host past (Ok a) sure = inr sure
settled_of before host past (Err e) sure = tt

-- ---- what was drafted
pub it_is : {A : Type 0} (P : A → Type 0) (found : Option A) (x : A) → found ≡ Some x → IfSome found P → P x
it_is {A} P (Some y) x is holds = subst P (the_same y x is) holds
  where
    the_same : (a b : A) → Some a ≡ Some b → a ≡ b
    the_same a b same = cc
it_is {A} P None x is holds = absurd (cc)

pub none_stands : {A : Type 0} (x : A) → None ≢ Some x
none_stands x is = cc

-- ---- the name of what is left
true_false : {A : Type 0} (test : Bool) → test ≡ true → test ≡ false → A
true_false test is other = let bad : ⊥ = cc in absurd bad

pub either_name : (standing : Option (List ℕ)) (name : List ℕ) → (standing ≡ Some name) ⊎ (standing ≢ Some name)
either_name None name = inr (none_stands name)
either_name (Some other) name = by (same_name other name) refl
  where
    apart : same_name other name ≡ false → Some other ≢ Some name
    apart differs same = let is : other ≡ name = cc in absurd (true_false (same_name other name) (ap (same_name other) (sym is) ∙ nat_list_eq_equiv.refl other) differs)

    by : (test : Bool) → same_name other name ≡ test → (Some other ≡ Some name) ⊎ (Some other ≢ Some name)
    by true is = inl (ap Some (one_name other name is))
    by false is = inr (apart is)

-- a state that is sure has this name
pub sure_stands : (text name : List ℕ) (past : Past) → name ≡ sha256 text → IsSure past state_file (Some text) → IsStanding name past
sure_stands text name past named sure left may = ap (λ found. sha256 (bytes_or_none found)) (sure left may) ∙ sym named

-- and what leaves the state as it was leaves its name
pub stands_still : (name : List ℕ) (old new : Past) → LeavesAs old state_file new → IsStanding name old → IsStanding name new
stands_still name old new same stands left may = stands left (same left may)

-- the part that was written is only dropped
pub only_dropped : (old new : Past) → DropsPart part_file old new → TriesPart old new
only_dropped old new drops = (old, inl refl, drops)

-- a state whose part was tried in vain stands
pub stands_tried : (is_sure before after : Bool) (name : List ℕ) (old new : Past) → after ≡ before → (IsTrue before → TriesPart old new)
    → ((old new : Past) → TriesPart old new → folder_has_failed new.effects [] ≡ folder_has_failed old.effects [])
    → ((old new : Past) → TriesPart old new → LeavesAs old state_file new)
    → StandsIfSure is_sure before name old → StandsIfSure is_sure after name new
stands_tried is_sure before after name old new same tries names leaves stands sure honest unfailed =
    let is : IsTrue before = sym same ∙ honest in
    stands_still name old new (leaves old new (tries is)) (stands sure is (sym (names old new (tries is)) ∙ unfailed))

-- the name that is handed on is that of what stands
pub if_some_is : (standing : Option (List ℕ)) (name : List ℕ) (honest : Bool) (past : Past) → standing ≡ Some name → IfSome standing (λ n. IsTrue honest → folder_has_failed past.effects [] ≡ false → IsStanding n past)
    → IsTrue honest → folder_has_failed past.effects [] ≡ false → IsStanding name past
if_some_is standing name honest past same each = it_is (λ n. IsTrue honest → folder_has_failed past.effects [] ≡ false → IsStanding n past) standing name same each

-- what is placed stands under the name that is kept of it
pub stands_as : (placed name : List ℕ) (past : Past) → name ≡ placed → IsStanding placed past → IsStanding name past
stands_as placed name past is stands = subst (λ (n : List ℕ). IsStanding n past) (sym is) stands

-- ---- what was settled
pub ok_of_name : {A E : Type 0} (f : A → List ℕ) (P : List ℕ → Type 0) (name : List ℕ) (r : Result A E) → OnOk r (P name) → IfOk r (λ a. f a ≡ name) → IfOk r (λ a. P (f a))
ok_of_name f P name (Ok a) holds is = subst P (sym is) holds
ok_of_name f P name (Err e) holds is = tt

-- this is the name of a host's state, so what stands has the name of it
pub leaves_name : (host : HostState) (name : List ℕ) (past : Past) → IsNameOf host name → IsStanding name past → LeavesNameOf host past
leaves_name host name past named stands left may = subst (IsNameOf host) (sym (stands left may)) named
