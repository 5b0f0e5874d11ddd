-- When no folder of names is marked.
use Rattle.std.proofs.Common.{◌≡◌, ◌<◌, ℕ, zero, suc, Bool, true, false, cond, List, slice_index_or, refl, ap, arith, ◌∙◌}
use Rattle.std.specs.Prelude.{OnOk, Result, Ok, Err}
use Rattle.indexmap.specs.IndexSet.{IndexSet, index_set_len}
use Rattle.devices.specs.declared.device.DeviceFault.{DeviceFault}
use Rattle.folder_store.specs.Synced.{IsMarked, are_synced, none_of}

-- what is not marked, so many times
pub none_below : (n : ℕ) (homes : List Bool) → ((first : ℕ) → first < n → slice_index_or homes first false ≡ false) → none_of n homes ≡ true
none_below zero homes none = refl
none_below (suc n) homes none = ap (λ b. cond b false (none_of n homes)) (none n (grind (arith))) ∙ none_below n homes (λ first less. none first (grind (arith)))

-- no file is noted, and no folder is marked
pub synced_at : (noted : ℕ) (homes : List Bool) → noted ≡ 0 → ((first : ℕ) → first < 256 → slice_index_or homes first false ≡ false) → are_synced noted homes ≡ true
synced_at noted homes is none = ap (λ n. are_synced n homes) is ∙ none_below 256 homes none

-- what is not marked is false
pub unmarked_all : (homes : List Bool) → ((first : ℕ) → IsMarked homes first → ⊥) → (first : ℕ) → first < 256 → slice_index_or homes first false ≡ false
unmarked_all homes none first less = by (slice_index_or homes first false) refl
  where
    by : (b : Bool) → slice_index_or homes first false ≡ b → b ≡ false
    by true is = absurd (none first (less, is))
    by false is = refl

-- the same once the folders were synced
pub marked_then : {K H : Type 0} → (result : Result (Unit {0}) DeviceFault) (left new : IndexSet K H) (homes : List Bool) → new ≡ left → index_set_len left ≡ 0
    → OnOk result ((first : ℕ) → first < 256 → slice_index_or homes first false ≡ false) → OnOk result (are_synced (index_set_len new) homes ≡ true)
marked_then (Ok done) left new homes same is none = synced_at (index_set_len new) homes (ap index_set_len same ∙ is) none
marked_then (Err fault) left new homes same is none = tt
