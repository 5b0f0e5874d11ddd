-- The state and its part: their paths, and what a loss of power leaves of the state.
use Rattle.std.proofs.Common.{◌≡◌, ◌≢◌, ◌⊎◌, inl, inr, ℕ, false, List, [], ◌∷◌, Option, Some, nat_eq, refl, sym, ◌∙◌, ap}
use Rattle.std.specs.Cmp.Lexicographic.{pointwise}
use Rattle.std.specs.FinMap.{get}
use Rattle.std.specs.List.{list_any}
use Rattle.devices.specs.Crash.{HasNoSlash, IsIn}
use Rattle.devices.specs.Device.{Past}
use Rattle.devices.specs.Moments.{LeavesOnly, Throughout}
use Rattle.devices.specs.Parts.{IsSure, LeavesAs, LeavesAsOr, MayStand}
use Rattle.devices.proofs.MomentLemmas.{throughout_end, throughout_map, throughout_then}
use Rattle.devices.proofs.PartLemmas.{left_at}
use Rattle.devices.proofs.NameLemmas.{neither, same_text}
use Rattle.devices.proofs.SeenLemmas.{clash}
use Rattle.host_folder.specs.State.{part_file, state_file}

pub part_is_apart : part_file ≢ state_file
part_is_apart same = clash (pointwise nat_eq part_file state_file) (ap (pointwise nat_eq part_file) (sym same) ∙ same_text part_file) refl

no_slash : (bytes : List ℕ) → list_any (λ b. nat_eq b 47) bytes ≡ false → HasNoSlash bytes
no_slash [] none = tt
no_slash (b ∷ bytes) none =
    let both = neither (nat_eq b 47) (list_any (λ b. nat_eq b 47) bytes) none in
    (λ is. clash (nat_eq b 47) (ap (λ n. nat_eq n 47) is) both.0, no_slash bytes both.1)

-- the state is right in the folder of its device
pub state_is_in : IsIn [] state_file
state_is_in = (state_file, refl, no_slash state_file refl)

-- a state that is sure, while it stays as it was
module _ (before : Option (List ℕ)) (old : Past) (sure : IsSure old state_file before) where
  pub stays_sure : (new : Past) → Throughout (LeavesAs old state_file) old new → Throughout (LeavesOnly (λ left. get left state_file ≡ before)) old new
  stays_sure new all =
      throughout_map (LeavesAs old state_file) (LeavesOnly (λ left. get left state_file ≡ before)) (λ past leaves left may. sure (get left state_file) (leaves (get left state_file) (left_at past left state_file may))) old new all

  pub is_sure_still : (new : Past) → Throughout (LeavesAs old state_file) old new → IsSure new state_file before
  is_sure_still new all left may = sure left (throughout_end (LeavesAs old state_file) old new all left may)

-- the state before, or the new one
abbrev EitherIsLeft : Option (List ℕ) → List ℕ → Past → Type 0
EitherIsLeft before text = LeavesOnly (λ left. (get left state_file ≡ before) ⊎ (get left state_file ≡ Some text))

pub either_left : (before : Option (List ℕ)) (text : List ℕ) (old mid new : Past) → IsSure old state_file before → Throughout (LeavesAs old state_file) old mid → Throughout (LeavesAsOr old state_file text) mid new
    → Throughout (LeavesOnly (λ left. (get left state_file ≡ before) ⊎ (get left state_file ≡ Some text))) old new
either_left before text old mid new sure first then =
    throughout_then (EitherIsLeft before text) old mid new (throughout_map (LeavesAs old state_file) (EitherIsLeft before text) (λ past leaves left may. inl (sure (get left state_file) (leaves (get left state_file) (left_at past left state_file may)))) old mid first)
    (throughout_map (LeavesAsOr old state_file text) (EitherIsLeft before text) (λ past leaves left may. which (get left state_file) (leaves (get left state_file) (left_at past left state_file may))) mid new then)
  where
    which : (found : Option (List ℕ)) → (MayStand old state_file found ⊎ (found ≡ Some text)) → (found ≡ before) ⊎ (found ≡ Some text)
    which found (inl may) = inl (sure found may)
    which found (inr is) = inr is

-- ---- a part that is dropped
-- what might have been left before is left still
pub tried : (q : List ℕ) (old mid new : Past) → Throughout (LeavesAs old q) old mid → Throughout (LeavesAs mid q) mid new → Throughout (LeavesAs old q) old new
tried q old mid new one two =
    throughout_then (LeavesAs old q) old mid new one
    (throughout_map (LeavesAs mid q) (LeavesAs old q) (λ past leaves left may. throughout_end (LeavesAs old q) old mid one left (leaves left may)) mid new two)

-- the same, once the part may have taken its place
pub settled : (q text : List ℕ) (old mid at new : Past) → Throughout (LeavesAsOr old q text) mid at → Throughout (LeavesAs at q) at new → Throughout (LeavesAsOr old q text) mid new
settled q text old mid at new one two =
    throughout_then (LeavesAsOr old q text) mid at new one
    (throughout_map (LeavesAs at q) (LeavesAsOr old q text) (λ past leaves left may. throughout_end (LeavesAsOr old q text) mid at one left (leaves left may)) at new two)
