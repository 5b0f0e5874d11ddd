-- Both sides of a list of items: the wanted ones, and the excluded ones (git-rev-list(1), `^`).
use Rattle.std.specs.Prelude.{ℕ, Bool, true, false, List, [], ◌∷◌, ◌++◌, Result, Ok, Err, codes, drop, if◌then◌else◌}
use Rattle.git_refname.specs.Rule.{begins}
use Rattle.fork_request.specs.declared.refusal.Refusal.{Refusal}
use Rattle.fork_query.specs.declared.sides.Sides.{Sides}

-- whether an item is excluded: it begins with `^`
abbrev pub is_excluded : List ℕ → Bool
is_excluded item = begins (codes "^") item

-- an item without its leading `^`
abbrev pub bare : List ℕ → List ℕ
bare item = if is_excluded item then drop 1 item else item

-- the names on both sides
pub record Selection : Type 0 where
  pub wanted : List (List ℕ)
  pub excluded : List (List ℕ)

abbrev pub selection_of : Sides → Selection
selection_of sides = record { wanted = sides.wanted.items; excluded = sides.excluded.items }

-- one more name before those of its side
abbrev pub with_name : Bool → List ℕ → Selection → Selection
with_name true name selection = record { wanted = selection.wanted; excluded = name ∷ selection.excluded }
with_name false name selection = record { wanted = name ∷ selection.wanted; excluded = selection.excluded }

abbrev pub with_rest : Bool → List ℕ → Result Selection Refusal → Result Selection Refusal
with_rest excluded name (Ok selection) = Ok (with_name excluded name selection)
with_rest excluded name (Err refusal) = Err refusal

abbrev pub with_item : Bool → Result (List ℕ) Refusal → Result Selection Refusal → Result Selection Refusal
with_item excluded (Ok name) rest = with_rest excluded name rest
with_item excluded (Err refusal) rest = Err refusal

-- the names of these items, or the refusal of the first one that is refused
abbrev pub selected : (List ℕ → Result (List ℕ) Refusal) → List (List ℕ) → Result Selection Refusal
selected judge [] = Ok (record { wanted = []; excluded = [] })
selected judge (item ∷ items) = with_item (is_excluded item) (judge (bare item)) (selected judge items)

-- one more name after those of its side
abbrev pub added_name : Selection → Bool → List ℕ → Selection
added_name selection true name = record { wanted = selection.wanted; excluded = selection.excluded ++ name ∷ [] }
added_name selection false name = record { wanted = selection.wanted ++ name ∷ []; excluded = selection.excluded }

abbrev pub added_item : Selection → Bool → Result (List ℕ) Refusal → Result Selection Refusal
added_item selection excluded (Ok name) = Ok (added_name selection excluded name)
added_item selection excluded (Err refusal) = Err refusal
