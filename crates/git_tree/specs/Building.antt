-- What a builder keeps besides its bytes (own).
use Rattle.std.specs.Prelude.{ℕ, ◌≤◌, Bool, List, length, drop}
use Rattle.git_tree.specs.Fronts.{FrontLengths}
use Rattle.git_tree.specs.Tree.{AreEntries}
use Rattle.git_tree.specs.Row.{IsRow, entries_in}
use Rattle.git_tree.specs.Tracks.{Tracks, reached_at}

-- the last file name is in the bytes, and what is known of those before it is right
pub record IsBuilt (bytes : List ℕ) (start : ℕ) (len : ℕ) (is_tree : Bool) (fronts : FrontLengths) : Type 0 where
  pub row : IsRow bytes
  pub are : AreEntries (entries_in bytes)
  pub within : start ≤ length bytes
  pub name_within : len ≤ length (drop start bytes)
  pub tracks : Tracks (entries_in bytes) (reached_at bytes start len is_tree fronts)
