-- What a reader knows of the entries before the next one (own).
use Rattle.std.specs.Prelude.{◌≡◌, ◌≢◌, ◌⊎◌, ℕ, Bool, false, List, [], ◌++◌, ◌<◌, ◌≤◌, length, take, drop, slice_index}
use Rattle.std.specs.List.{AllByRecursion}
use Rattle.std.specs.declared.cmp.Ordering.TheVariants.{Less}
use Rattle.git_name.specs.Name.{name_cmp}
use Rattle.git_tree.specs.declared.place.Last.{Last}
use Rattle.git_tree.specs.Fronts.{FrontLengths}
use Rattle.git_tree.specs.Mode.{is_tree}
use Rattle.git_tree.specs.Entry.{Entry, IsEntry, key, entry_key}
use Rattle.git_tree.specs.Tree.{IsBelow, Differ}
use Rattle.git_tree.specs.Known.{Knows}

-- the first is bytewise below the second, or equal to it
abbrev pub AtMost : List ℕ → List ℕ → Type 0
AtMost a k = (name_cmp a k ≡ Less) ⊎ (a ≡ k)

-- how far a reader is: the last file name, whether it is a tree's, and what is kept of earlier files' names
pub record Reached : Type 0 where
  pub file_name : List ℕ
  pub is_tree : Bool
  pub fronts : FrontLengths

-- how far a reader is, without the address of the file name
abbrev pub reached_by : Last → FrontLengths → Reached
reached_by last fronts = record { file_name = last.file_name.now; is_tree = last.is_tree; fronts = fronts }

-- how far a reader is, if the file name is in bytes
abbrev pub reached_at : List ℕ → ℕ → ℕ → Bool → FrontLengths → Reached
reached_at bytes start len is_tree fronts = record { file_name = take len (drop start bytes); is_tree = is_tree; fronts = fronts }

-- the entry may come after the others
pub record MayFollow (front : List Entry) (entry : Entry) : Type 0 where
  pub above : AllByRecursion (λ a. IsBelow a entry) front
  pub new : AllByRecursion (λ a. Differ a entry) front

-- an earlier file whose name the last file name begins with is known by its length
abbrev pub IsFrontKnown : Reached → Entry → Type 0
IsFrontKnown last a = is_tree a.mode ≡ false → (r : List ℕ) → last.file_name ≡ a.file_name ++ r → Knows last.fronts (length a.file_name)

-- the last entry's key; empty before the first entry
abbrev pub last_key : Reached → List ℕ
last_key last = key last.is_tree last.file_name

-- what a reader keeps is right for the entries so far
pub record Tracks (front : List Entry) (last : Reached) : Type 0 where
  -- no key is above the last one, so what is above the last one is above all
  pub low : AllByRecursion (λ a. AtMost (entry_key a) (last_key last)) front
  pub met : (k : List ℕ) → k ≢ [] → AllByRecursion (λ a. name_cmp (entry_key a) k ≡ Less) front → name_cmp (last_key last) k ≡ Less
  pub known : AllByRecursion (IsFrontKnown last) front

-- an entry in order after the last one, and how many bytes their file names share at the start
pub record FollowsLast (old : Reached) (e : Entry) (s : ℕ) : Type 0 where
  pub is : IsEntry e
  pub order : name_cmp (last_key old) (entry_key e) ≡ Less
  pub within : s ≤ length e.file_name
  pub same : take s old.file_name ≡ take s e.file_name
  pub apart : s < length old.file_name → s < length e.file_name → slice_index old.file_name s ≢ slice_index e.file_name s
