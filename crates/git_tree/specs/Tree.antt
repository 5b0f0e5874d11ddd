-- Which bytes are the tree of which entries (git-mktree(1), git-ls-tree(1)).
use Rattle.std.specs.Prelude.{◌≡◌, ◌≢◌, ℕ, List, map}
use Rattle.std.specs.List.{flat_map, AllByRecursion, AllPairs}
use Rattle.std.specs.List.Sorted.{IsStrictlySortedBy}
use Rattle.std.specs.declared.cmp.Ordering.TheVariants.{Less}
use Rattle.git_name.specs.Name.{name_cmp}
use Rattle.git_tree.specs.Entry.{Entry, IsEntry, spelled, entry_key}

-- the key of the first is bytewise below that of the second
abbrev pub IsBelow : Entry → Entry → Type 0
IsBelow a b = name_cmp (entry_key a) (entry_key b) ≡ Less

-- the two have different file names
abbrev pub Differ : Entry → Entry → Type 0
Differ a b = a.file_name ≢ b.file_name

-- valid entries with strictly ascending keys; no two of them, near or far, have the same file name
pub record AreEntries (entries : List Entry) : Type 0 where
  pub each : AllByRecursion IsEntry entries
  pub ascending : IsStrictlySortedBy name_cmp (map entry_key entries)
  pub different : AllPairs Differ entries

-- the bytes are such entries, spelled one after another
pub record IsTree (entries : List Entry) (bytes : List ℕ) : Type 0 where
  pub are : AreEntries entries
  pub spelling : bytes ≡ flat_map spelled entries
