-- The entries of the tree that bytes are, found by tests, for models that compute (own). It agrees with `IsTree`, as the law
-- `tests_find_the_tree` states.
use Rattle.std.specs.Prelude.{ℕ, ◌==◌, ◌&&◌, nat_lt, not, Bool, true, List, [], ◌∷◌, length, codes, Option, None, Some, if◌then◌else◌}
use Rattle.std.specs.List.{flat_map, list_all}
use Rattle.std.specs.Ordering.{is_lt}
use Rattle.std.specs.Str.{bytes_eq}
use Rattle.git_name.specs.Name.{name_cmp}
use Rattle.git_tree.specs.Entry.{Entry, spelled, entry_key}
use Rattle.git_tree.specs.Row.{entries_in}

-- the test of a file name
abbrev pub is_file_name : List ℕ → Bool
is_file_name bytes =
    not (bytes_eq bytes []) && list_all (λ b. not (b == 47)) bytes && list_all (λ b. not (b == 0)) bytes
    && not (bytes_eq bytes (codes ".")) && not (bytes_eq bytes (codes "..")) && not (bytes_eq bytes (codes ".git"))

-- the test of an entry
abbrev pub is_entry : Entry → Bool
is_entry entry = is_file_name entry.file_name && (length entry.name == 32) && list_all (λ b. nat_lt b 256) entry.name

-- the first key is below the second, and the file names differ
abbrev pub is_followed_by : Entry → Entry → Bool
is_followed_by a b = is_lt (name_cmp (entry_key a) (entry_key b)) && not (bytes_eq a.file_name b.file_name)

-- every entry is followed this way by each one after it
abbrev pub are_in_order : List Entry → Bool
are_in_order [] = true
are_in_order (entry ∷ entries) = list_all (is_followed_by entry) entries && are_in_order entries

-- the entries of the tree that bytes are, if they are one
unfoldable pub tree_in : List ℕ → Option (List Entry)
tree_in bytes =
    let row = entries_in bytes in
    if list_all is_entry row && are_in_order row && bytes_eq (flat_map spelled row) bytes then Some row else None
