-- Entries of trees, and their one spelling (git-mktree(1), git-ls-tree(1); the refused file names: own).
use Rattle.std.specs.Prelude.{◌≢◌, ℕ, Bool, true, false, List, [], ◌∷◌, ◌++◌, codes}
use Rattle.git_name.specs.Name.{IsName}
use Rattle.git_name.specs.Text.{Lacks}
use Rattle.git_tree.specs.declared.mode.Mode.{Mode}
use Rattle.git_tree.specs.declared.entry.TreeEntry.{TreeEntry}
use Rattle.git_tree.specs.Mode.{digits, is_tree}

-- a mode, a file name and the name of an object
pub record Entry : Type 0 where
  pub mode : Mode
  pub file_name : List ℕ
  pub name : List ℕ

-- the entry of these parts
abbrev pub entry_with : Mode → List ℕ → List ℕ → Entry
entry_with mode file_name name = record { mode = mode; file_name = file_name; name = name }

-- an entry as a value, without the address of its file name
abbrev pub plain_entry : TreeEntry → Entry
plain_entry entry = record { mode = entry.mode; file_name = entry.file_name.now; name = entry.name }

-- at least one byte, none of them / or zero, and not `.`, `..` or `.git`
pub record IsFileName (bytes : List ℕ) : Type 0 where
  pub some : bytes ≢ []
  pub no_slash : Lacks 47 bytes
  pub no_zero : Lacks 0 bytes
  pub not_here : bytes ≢ codes "."
  pub not_above : bytes ≢ codes ".."
  pub not_git : bytes ≢ codes ".git"

-- an entry that some tree may have
pub record IsEntry (entry : Entry) : Type 0 where
  pub file_name : IsFileName entry.file_name
  pub name : IsName entry.name

-- the digits of the mode, a space, the file name, a zero, and the name
abbrev pub spelled : Entry → List ℕ
spelled entry = digits entry.mode ++ 32 ∷ (entry.file_name ++ 0 ∷ entry.name)

-- the file name, followed by / if it is a tree's
abbrev pub key : Bool → List ℕ → List ℕ
key true file_name = file_name ++ codes "/"
key false file_name = file_name

-- what an entry is ordered by
abbrev pub entry_key : Entry → List ℕ
entry_key entry = key (is_tree entry.mode) entry.file_name
