-- Which bytes are which commit (git-cat-file(1), git-commit-tree(1); the exact form is own).
use Rattle.std.specs.Prelude.{◌≡◌, ℕ, List, ◌∷◌, ◌++◌, map, codes, Option}
use Rattle.std.specs.List.{flat_map, AllByRecursion}
use Rattle.git_name.specs.Name.{IsName}
use Rattle.git_name.specs.declared.kind.Kind.TheVariants.{Commit}
use Rattle.git_header.specs.Ident.{IdentValue, IsIdentValue}
use Rattle.git_header.specs.Header.{HeaderValue, IsHeader, header_lines}
use Rattle.git_header.specs.Value.{ident_line, word_and_name}
use Rattle.git_name.specs.Text.{ended}
use Rattle.git_header.specs.Line.{ending}

-- a commit, without its address in memory; no message and an empty one are two values
pub record CommitValue : Type 0 where
  pub tree : List ℕ
  pub parents : List (List ℕ)
  pub author : IdentValue
  pub committer : IdentValue
  pub headers : List HeaderValue
  pub message : Option (List ℕ)

-- the parts of a valid commit
pub record IsCommitValue (commit : CommitValue) : Type 0 where
  pub tree : IsName commit.tree
  pub parents : AllByRecursion IsName commit.parents
  pub author : IsIdentValue commit.author
  pub committer : IsIdentValue commit.committer
  pub headers : AllByRecursion (IsHeader Commit) commit.headers

abbrev pub parent_line : List ℕ → List ℕ
parent_line name = word_and_name (codes "parent ") name

-- the lines of the header, in order
abbrev pub commit_lines : CommitValue → List (List ℕ)
commit_lines commit =
    word_and_name (codes "tree ") commit.tree ∷ (map parent_line commit.parents
    ++ ident_line (codes "author ") commit.author ∷ ident_line (codes "committer ") commit.committer ∷ flat_map header_lines commit.headers)

-- each line and its line feed, and the message after an empty line if there is one
abbrev pub spelled_commit : CommitValue → List ℕ
spelled_commit commit = flat_map ended (commit_lines commit) ++ ending commit.message

-- the bytes are this commit
pub record IsCommit (commit : CommitValue) (bytes : List ℕ) : Type 0 where
  pub right : IsCommitValue commit
  pub spelling : bytes ≡ spelled_commit commit
