-- The commit that bytes are, found by tests, for models that compute (own). It agrees with `IsCommit`, as the law
-- `tests_find_the_commit` states.
use Rattle.std.specs.Prelude.{ℕ, ◌&&◌, Bool, List, map, drop, length, Option, None, Some, if◌then◌else◌}
use Rattle.std.specs.List.{list_all, take_while}
use Rattle.std.specs.Str.{bytes_eq}
use Rattle.git_name.specs.declared.kind.Kind.TheVariants.{Commit}
use Rattle.git_commit.specs.Commit.{CommitValue, spelled_commit}
use Rattle.git_commit.specs.Fault.{is_parent}
use Rattle.git_header.specs.IdentIn.{ident_in}
use Rattle.git_header.specs.Parting.{nth_line, name_behind, header_part, message_part}
use Rattle.git_header.specs.Row.{gather}
use Rattle.git_header.specs.Tests.{is_name, is_ident, is_header}

-- the test of a commit's parts
abbrev pub is_right_commit : CommitValue → Bool
is_right_commit commit = is_name commit.tree && list_all is_name commit.parents && is_ident commit.author && is_ident commit.committer && list_all (is_header Commit) commit.headers

-- the commit that lines and a message make, if they make one
abbrev pub commit_from : List (List ℕ) → Option (List ℕ) → CommitValue
commit_from lines message =
    let parents = take_while is_parent (drop 1 lines) in
    let others = drop (length parents) (drop 1 lines) in
    record {
      tree = name_behind 5 (nth_line 0 lines);
      parents = map (λ line. name_behind 7 line) parents;
      author = ident_in (drop 7 (nth_line 0 others));
      committer = ident_in (drop 10 (nth_line 1 others));
      headers = (gather (drop 2 others)).headers;
      message = message;
    }

-- the commit that bytes are, if they are one
unfoldable pub commit_in : List ℕ → Option CommitValue
commit_in bytes =
    let commit = commit_from (header_part bytes) (message_part bytes) in
    if is_right_commit commit && bytes_eq (spelled_commit commit) bytes then Some commit else None
