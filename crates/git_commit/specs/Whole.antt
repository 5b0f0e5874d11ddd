-- The value of a commit that is borrowed from its bytes.
use Rattle.git_header.specs.Left.{headers_left}
use Rattle.git_header.specs.Lent.{message_of}
use Rattle.git_header.specs.View.{ident_of}
use Rattle.git_commit.specs.declared.commit.Commit.{Commit}
use Rattle.git_commit.specs.Commit.{CommitValue}
use Rattle.git_commit.specs.Left.{parents_left}

abbrev pub commit_of : Commit → CommitValue
commit_of commit = record {
  tree = commit.tree;
  parents = parents_left commit.parents;
  author = ident_of commit.author;
  committer = ident_of commit.committer;
  headers = headers_left commit.headers;
  message = message_of commit.message;
}
