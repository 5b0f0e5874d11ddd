use Rattle.std.proofs.Common.{codes}
use Rattle.git_header.specs.Value.{word_and_name, ident_line}
use Rattle.git_header.specs.View.{ident_of}
use Rattle.git_commit.proofs.WritingLemmas.{headers_right, written_whole}
use Rattle.git_commit.proofs.writing.write.Goals as goal

pub returns : goal.returns
returns c =
    record {
      right = record {
        tree = c.in_ok-put_name.ensures.name;
        parents = c.in_ok-put_parents.ensures.names;
        author = c.args.author.right;
        committer = c.args.committer.right;
        headers = headers_right c.args.headers.now;
      };
      spelling = written_whole _ _ _ _ _ _ _ (word_and_name (codes "tree ") c.args.tree.now) (ident_line (codes "author ") (ident_of c.args.author)) (ident_line (codes "committer ") (ident_of c.args.committer)) _ _ _
          c.new-out.ensures.items c.in_ok-put_name.ensures.line c.in_ok-put_parents.ensures.lines c.in_ok-put_ident_line.ensures c.in_ok-put_ident_line-2.ensures c.in_ok-put_headers.ensures c.in_ok-put_message.ensures;
    }
