use Rattle.std.proofs.Common.{sym, ◌∙◌}
use Rattle.fork_request.proofs.NameLemmas.{no_plain_test, plain_test}
use Rattle.fork_request.proofs.name.PlainName.read.Goals as goal

pub returns-then-not-is_plain_word-clause-test : goal.returns-then-not-is_plain_word-clause-test
returns-then-not-is_plain_word-clause-test g c =
    sym (no_plain_test g.row.MOST c.args.text.now (λ plain. cc (sym c.if-not-is_plain_word.true ∙ c.is_plain_word.ensures.1 plain)))

pub returns-clause-test : goal.returns-clause-test
returns-clause-test g c = sym (plain_test g.row.MOST c.args.text.now (c.is_plain_word.ensures.0 c.if-not-is_plain_word.false))
