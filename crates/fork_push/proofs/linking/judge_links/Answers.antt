use Rattle.std.proofs.Common.{sym}
use Rattle.git_object.specs.ObjectIn.{links_in}
use Rattle.fork_push.proofs.LinkLemmas.{none_missing, noted_still}
use Rattle.fork_push.proofs.linking.judge_links.Goals as goal

pub returns-then-are_met-clause-missing : goal.returns-then-are_met-clause-missing
returns-then-are_met-clause-missing g c = sym (none_missing (g.S.Source.state c.args.source.now).objects (links_in c.args.kind c.args.bytes.now) c.if-are_met.ensures)

pub returns-then-are_met-clause-wrong : goal.returns-then-are_met-clause-wrong
returns-then-are_met-clause-wrong g c = noted_still c.args.wrong.now _ c.if-are_met.ensures
