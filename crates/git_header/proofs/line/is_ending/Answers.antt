use Rattle.std.proofs.Common.{arith}
use Rattle.git_header.proofs.LineLemmas.{first_ends}
use Rattle.git_header.proofs.line.is_ending.Goals as goal

pub returns-in-len1-up : goal.returns-in-len1-up
returns-in-len1-up c = first_ends c.args.text.now (let some = c.in-len1-up.len_at_least in omega arith)
