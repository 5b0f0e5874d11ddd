use Rattle.std.proofs.Common.{sym, ap, ◌∙◌}
use Rattle.fork_request.specs.Words.{sole}
use Rattle.fork_request.proofs.WordLemmas.{sole_many}
use Rattle.fork_request.proofs.words.sole_word.Goals as goal

pub returns-in-Some : goal.returns-in-Some
returns-in-Some c = sym (ap sole c.in-Some.ensures.more ∙ sole_many c.in-Some.field-0.0.now c.in-Some.field-0.1.now)
