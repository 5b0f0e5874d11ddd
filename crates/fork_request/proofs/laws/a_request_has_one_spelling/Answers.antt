use Rattle.fork_request.proofs.AskingLemmas.{asked_right}
use Rattle.fork_request.proofs.SpellingLemmas.{spelled_asked}
use Rattle.fork_request.proofs.laws.a_request_has_one_spelling.Goals as goal

pub returns-clause-found : goal.returns-clause-found
returns-clause-found c = spelled_asked

pub returns-clause-only : goal.returns-clause-only
returns-clause-only c = asked_right
