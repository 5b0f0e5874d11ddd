use Rattle.fork_model.proofs.SeenLemmas.{offered_shown, sent_shown}
use Rattle.fork_model.proofs.provenance.what_was_sent_was_seen.Goals as goal

pub returns-clause-sent : goal.returns-clause-sent
returns-clause-sent c = sent_shown

pub returns-clause-offered : goal.returns-clause-offered
returns-clause-offered c = offered_shown
