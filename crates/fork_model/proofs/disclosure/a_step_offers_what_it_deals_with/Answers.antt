use Rattle.fork_model.proofs.DisclosureLemmas.{offered_elsewhere, offered_still}
use Rattle.fork_model.proofs.disclosure.a_step_offers_what_it_deals_with.Goals as goal

pub returns-clause-apart : goal.returns-clause-apart
returns-clause-apart c = offered_still

pub returns-clause-elsewhere : goal.returns-clause-elsewhere
returns-clause-elsewhere c = offered_elsewhere
