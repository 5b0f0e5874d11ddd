use Rattle.fork_model.proofs.DisclosureLemmas.{unmade_forked}
use Rattle.fork_model.proofs.disclosure.an_offer_that_was_not_made_is_no_offer.Goals as goal

pub returns : goal.returns
returns c = unmade_forked
