use Rattle.std.proofs.Common.{refl}
use Rattle.fork_request.specs.Asked.{ForksOffer}
use Rattle.fork_model.specs.Runs.{Asks}
use Rattle.fork_model.proofs.DisclosureLemmas.{offered_still, other_view}
use Rattle.fork_model.proofs.disclosure.forking_an_offer_tells_its_giver_nothing.Goals as goal

pub returns-clause-views : goal.returns-clause-views
returns-clause-views c = λ old new tenant other giver repository copy reply step apart. other_view old new tenant other (ForksOffer giver repository copy) reply step apart

pub returns-clause-offers : goal.returns-clause-offers
returns-clause-offers c = λ old new tenant receiver giver repository copy reply step. offered_still receiver old new (Asks tenant (ForksOffer giver repository copy)) reply step refl
