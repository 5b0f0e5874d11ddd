use Rattle.fork_request.specs.Asked.{MakesOffer, Withdraws}
use Rattle.fork_model.proofs.DisclosureLemmas.{unmade}
use Rattle.fork_model.proofs.SoundLemmas.{made_answer}
use Rattle.fork_model.proofs.disclosure.offers_are_changed_by_two_requests.Goals as goal

pub returns-clause-others : goal.returns-clause-others
returns-clause-others c = unmade

pub returns-clause-made : goal.returns-clause-made
returns-clause-made c = λ context view repository receiver key apart. made_answer context view (MakesOffer repository receiver) key apart

pub returns-clause-withdrawn : goal.returns-clause-withdrawn
returns-clause-withdrawn c = λ context view repository receiver key apart. made_answer context view (Withdraws repository receiver) key apart
