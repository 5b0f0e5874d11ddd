use Rattle.std.proofs.Common.{ap, List, ◌++◌, codes, Option}
use Rattle.std.specs.List.{flat_map}
use Rattle.fork_request.specs.declared.reply.Reply.TheVariants.{Done}
use Rattle.fork_model.specs.Answer.{answer, fork_offer_answer, fork_offered, named_giver, named_repository, offer_row, offer_rows, offers_answer}
use Rattle.fork_model.specs.Offer.{Offer, Pair}
use Rattle.fork_model.proofs.DisclosureLemmas.{unlooked}
use Rattle.fork_model.proofs.disclosure.offers_are_met_by_two_requests.Goals as goal

pub returns-clause-others : goal.returns-clause-others
returns-clause-others c = unlooked

pub returns-clause-listed : goal.returns-clause-listed
unfolding answer offers_answer
returns-clause-listed c = λ context other view same. ap (λ (all : List Pair). (Done (flat_map (offer_row (codes "from ")) all ++ offer_rows (codes "to ") view.made), view)) same

pub returns-clause-forked : goal.returns-clause-forked
unfolding answer fork_offer_answer
returns-clause-forked c = λ context other view giver repository copy same. ap (λ (o : Option Offer). named_giver view giver (named_repository view repository (named_repository view copy (fork_offered view (giver, repository) copy o)))) same
