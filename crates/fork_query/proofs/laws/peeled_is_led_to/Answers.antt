use Rattle.fork_query.proofs.PeelLemmas.{leads_peeled, peeled_leads}
use Rattle.fork_query.proofs.laws.peeled_is_led_to.Goals as goal

pub returns-clause-found : goal.returns-clause-found
returns-clause-found c = λ objects end name. peeled_leads objects name end

pub returns-clause-only : goal.returns-clause-only
returns-clause-only c = leads_peeled
