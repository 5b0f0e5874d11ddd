use Rattle.fork_model.proofs.OfferedLemmas.{added_offered}
use Rattle.fork_model.proofs.disclosure.a_new_tenant_changes_no_offer.Goals as goal

pub returns : goal.returns
returns c = added_offered
