use Rattle.fork_model.proofs.DisclosureLemmas.{met_by_happenings}
use Rattle.fork_model.proofs.disclosure.what_happens_settles_what_is_met.Goals as goal

pub returns : goal.returns
returns c = met_by_happenings
