use Rattle.fork_model.proofs.PartLemmas.{nothing_behind, one_list}
use Rattle.fork_model.proofs.provenance.an_upload_is_all_its_parts.Goals as goal

pub returns-clause-one : goal.returns-clause-one
returns-clause-one c = one_list

pub returns-clause-behind : goal.returns-clause-behind
returns-clause-behind c = nothing_behind
