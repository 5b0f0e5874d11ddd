use Rattle.git_name.proofs.HashMaps.{hashed_after_remove}
use Rattle.packed_store.proofs.SurveyLemmas.{last_found}
use Rattle.packed_store.proofs.index.take_last.Goals as goal

pub returns-clause-found : goal.returns-clause-found
returns-clause-found c = last_found c.args.index.now.entries c.pop.new.self.entries c.in-Some.last c.in-Some.ensures.entries c.in-Some.ensures.updates.0

pub returns-clause-rest : goal.returns-clause-rest
returns-clause-rest c = hashed_after_remove c.args.index.now.entries c.pop.new.self.entries c.in-Some.last.0 c.in-Some.ensures.updates.0
