use Rattle.fork_request.proofs.HostLemmas.{host_right, host_spelled}
use Rattle.fork_request.proofs.laws.a_host_request_has_one_spelling.Goals as goal

pub returns-clause-found : goal.returns-clause-found
returns-clause-found c = host_spelled

pub returns-clause-only : goal.returns-clause-only
returns-clause-only c = host_right
