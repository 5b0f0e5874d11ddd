use Rattle.fork_request.specs.declared.host_request.HostRequest.TheVariants.{Bad}
use Rattle.fork_model.proofs.HostLemmas.{bad_reply, same_world}
use Rattle.fork_model.proofs.host_requests.bad_host_requests_are_refused.Goals as goal

pub returns-clause-reply : goal.returns-clause-reply
returns-clause-reply c = bad_reply

pub returns-clause-world : goal.returns-clause-world
returns-clause-world c old new reply step = same_world old new Bad reply step
