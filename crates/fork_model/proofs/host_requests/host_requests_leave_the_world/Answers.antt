use Rattle.fork_model.proofs.HostLemmas.{figures_reply, good_reply, same_world}
use Rattle.fork_model.proofs.host_requests.host_requests_leave_the_world.Goals as goal

pub returns-clause-world : goal.returns-clause-world
returns-clause-world c = same_world

pub returns-clause-reply : goal.returns-clause-reply
returns-clause-reply c = good_reply

pub returns-clause-figures : goal.returns-clause-figures
returns-clause-figures c = figures_reply
