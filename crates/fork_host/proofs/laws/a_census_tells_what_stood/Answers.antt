use Rattle.fork_host.proofs.BetweenLemmas.{counts, counts_between}
use Rattle.fork_host.proofs.laws.a_census_tells_what_stood.Goals as goal

pub returns : goal.returns
returns c = record { front = counts; between = counts_between }
