use Rattle.fork_reach.proofs.ReachLemmas.{led_to_reached, reached_led_to}
use Rattle.fork_reach.proofs.laws.reached_is_led_to.Goals as goal

pub returns-clause-found : goal.returns-clause-found
returns-clause-found c = reached_led_to

pub returns-clause-only : goal.returns-clause-only
returns-clause-only c = led_to_reached
