use Rattle.std.proofs.Common.{sym, subst}
use Rattle.state_text.specs.States.{IsStates}
use Rattle.state_text.proofs.StateLemmas.{no_states}
use Rattle.state_text.proofs.states.States.new.Goals as goal

pub invariant_of-result : goal.invariant_of-result
invariant_of-result c = subst IsStates (sym c.new.ensures.items) no_states
