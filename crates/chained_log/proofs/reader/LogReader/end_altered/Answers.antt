use Rattle.std.proofs.Common.{arith}
use Rattle.chained_log.proofs.reader.LogReader.end_altered.Goals as goal

pub invariant_of-self : goal.invariant_of-self
invariant_of-self g c = record { within = (omega arith, omega arith); one_piece = λ e no_end. (let bad : ⊥ = cc in absurd bad) }

pub invariant_of-self-then-branch : goal.invariant_of-self-then-branch
invariant_of-self-then-branch g c = record { within = (omega arith, omega arith); one_piece = λ e no_end. (let bad : ⊥ = cc in absurd bad) }

pub invariant_of-self-else-branch : goal.invariant_of-self-else-branch
invariant_of-self-else-branch g c = record { within = (omega arith, omega arith); one_piece = λ e no_end. (let bad : ⊥ = cc in absurd bad) }
