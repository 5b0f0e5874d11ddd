use Rattle.std.proofs.Common.{◌≡◌, ◌+◌, ℕ, length}
use Rattle.git_reftx.specs.Reading.{commands_in, commands_of}
use Rattle.git_reftx.proofs.ReadingLemmas.{onto}
use Rattle.git_reftx.proofs.reading.read_commands.Given as goal
use Rattle.git_reftx.specs.declared.reading.TheConstants.{MAX_COMMANDS}

-- the commands so far, and then those of the rest, are those of the body
abbrev pub invariant-loop-rest : goal.invariant-loop-rest
invariant-loop-rest l = (room : ℕ) × (length l.commands.items + room ≡ MAX_COMMANDS) × (commands_of l.fn.body ≡ onto l.commands.items (commands_in room l.rest))

abbrev pub decreases-loop-rest : goal.decreases-loop-rest
decreases-loop-rest l = length l.rest
