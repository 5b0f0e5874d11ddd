use Rattle.std.proofs.Common.{◌≡◌, ◌+◌, ◌-◌, ℕ, length, [], false}
use Rattle.git_reftx.specs.declared.reading.TheConstants.{MAX_COMMANDS}
use Rattle.push_stream.specs.Gaining.{HasFront}
use Rattle.push_stream.specs.Stream.{behind, header_in}
use Rattle.push_stream.proofs.gaining.whole_commands.Given as goal

-- the commands so far, and then the stream of what is left, are the stream of the text; and they precede what is left
abbrev pub invariant-loop-alloc : goal.invariant-loop-alloc
invariant-loop-alloc l = (room : ℕ) × (length l.commands.items + room ≡ MAX_COMMANDS - l.fn.had) × (header_in (MAX_COMMANDS - l.fn.had) l.fn.text ≡ behind l.commands.items [] (header_in room l.left)) × HasFront (MAX_COMMANDS - l.fn.had) l.fn.text l.commands.items false l.left

abbrev pub decreases-loop-alloc : goal.decreases-loop-alloc
decreases-loop-alloc l = length l.left
