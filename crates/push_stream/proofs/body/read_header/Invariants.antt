use Rattle.std.proofs.Common.{◌≡◌, ◌+◌, ℕ, length, []}
use Rattle.git_reftx.specs.declared.reading.TheConstants.{MAX_COMMANDS}
use Rattle.push_stream.specs.Stream.{behind, header_in, stream_of}
use Rattle.push_stream.proofs.body.read_header.Given as goal

-- the commands so far, and then the stream of the rest, are the stream of the bytes
abbrev pub invariant-loop-rest : goal.invariant-loop-rest
invariant-loop-rest l = (room : ℕ) × (length l.commands.items + room ≡ MAX_COMMANDS) × (stream_of l.fn.bytes ≡ behind l.commands.items [] (header_in room l.rest))

abbrev pub decreases-loop-rest : goal.decreases-loop-rest
decreases-loop-rest l = length l.rest
