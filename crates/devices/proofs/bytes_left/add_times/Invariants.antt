use Rattle.std.proofs.Common.{◌≡◌, ◌++◌, replicate}
use Rattle.devices.proofs.bytes_left.add_times.Given as goal

-- the byte was added once for each turn
abbrev pub invariant-loop : goal.invariant-loop
invariant-loop l = l.bytes.items ≡ l.fn.bytes.items ++ replicate l.counter l.byte
