use Rattle.std.proofs.Common.{◌≡◌, take}
use Rattle.push_stream.proofs.open_upload.copied_commands.Given as goal

-- the commands so far
abbrev pub invariant-loop-command : goal.invariant-loop-command
invariant-loop-command l = l.copied.items ≡ take l.command-index l.commands
