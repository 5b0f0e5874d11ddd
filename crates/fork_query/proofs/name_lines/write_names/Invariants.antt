use Rattle.std.proofs.Common.{◌≡◌, ◌++◌, drop}
use Rattle.fork_query.specs.Objects.{name_lines}
use Rattle.fork_query.proofs.name_lines.write_names.Given as goal

-- the lines so far, and then those of the names that are left
abbrev pub invariant-loop-name : goal.invariant-loop-name
invariant-loop-name l = l.text.items ++ name_lines (drop l.name-index l.names) ≡ name_lines l.names
