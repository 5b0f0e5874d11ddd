use Rattle.std.proofs.Common.{◌≡◌, ◌++◌}
use Rattle.fork_request.specs.Harms.{harm_lines}
use Rattle.fork_ledger.proofs.harms.lines_of.Given as goal

-- the lines so far, and then those of the harms that are left, are those of all
abbrev pub invariant-loop-name : goal.invariant-loop-name
invariant-loop-name l = l.text.items ++ harm_lines l.name-iterator ≡ harm_lines l.fn.found.entries
