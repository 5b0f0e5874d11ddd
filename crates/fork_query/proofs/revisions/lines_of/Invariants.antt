use Rattle.std.proofs.Common.{◌≡◌, map, take}
use Rattle.fork_query.specs.Objects.{name_lines}
use Rattle.fork_query.proofs.revisions.lines_of.Given as goal

-- the lines of the dates so far
abbrev pub invariant-loop-date : goal.invariant-loop-date
invariant-loop-date l = l.text.items ≡ name_lines (map (λ date. date.name) (take l.date-index l.dates))
