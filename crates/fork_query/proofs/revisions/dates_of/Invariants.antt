use Rattle.std.proofs.Common.{◌≡◌, map, take}
use Rattle.std.specs.List.{zip}
use Rattle.fork_query.specs.Dates.{noted_date}
use Rattle.fork_query.proofs.revisions.dates_of.Given as goal

-- the dates of the commits so far
abbrev pub invariant-loop-at : goal.invariant-loop-at
invariant-loop-at l = l.dates.items ≡ map noted_date (take l.at (zip l.names l.notes))
