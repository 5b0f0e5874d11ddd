use Rattle.std.proofs.Common.{◌≡◌, IsTrue, map, take}
use Rattle.fork_query.specs.Dates.{date_at}
use Rattle.fork_query.proofs.revisions.dates_known.Given as goal

-- the dates of the names so far
abbrev pub invariant-loop-name : goal.invariant-loop-name
invariant-loop-name g l = IsTrue (g.S.Source.state l.source).honest → l.dates.items ≡ map (date_at (g.S.Source.state l.source).objects) (take l.name-index l.names)
