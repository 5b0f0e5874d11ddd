use Rattle.std.proofs.Common.{◌≡◌, take}
use Rattle.std.specs.List.{AllByRecursion}
use Rattle.fork_query.specs.Lent.{IsLent, lent_names}
use Rattle.fork_query.proofs.lent.lend_each.Given as goal

-- the objects of the names so far
abbrev pub invariant-loop-name : goal.invariant-loop-name
invariant-loop-name g l = record {
  names : lent_names l.lent.items ≡ take l.name-index l.names;
  lent : AllByRecursion (IsLent (g.S.Source.state l.source)) l.lent.items;
}
