use Rattle.std.proofs.Common.{◌≡◌}
use Rattle.fork_ledger.specs.Led.{LearnsOf}
use Rattle.fork_ledger.proofs.leading.learn_all.Given as goal

-- only links of these objects were learned
abbrev pub invariant-loop-sealed : goal.invariant-loop-sealed
invariant-loop-sealed l = record {
  ledgers : l.holdings.ledgers ≡ l.fn.holdings.ledgers;
  catalogue : l.holdings.catalogue ≡ l.fn.holdings.catalogue;
  links : LearnsOf l.objects l.fn.holdings.links l.holdings.links;
}
