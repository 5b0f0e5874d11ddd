use Rattle.std.proofs.Common.{◌≡◌, ◌≤◌, ◌+◌, length}
use Rattle.std.specs.Prelude.{IsTrue}
use Rattle.looks.specs.Looks.{Looks}
use Rattle.object_table.specs.Rows.{places_of}
use Rattle.object_table.specs.Holders.{is_held_in}
use Rattle.fork_ledger.specs.Kept.{Covers, IsExact, KeepsHeld, TakesAway}
use Rattle.fork_ledger.specs.Led.{AreLed}
use Rattle.fork_ledger.proofs.sweeping.sweep.Given as goal

-- what the looks so far left
abbrev pub invariant-loop-done : goal.invariant-loop-done
invariant-loop-done g l = record {
  looks : Looks (is_held_in l.fn.holdings.ledgers) l.done (places_of l.fn.holdings.catalogue) (places_of l.holdings.catalogue);
  even : l.count ≤ l.done;
  count : length (places_of l.holdings.catalogue).names + l.count ≡ length (places_of l.fn.holdings.catalogue).names;
  ledgers : l.holdings.ledgers ≡ l.fn.holdings.ledgers;
  keeps : IsTrue l.fn.files.honest → KeepsHeld l.fn.holdings.ledgers l.fn.files.contents l.files.contents;
  covers : IsTrue l.fn.files.honest → Covers l.fn.files.contents (places_of l.fn.holdings.catalogue) → Covers l.files.contents (places_of l.holdings.catalogue);
  exact : IsTrue l.fn.files.honest → IsExact l.fn.files.contents (places_of l.fn.holdings.catalogue) → IsExact l.files.contents (places_of l.holdings.catalogue);
  away : IsTrue l.fn.files.honest → TakesAway l.fn.files.contents l.files.contents;
  led : IsTrue l.fn.files.honest → AreLed l.fn.holdings.links l.fn.files.contents → AreLed l.holdings.links l.files.contents;
  honest : l.files.honest ≡ l.fn.files.honest;
  failures : l.files.failures ≡ l.fn.files.failures;
}
