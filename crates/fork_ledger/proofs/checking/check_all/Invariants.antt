use Rattle.std.proofs.Common.{◌≡◌}
use Rattle.std.specs.Prelude.{IsTrue}
use Rattle.object_table.specs.Rows.{places_of}
use Rattle.object_table.specs.Holders.{is_held_in}
use Rattle.fork_ledger.specs.Checked.{HasChecked, WasAsked, checked_until}
use Rattle.fork_ledger.proofs.checking.check_all.Given as goal

-- what the places so far have shown
abbrev pub invariant-loop-at : goal.invariant-loop-at
invariant-loop-at g l = record {
  checks : HasChecked l.fn.files.honest l.fn.files.contents (checked_until (is_held_in l.fn.holdings.ledgers) (places_of l.fn.holdings.catalogue).names l.at) l.harms;
  asked : WasAsked l.fn.files.failures (checked_until (is_held_in l.fn.holdings.ledgers) (places_of l.fn.holdings.catalogue).names l.at);
  kept : IsTrue l.fn.files.honest → l.files.contents ≡ l.fn.files.contents;
  honest : l.files.honest ≡ l.fn.files.honest;
  failures : l.files.failures ≡ l.fn.files.failures;
}
