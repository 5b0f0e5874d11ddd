use Rattle.std.proofs.Common.{◌≡◌, ◌++◌, IsTrue, List, map}
use Rattle.std.specs.Prelude.{Contains}
use Rattle.git_name.specs.Object.{Object, object_name}
use Rattle.looks.specs.Growth.{GrowsAmong}
use Rattle.object_table.specs.Rows.{places_of}
use Rattle.object_table.specs.AllStaged.{AreListed}
use Rattle.object_table.specs.Told.{entry_of}
use Rattle.fork_ledger.specs.AllStaged.{Receives}
use Rattle.fork_ledger.proofs.receiving.receive_all.Given as goal

-- the objects so far were received, the others are left, no ledger changed, and what is kept was received
abbrev pub invariant-loop-sealed : goal.invariant-loop-sealed
invariant-loop-sealed g l =
    (front : List Object)
    × record {
      order : l.fn.objects.items ≡ front ++ l.sealed-iterator.rest.items;
      ledgers : l.holdings.ledgers ≡ l.fn.holdings.ledgers;
      links : l.holdings.links ≡ l.fn.holdings.links;
      listed : AreListed (places_of l.holdings.catalogue) (map entry_of front);
      grows : GrowsAmong (map object_name l.fn.objects.items) (places_of l.fn.holdings.catalogue) (places_of l.holdings.catalogue);
      receives : IsTrue l.fn.files.honest → Receives front l.fn.files.contents l.files.contents (places_of l.fn.holdings.catalogue) (places_of l.holdings.catalogue);
      honest : l.files.honest ≡ l.fn.files.honest;
      failures : l.files.failures ≡ l.fn.files.failures;
      kept : (object : Object) → Contains l.kept.items object → Contains front object;
    }
