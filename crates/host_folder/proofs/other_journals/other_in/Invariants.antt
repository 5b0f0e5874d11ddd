use Rattle.std.proofs.Common.{IsTrue, map as each}
use Rattle.std.specs.FinMap as map
use Rattle.std.specs.List.{AllByRecursion}
use Rattle.devices.specs.Device.{files_of, names_in_folder}
use Rattle.host_folder.specs.Journal.{journal_folder}
use Rattle.host_folder.specs.OtherJournals.{IsNoOther}
use Rattle.host_folder.proofs.other_journals.other_in.Given as goal

-- if no name that is left is that of a journal that counts, none is
abbrev pub invariant-loop-called : goal.invariant-loop-called
invariant-loop-called g l =
    IsTrue (g.D.Device.honest l.fn.device) → AllByRecursion (IsNoOther (files_of (g.D.Device.past l.fn.device)) l.fn.name) (each (λ called. called.items) l.called-iterator.rest.items)
    → AllByRecursion (IsNoOther (files_of (g.D.Device.past l.fn.device)) l.fn.name) (names_in_folder journal_folder (map.keys (files_of (g.D.Device.past l.fn.device))))
