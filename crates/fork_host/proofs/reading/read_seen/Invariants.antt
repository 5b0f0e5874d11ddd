use Rattle.std.proofs.Common.{◌≡◌, IsTrue, take}
use Rattle.fork_host.specs.Read.{Reads}
use Rattle.fork_host.proofs.reading.read_seen.Given as goal

-- the objects of the names so far were read, and the store is as it was
abbrev pub invariant-loop-name : goal.invariant-loop-name
invariant-loop-name g l = record {
  reads : Reads l.fn.survey.honest l.fn.survey.contents (take l.name-index l.fn.names) l.fn.readings l.readings;
  kept : IsTrue l.fn.survey.honest → l.survey.contents ≡ l.fn.survey.contents;
  honest : l.survey.honest ≡ l.fn.survey.honest;
  failures : l.survey.failures ≡ l.fn.survey.failures;
}
