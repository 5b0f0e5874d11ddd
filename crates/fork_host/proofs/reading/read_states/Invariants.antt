use Rattle.std.proofs.Common.{◌≡◌, IsTrue, take}
use Rattle.fork_host.proofs.ReadingLemmas.{StatesRead}
use Rattle.fork_host.proofs.reading.read_states.Given as goal

-- the objects of the tenants so far were read, and the store is as it was
abbrev pub invariant-loop-state : goal.invariant-loop-state
invariant-loop-state g l = record {
  read : StatesRead l.fn.survey.honest l.fn.survey.contents (take l.state-index l.fn.states) l.readings;
  kept : IsTrue l.fn.survey.honest → l.survey.contents ≡ l.fn.survey.contents;
  honest : l.survey.honest ≡ l.fn.survey.honest;
  failures : l.survey.failures ≡ l.fn.survey.failures;
}
