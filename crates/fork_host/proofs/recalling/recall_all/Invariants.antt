use Rattle.std.proofs.Common.{◌≡◌}
use Rattle.fork_host.specs.Handle.{IsSame, both_by}
use Rattle.fork_host.proofs.RecallLemmas.{Came}
use Rattle.fork_host.proofs.recalling.recall_all.Given as goal

-- the objects of the names so far are staged
abbrev pub invariant-loop-name : goal.invariant-loop-name
invariant-loop-name g l = record {
  same : IsSame l.fn.own l.own;
  so_far : Came l.fn.own.tenant.now l.fn.names l.name-index (both_by l.fn.own) l.fn.own.vault.now l.own.vault.now;
  failures : l.own.vault.now.failures ≡ l.fn.own.vault.now.failures;
}
