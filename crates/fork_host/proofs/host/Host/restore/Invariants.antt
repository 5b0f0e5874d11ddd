use Rattle.std.proofs.Common.{◌≡◌, IsTrue, map as mapped, take}
use Rattle.std.specs.FinMap as map
use Rattle.fork_host.specs.Shown.{Trusted}
use Rattle.fork_host.proofs.RestoringLemmas.{Going}
use Rattle.fork_host.proofs.host.Host.restore.Given as goal

-- over an honest store the host stays trusted, and goes on as the states are judged; the store is as honest as it was, no
-- failure was counted, and the tenants are those so far
abbrev pub invariant-loop-state : goal.invariant-loop-state
invariant-loop-state g l = record {
  trusted : IsTrue (g.S.LooseFiles.honest l.fn.files) → Trusted l.host;
  going : IsTrue (g.S.LooseFiles.honest l.fn.files) → Going (g.S.LooseFiles.contents l.fn.files) (take l.state-index l.fn.states) l.host l.later;
  honest : l.host.vault.honest ≡ g.S.LooseFiles.honest l.fn.files;
  failures : l.host.vault.failures ≡ g.S.LooseFiles.failures l.fn.files;
  names : map.keys l.host.accounts ≡ mapped (λ tenant. tenant.name) (take l.state-index l.fn.states);
}
