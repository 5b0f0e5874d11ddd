use Rattle.fork_program.proofs.GivenLemmas.{Adding}
use Rattle.fork_host.specs.Shown.{Trusted, world_of}
use Rattle.fork_program.proofs.first_tenants.add_tenants.Given as goal

-- the tenants so far were added, and the others are left
abbrev pub invariant-loop-grant : goal.invariant-loop-grant
invariant-loop-grant g l = record {
  trusted : Trusted l.fn.host → Trusted l.host;
  adding : Adding l.fn.tenants.items l.grant-iterator.rest.items (world_of l.fn.host) (world_of l.host);
}
