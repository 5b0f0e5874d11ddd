use Rattle.std.proofs.Common.{◌≡◌, take}
use Rattle.std.specs.List.{flat_map}
use Rattle.git_name.specs.Text.{ended}
use Rattle.state_text.specs.declared.version.Version.TheVariants.{Two}
use Rattle.state_text.specs.Text.{tenant_lines}
use Rattle.state_text.specs.Writing.{Puts}
use Rattle.state_text.proofs.writing.put_tenants.Given as goal

-- the lines of the tenants so far are put, and nothing else is done
abbrev pub invariant-loop-tenant : goal.invariant-loop-tenant
invariant-loop-tenant g l =
    record {
      puts : Puts (g.W.Sink.contents l.fn.writer) (g.W.Sink.contents l.writer) l.fn.waiting l.waiting (flat_map ended (flat_map (tenant_lines Two) (take l.tenant-index l.tenants)));
      rest : g.W.Sink.rest l.writer ≡ g.W.Sink.rest l.fn.writer;
    }
