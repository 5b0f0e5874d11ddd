use Rattle.std.proofs.Common.{◌≡◌, take}
use Rattle.std.specs.List.{flat_map}
use Rattle.git_name.specs.Text.{ended}
use Rattle.state_text.specs.declared.version.Version.TheVariants.{Two}
use Rattle.state_text.specs.Text.{repository_lines}
use Rattle.state_text.specs.Writing.{Puts}
use Rattle.state_text.proofs.writing.put_repositories.Given as goal

-- the lines of the repositories so far are put, and nothing else is done
abbrev pub invariant-loop-name : goal.invariant-loop-name
invariant-loop-name g l =
    record {
      puts : Puts (g.W.Sink.contents l.fn.writer) (g.W.Sink.contents l.writer) l.fn.waiting l.waiting (flat_map ended (flat_map (repository_lines Two l.tenant) (take l.name-index l.repositories)));
      rest : g.W.Sink.rest l.writer ≡ g.W.Sink.rest l.fn.writer;
    }
