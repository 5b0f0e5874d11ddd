use Rattle.std.proofs.Common.{◌≡◌, map, take}
use Rattle.std.specs.List.{flat_map}
use Rattle.git_name.specs.Text.{ended}
use Rattle.state_text.specs.Text.{seen_line}
use Rattle.state_text.specs.Writing.{Puts}
use Rattle.state_text.proofs.writing.put_seen.Given as goal

-- the lines of the names so far are put, and nothing else is done
abbrev pub invariant-loop-name : goal.invariant-loop-name
invariant-loop-name g l =
    record {
      puts : Puts (g.W.Sink.contents l.fn.writer) (g.W.Sink.contents l.writer) l.fn.waiting l.waiting (flat_map ended (map seen_line (take l.name-index l.names)));
      rest : g.W.Sink.rest l.writer ≡ g.W.Sink.rest l.fn.writer;
    }
