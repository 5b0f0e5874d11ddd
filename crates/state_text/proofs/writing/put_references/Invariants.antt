use Rattle.std.proofs.Common.{◌≡◌, ◌++◌, codes, map}
use Rattle.std.specs.FinMap.{entries}
use Rattle.std.specs.List.{flat_map}
use Rattle.hex.specs.Hex.{encode_lower}
use Rattle.git_name.specs.Text.{ended}
use Rattle.state_text.proofs.WritingLemmas.{PutsSoFar}
use Rattle.state_text.proofs.writing.put_references.Given as goal

-- with the lines of those that are left the text is whole, and nothing else is done
abbrev pub invariant-loop-name : goal.invariant-loop-name
invariant-loop-name g l =
    record {
      puts : PutsSoFar (g.W.Sink.contents l.fn.writer) (g.W.Sink.contents l.writer) l.fn.waiting l.waiting (flat_map ended (map (λ reference. codes "ref " ++ encode_lower reference.1 ++ codes " " ++ l.prefix ++ reference.0) l.name-iterator))
          (flat_map ended (map (λ reference. codes "ref " ++ encode_lower reference.1 ++ codes " " ++ l.prefix ++ reference.0) (entries l.references)));
      rest : g.W.Sink.rest l.writer ≡ g.W.Sink.rest l.fn.writer;
    }
