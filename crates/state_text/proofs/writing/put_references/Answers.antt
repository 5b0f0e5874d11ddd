use Rattle.std.proofs.Common.{◌≡◌, ◌++◌, ◌∷◌, codes, map, refl, rules, subst, List, ℕ, ap, ◌∙◌}
use Rattle.std.specs.FinMap.{entries}
use Rattle.std.specs.List.{flat_map}
use Rattle.hex.specs.Hex.{encode_lower}
use Rattle.git_name.specs.Text.{ended}
use Rattle.state_text.proofs.WritingLemmas.{PutsSoFar, line_settled, put_more}
use Rattle.state_text.proofs.writing.put_references.Goals as goal

pub loop-name-preserved : goal.loop-name-preserved
loop-name-preserved g c =
    let line : List ℕ × List ℕ → List ℕ = λ reference. codes "ref " ++ encode_lower reference.1 ++ codes " " ++ c.args.prefix.now ++ reference.0 in
    let first : List ℕ × List ℕ = (c.in-Some.name.now, c.in-Some.target.now) in
    let all = flat_map ended (map line (entries c.args.references.now)) in
    let steps : c.loop-name.name-iterator ≡ first ∷ c.next.new.self = search rules in
    let before : PutsSoFar (g.W.Sink.contents c.args.writer.now) (g.W.Sink.contents c.loop-name.writer) c.args.waiting.now c.loop-name.waiting (ended (line first) ++ flat_map ended (map line c.next.new.self)) all =
    subst (λ left. PutsSoFar (g.W.Sink.contents c.args.writer.now) (g.W.Sink.contents c.loop-name.writer) c.args.waiting.now c.loop-name.waiting left all) (ap (λ es. flat_map ended (map line es)) steps) c.loop-name.invariant.puts in
    let grown = record c.loop-name.waiting { lines = c.put_reference.new.out } in
    record {
      puts = put_more (g.W.Sink.contents c.args.writer.now) (g.W.Sink.contents c.loop-name.writer) (g.W.Sink.contents c.settle.new.writer) c.args.waiting.now c.loop-name.waiting c.settle.new.self (ended (line first)) (flat_map ended (map line c.next.new.self)) all before
          (line_settled (g.W.Sink.contents c.loop-name.writer) (g.W.Sink.contents c.settle.new.writer) c.loop-name.waiting grown c.settle.new.self (ended (line first)) refl c.in_ok-put_reference.ensures c.in_ok-settle.ensures.puts);
      rest = c.settle.ensures.rest ∙ c.loop-name.invariant.rest;
    }
