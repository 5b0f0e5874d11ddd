use Rattle.std.proofs.Common.{◌≡◌, take}
use Rattle.std.specs.List.{flat_map}
use Rattle.git_name.specs.Text.{ended}
use Rattle.state_text.specs.declared.version.Version.TheVariants.{Two}
use Rattle.state_text.specs.Text.{offer_lines}
use Rattle.state_text.specs.Writing.{Puts}
use Rattle.state_text.proofs.writing.put_offers.Given as goal

-- the lines of the offers so far are put, and nothing else is done
abbrev pub invariant-loop-offer : goal.invariant-loop-offer
invariant-loop-offer g l =
    record {
      puts : Puts (g.W.Sink.contents l.fn.writer) (g.W.Sink.contents l.writer) l.fn.waiting l.waiting (flat_map ended (flat_map (offer_lines Two l.tenant) (take l.offer-index l.offers)));
      rest : g.W.Sink.rest l.writer ≡ g.W.Sink.rest l.fn.writer;
    }
