use Rattle.std.proofs.Common.{◌∙◌}
use Rattle.state_text.specs.declared.version.Version.TheVariants.{Two}
use Rattle.state_text.specs.Text.{offer_lines}
use Rattle.state_text.proofs.WritingLemmas.{row_put}
use Rattle.state_text.proofs.writing.put_offers.Goals as goal

pub loop-offer-preserved : goal.loop-offer-preserved
loop-offer-preserved g c =
    record {
      puts = row_put (offer_lines Two c.args.tenant.now) c.args.offers.now c.offer-item.result c.loop-offer.offer-index (g.W.Sink.contents c.args.writer.now) (g.W.Sink.contents c.loop-offer.writer) (g.W.Sink.contents c.put_offer.new.writer) c.args.waiting.now c.loop-offer.waiting c.put_offer.new.waiting
          c.loop-offer-test.true c.offer-item.is c.loop-offer.invariant.puts c.in_ok-put_offer.ensures.puts;
      rest = c.put_offer.ensures.rest ∙ c.loop-offer.invariant.rest;
    }
