use Rattle.std.proofs.Common.{sym}
use Rattle.state_text.specs.Offer.{words_of_offer}
use Rattle.state_text.proofs.BehindLemmas.{follows_all, last_before}
use Rattle.state_text.proofs.order.offer_follows.Goals as goal

pub returns : goal.returns
returns c = (
  λ so. follows_all words_of_offer c.args.offers.now c.in-Some.last.now (words_of_offer c.args.offer.now) c.requires (sym c.in-Some.ensures.value) (c.is_before.ensures.0 so),
  λ all. c.is_before.ensures.1 (last_before words_of_offer c.args.offers.now c.in-Some.last.now (words_of_offer c.args.offer.now) (sym c.in-Some.ensures.value) all),
)
