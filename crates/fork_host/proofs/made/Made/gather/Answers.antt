use Rattle.std.proofs.Common.{ap, arith, map, ◌∙◌}
use Rattle.std.proofs.lemmas.List.{take_all}
use Rattle.std.specs.FinMap.{entries}
use Rattle.fork_host.specs.Made.{Made, entry_of}
use Rattle.fork_host.proofs.PairLemmas.{no_offers, offers_more}
use Rattle.fork_host.proofs.made.Made.gather.Goals as goal

pub loop-offer-preserved : goal.loop-offer-preserved
loop-offer-preserved c =
    offers_more c.args.list.now c.loop-offer.made c.insert.new.self c.loop-offer.offer-index c.offer-item.result c.copy-in-loop-offer.result c.copy-in-loop-offer-2.result c.in_ok-copy.copy c.requires c.loop-offer-test.true c.offer-item.is
    (c.copy-in-loop-offer.ensures ∙ c.receiver.ensures.receiver) (c.copy-in-loop-offer-2.ensures ∙ c.name.ensures.name) (c.in_ok-copy.ensures ∙ c.repository.ensures) c.in_ok-insert.ensures.ok c.loop-offer.invariant

pub loop-offer-init : goal.loop-offer-init
loop-offer-init c = ap (λ (m : Made). entries m) c.new-made.ensures ∙ no_offers

pub returns : goal.returns
returns c = c.loop-offer.invariant ∙ ap (map entry_of) (take_all c.loop-offer.offer-index c.args.list.now (omega arith))
