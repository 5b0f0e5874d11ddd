use Rattle.std.proofs.Common.{sym, ap, ◌∙◌}
use Rattle.std.specs.List.{find}
use Rattle.std.specs.Option.{option_map}
use Rattle.std.specs.FinMap.{entries}
use Rattle.state_text.specs.Offer.{Offer}
use Rattle.git_reftx.specs.Repository.{Repository}
use Rattle.fork_host.specs.Restored.{is_bad_target, target_of}
use Rattle.fork_host.proofs.TargetLemmas.{found_here, none_here}
use Rattle.fork_host.proofs.targets.bad_in_offers.Goals as goal

pub returns-then-is_some : goal.returns-then-is_some
returns-then-is_some g c =
    found_here (λ (offer : Offer). offer.repository) (is_bad_target (g.K.Known.kinds c.args.known.now)) c.args.offers.now c.loop-offer.offer-index c.offer-item.result c.bad_target_in-bad.result c.loop-offer-test.true c.offer-item.is
    (c.bad_target_in-bad.ensures ∙ ap (λ references. option_map target_of (find (is_bad_target (g.K.Known.kinds c.args.known.now)) (entries references))) (c.references.ensures.references ∙ ap (λ (r : Repository). r.references) c.repository.ensures)) c.loop-offer.invariant (sym c.is_some.ensures ∙ c.if-is_some.true)

pub loop-offer-preserved : goal.loop-offer-preserved
loop-offer-preserved g c =
    none_here (λ (offer : Offer). offer.repository) (is_bad_target (g.K.Known.kinds c.args.known.now)) c.args.offers.now c.loop-offer.offer-index c.offer-item.result c.bad_target_in-bad.result c.loop-offer-test.true c.offer-item.is
    (c.bad_target_in-bad.ensures ∙ ap (λ references. option_map target_of (find (is_bad_target (g.K.Known.kinds c.args.known.now)) (entries references))) (c.references.ensures.references ∙ ap (λ (r : Repository). r.references) c.repository.ensures)) c.loop-offer.invariant (sym c.is_some.ensures ∙ c.if-is_some.false)
