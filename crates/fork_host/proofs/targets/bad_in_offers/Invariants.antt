use Rattle.std.proofs.Common.{◌≡◌, drop, map}
use Rattle.std.specs.List.{find, flat_map}
use Rattle.state_text.specs.Offer.{Offer}
use Rattle.fork_host.specs.Restored.{is_bad_target, references_in}
use Rattle.fork_host.proofs.targets.bad_in_offers.Given as goal

-- the first of those that are left is the first of all
abbrev pub invariant-loop-offer : goal.invariant-loop-offer
invariant-loop-offer g l =
    find (is_bad_target (g.K.Known.kinds l.fn.known)) (flat_map references_in (map (λ (offer : Offer). offer.repository) (drop l.offer-index l.offers)))
    ≡ find (is_bad_target (g.K.Known.kinds l.fn.known)) (flat_map references_in (map (λ (offer : Offer). offer.repository) l.offers))
