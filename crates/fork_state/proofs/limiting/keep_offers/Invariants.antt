use Rattle.std.proofs.Common.{◌≡◌}
use Rattle.fork_host.specs.Keeping.{with_offers}
use Rattle.fork_state.proofs.limiting.keep_offers.Given as goal

-- with those that are left it is what it shall be
abbrev pub invariant-loop-offer : goal.invariant-loop-offer
invariant-loop-offer l = with_offers l.tenant l.offer-iterator.rest.items ≡ with_offers l.fn.tenant l.fn.offers.items
