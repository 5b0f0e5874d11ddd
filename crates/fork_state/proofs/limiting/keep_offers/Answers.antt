use Rattle.std.proofs.Common.{ap, subst, sym, ◌∙◌, ◌∷◌}
use Rattle.fork_model.specs.declared.limits.TheConstants.{MAX_OFFERS}
use Rattle.fork_host.specs.Keeping.{with_offers}
use Rattle.fork_host.proofs.KeepingLemmas.{before_next_by, room_for}
use Rattle.state_text.specs.Offer.{words_of_offer}
use Rattle.state_text.specs.States.{IsTenantState}
use Rattle.fork_state.proofs.ChangedLemmas.{offer_at}
use Rattle.fork_state.proofs.limiting.keep_offers.Goals as goal

pub keep_offer-requires-clause-other : goal.keep_offer-requires-clause-other
keep_offer-requires-clause-other c =
    let whole : IsTenantState (with_offers c.loop-offer.tenant (c.in-Some.offer ∷ c.next.new.self.rest.items)) = subst IsTenantState (sym (ap (with_offers c.loop-offer.tenant) (sym c.in-Some.ensures.steps.0) ∙ c.loop-offer.invariant)) c.requires in
    (offer_at c.loop-offer.tenant.name c.loop-offer.tenant.offers c.in-Some.offer c.next.new.self.rest.items whole.offers).to_another

pub keep_offer-requires-clause-before : goal.keep_offer-requires-clause-before
keep_offer-requires-clause-before c =
    let whole : IsTenantState (with_offers c.loop-offer.tenant (c.in-Some.offer ∷ c.next.new.self.rest.items)) = subst IsTenantState (sym (ap (with_offers c.loop-offer.tenant) (sym c.in-Some.ensures.steps.0) ∙ c.loop-offer.invariant)) c.requires in
    before_next_by words_of_offer c.loop-offer.tenant.offers c.in-Some.offer c.next.new.self.rest.items whole.offers_ordered

pub keep_offer-requires-clause-room : goal.keep_offer-requires-clause-room
keep_offer-requires-clause-room c =
    let whole : IsTenantState (with_offers c.loop-offer.tenant (c.in-Some.offer ∷ c.next.new.self.rest.items)) = subst IsTenantState (sym (ap (with_offers c.loop-offer.tenant) (sym c.in-Some.ensures.steps.0) ∙ c.loop-offer.invariant)) c.requires in
    room_for c.loop-offer.tenant.offers c.in-Some.offer c.next.new.self.rest.items MAX_OFFERS whole.few_offers
