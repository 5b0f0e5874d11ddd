use Rattle.std.proofs.Common.{◌≡◌, ◌≢◌, ◌<◌, true, false, length, map, sym, ap, subst, ◌∙◌, arith}
use Rattle.fork_model.specs.declared.limits.TheConstants.{MAX_OFFERS}
use Rattle.state_text.specs.Adding.{AreBefore}
use Rattle.state_text.specs.Offer.{words_of_offer}
use Rattle.std.proofs.lemmas.Bool.Decides.{Decides-eqb}
use Rattle.std.proofs.lemmas.Slice.Eq.{slice_eq-Decides}
use Rattle.state_text.specs.States.{IsOffer, IsTenantState, MayBeTold, TenantState}
use Rattle.state_text.proofs.StateLemmas.{offer_more}
use Rattle.state_text.proofs.tenant_state.TenantState.add_offer.Goals as goal

pub returns-then-not-offer_follows-clause-cause : goal.returns-then-not-offer_follows-clause-cause
returns-then-not-offer_follows-clause-cause c all =
    let items = ap (λ t. t.offers) c.self.view_is in
    let here = subst (λ os. AreBefore (map words_of_offer os) (words_of_offer c.args.offer)) (sym (c.as_slice.ensures.value ∙ items)) all in
    let bad : true ≡ false = sym (c.offer_follows.ensures.1 here) ∙ c.if-not-offer_follows.true in
    absurd (cc)

right : (c : goal.In-Ok) → IsTenantState (record { name = c.self.inside.name; limit = c.self.inside.limit; repositories = c.self.inside.repositories.items; seen = c.self.inside.seen.items; offers = c.push.new.self.items })
right c =
    let tenant : TenantState = record { name = c.self.inside.name; limit = c.self.inside.limit; repositories = c.self.inside.repositories.items; seen = c.self.inside.seen.items; offers = c.self.inside.offers.items } in
    let room : length c.self.inside.offers.items < MAX_OFFERS = (let past = c.if-len-ge-MAX_OFFERS.false in let count = c.len.ensures in omega (arith, past, count)) in
    let before = subst (λ os. AreBefore (map words_of_offer os) (words_of_offer c.args.offer)) c.as_slice.ensures.value (c.offer_follows.ensures.0 c.if-not-offer_follows.false) in
    let apart : c.args.offer.receiver ≢ tenant.name = (λ same.
    absurd (let bad : true ≡ false = sym ((slice_eq-Decides Decides-eqb c.receiver.result.now c.self.inside.name c.eq.result c.eq.ensures).1 (c.receiver.ensures.receiver ∙ same)) ∙ c.if-eq.false in cc bad)) in
    let new : IsOffer tenant.name c.args.offer = record { receiver_named = c.receiver.ensures.named; to_another = apart; named = c.name-name.ensures.named; told = subst MayBeTold c.repository.ensures c.tell.ensures } in
    subst (λ os. IsTenantState (record { name = c.self.inside.name; limit = c.self.inside.limit; repositories = c.self.inside.repositories.items; seen = c.self.inside.seen.items; offers = os })) (sym c.in-Ok.ensures.items)
    (offer_more tenant c.args.offer c.self.invariant new before room)

pub invariant_of-self-2 : goal.invariant_of-self-2
invariant_of-self-2 c = right c

pub returns-clause-sound : goal.returns-clause-sound
returns-clause-sound c = right c
