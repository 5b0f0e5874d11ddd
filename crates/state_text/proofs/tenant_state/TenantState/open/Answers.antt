use Rattle.std.proofs.Common.{subst, ◌∙◌}
use Rattle.std.proofs.lemmas.List.{append-nil}
use Rattle.state_text.specs.declared.place.Place.TheVariants.{Own, Offered}
use Rattle.state_text.specs.States.{IsTenantState, TenantState}
use Rattle.state_text.proofs.PlaceLemmas.{place_less}
use Rattle.state_text.proofs.tenant_state.TenantState.open.Goals as goal

pub invariant_of-self : goal.invariant_of-self
invariant_of-self c =
    let less : TenantState = record { name = c.self.inside.name; limit = c.self.inside.limit; repositories = c.self.inside.repositories.items; seen = c.self.inside.seen.items; offers = c.pop.new.self.items } in
    place_less less (Offered c.in-Some.offer.receiver c.in-Some.offer.name) c.in-Some.offer.repository
    (subst IsTenantState (λ i. record { name = c.self.inside.name; limit = c.self.inside.limit; repositories = c.self.inside.repositories.items; seen = c.self.inside.seen.items; offers = c.in-Some.ensures.items i }) c.self.invariant)

pub invariant_of-self-2 : goal.invariant_of-self-2
invariant_of-self-2 c =
    let none = c.in_default.ensures.items ∙ append-nil c.pop.new.self.items in
    let less : TenantState = record { name = c.self.inside.name; limit = c.self.inside.limit; repositories = c.pop-2.new.self.items; seen = c.self.inside.seen.items; offers = c.pop.new.self.items } in
    place_less less (Own c.in-Some-pop.name) c.in-Some-pop.repository
    (subst IsTenantState (λ i. record { name = c.self.inside.name; limit = c.self.inside.limit; repositories = c.in-Some-pop.ensures.items i; seen = c.self.inside.seen.items; offers = none i }) c.self.invariant)
