use Rattle.std.proofs.Common.{◌≡◌, sym, ap, subst, ◌∙◌}
use Rattle.state_text.specs.declared.place.Place.TheVariants.{Own}
use Rattle.state_text.specs.Place.{with_at}
use Rattle.state_text.specs.States.{IsTenantState}
use Rattle.state_text.proofs.tenant_state.TenantState.close.Goals as goal

closed : (c : goal.In_ok-push-in-Own) → with_at c.args.self.now c.args.place c.args.repository ≡ record { name = c.self.inside.name; limit = c.self.inside.limit; repositories = c.push.new.self.items; seen = c.self.inside.seen.items; offers = c.self.inside.offers.items }
closed c =
    let items = c.in_ok-push-in-Own.ensures.items in
    ap (λ p. with_at c.args.self.now p c.args.repository) c.in-Own.is ∙ ap (λ t. with_at t (Own c.in-Own.name) c.args.repository) (sym c.self.view_is)
    ∙ (λ i. record { name = c.self.inside.name; limit = c.self.inside.limit; repositories = sym items i; seen = c.self.inside.seen.items; offers = c.self.inside.offers.items })

pub invariant_of-self : goal.invariant_of-self
invariant_of-self c = subst IsTenantState (closed c) c.requires

pub returns-in_ok-push-in-Own : goal.returns-in_ok-push-in-Own
returns-in_ok-push-in-Own c = sym (closed c)
