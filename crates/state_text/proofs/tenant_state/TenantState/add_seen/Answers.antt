use Rattle.std.proofs.Common.{◌≡◌, true, false, sym, ap, subst, ◌∙◌}
use Rattle.state_text.specs.Adding.{AreBefore}
use Rattle.state_text.specs.States.{IsTenantState, TenantState}
use Rattle.state_text.proofs.StateLemmas.{seen_more}
use Rattle.state_text.proofs.tenant_state.TenantState.add_seen.Goals as goal

right : (c : goal.In-Ok) → IsTenantState (record { name = c.self.inside.name; limit = c.self.inside.limit; repositories = c.self.inside.repositories.items; seen = c.push.new.self.items; offers = c.self.inside.offers.items })
right c =
    let tenant : TenantState = record { name = c.self.inside.name; limit = c.self.inside.limit; repositories = c.self.inside.repositories.items; seen = c.self.inside.seen.items; offers = c.self.inside.offers.items } in
    let before = subst (λ ns. AreBefore ns c.args.name) c.as_slice.ensures.value (c.name_follows.ensures.0 c.if-not-name_follows.false) in
    subst (λ ns. IsTenantState (record { name = c.self.inside.name; limit = c.self.inside.limit; repositories = c.self.inside.repositories.items; seen = ns; offers = c.self.inside.offers.items })) (sym c.in-Ok.ensures.items)
    (seen_more tenant c.args.name c.self.invariant c.as_bytes-name.ensures.name before)

pub invariant_of-self-2 : goal.invariant_of-self-2
invariant_of-self-2 c = right c

pub returns-clause-sound : goal.returns-clause-sound
returns-clause-sound c = right c

pub returns-then-not-name_follows-clause-cause : goal.returns-then-not-name_follows-clause-cause
returns-then-not-name_follows-clause-cause c all =
    let here = subst (λ ns. AreBefore ns c.args.name) (sym (c.as_slice.ensures.value ∙ ap (λ t. t.seen) c.self.view_is)) all in
    let bad : true ≡ false = sym (c.name_follows.ensures.1 here) ∙ c.if-not-name_follows.true in
    absurd (cc)
