use Rattle.std.proofs.Common.{sym, subst}
use Rattle.state_text.specs.States.{IsTenantState}
use Rattle.state_text.proofs.StateLemmas.{fresh_right}
use Rattle.state_text.proofs.tenant_state.TenantState.new.Goals as goal

pub invariant_of-result : goal.invariant_of-result
invariant_of-result c =
    let none = c.new.ensures.items in
    let nothing = c.new-2.ensures.items in
    let no_offers = c.new-3.ensures.items in
    subst IsTenantState (λ i. record { name = c.args.name; limit = c.args.limit; repositories = sym none i; seen = sym nothing i; offers = sym no_offers i }) (fresh_right c.args.name c.args.limit c.as_bytes-name.ensures.name c.if-limit-gt-MAX_LIMIT.false)
