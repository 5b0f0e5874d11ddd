use Rattle.std.proofs.Common.{◌<◌, length, map, sym, subst, arith}
use Rattle.fork_model.specs.declared.limits.TheConstants.{MAX_TENANTS}
use Rattle.state_text.specs.Adding.{AreBefore}
use Rattle.state_text.specs.States.{IsStates}
use Rattle.state_text.proofs.StateLemmas.{tenant_more}
use Rattle.state_text.proofs.states.States.push.Goals as goal

right : (c : goal.In-Ok) → IsStates c.push.new.self.items
right c =
    let states = c.self.inside.tenants.items in
    let room : length states < MAX_TENANTS = (let past = c.if-len-ge-MAX_TENANTS.false in let count = c.len.ensures in omega (arith, past, count)) in
    let before = subst (λ ts. AreBefore (map (λ t. t.name) ts) c.name.result.now) c.as_slice.ensures.value (c.tenant_follows.ensures.0 c.if-not-tenant_follows.false) in
    subst IsStates (sym c.in-Ok.ensures.items) (tenant_more states c.args.tenant c.self.invariant c.name.ensures.sound (subst (AreBefore (map (λ t. t.name) states)) c.name.ensures.name before) room)

pub invariant_of-self-2 : goal.invariant_of-self-2
invariant_of-self-2 c = right c

pub returns-clause-sound : goal.returns-clause-sound
returns-clause-sound c = right c
