use Rattle.std.proofs.Common.{◌≡◌, ◌<◌, true, false, length, map, sym, ap, subst, ◌∙◌, arith}
use Rattle.fork_model.specs.declared.limits.TheConstants.{MAX_REPOSITORIES}
use Rattle.state_text.specs.Adding.{AreBefore}
use Rattle.state_text.specs.States.{Ascend, IsNamedRepository, IsTenantState, TenantState}
use Rattle.state_text.proofs.StateLemmas.{repository_more}
use Rattle.state_text.proofs.tenant_state.TenantState.add_repository.Goals as goal

pub returns-then-not-repository_follows-clause-cause : goal.returns-then-not-repository_follows-clause-cause
returns-then-not-repository_follows-clause-cause c all =
    let items = ap (λ t. t.repositories) c.self.view_is in
    let here = subst (λ rs. AreBefore (map (λ r. r.0) rs) c.args.name) (sym (c.as_slice.ensures.value ∙ items)) all in
    let bad : true ≡ false = sym (c.repository_follows.ensures.1 here) ∙ c.if-not-repository_follows.true in
    absurd (cc)

right : (c : goal.In-Ok) → IsTenantState (record { name = c.self.inside.name; limit = c.self.inside.limit; repositories = c.push.new.self.items; seen = c.self.inside.seen.items; offers = c.self.inside.offers.items })
right c =
    let tenant : TenantState = record { name = c.self.inside.name; limit = c.self.inside.limit; repositories = c.self.inside.repositories.items; seen = c.self.inside.seen.items; offers = c.self.inside.offers.items } in
    let room : length c.self.inside.repositories.items < MAX_REPOSITORIES = (let past = c.if-len-ge-MAX_REPOSITORIES.false in let count = c.len.ensures in omega (arith, past, count)) in
    let before = subst (λ rs. AreBefore (map (λ r. r.0) rs) c.args.name) c.as_slice.ensures.value (c.repository_follows.ensures.0 c.if-not-repository_follows.false) in
    let new : IsNamedRepository (c.args.name, c.args.repository) = record { named = c.as_bytes-name.ensures.name; told = c.tell.ensures } in
    subst (λ rs. IsTenantState (record { name = c.self.inside.name; limit = c.self.inside.limit; repositories = rs; seen = c.self.inside.seen.items; offers = c.self.inside.offers.items })) (sym c.in-Ok.ensures.items)
    (repository_more tenant c.args.name c.args.repository c.self.invariant new before room)

pub invariant_of-self-2 : goal.invariant_of-self-2
invariant_of-self-2 c = right c

pub returns-clause-sound : goal.returns-clause-sound
returns-clause-sound c = right c

pub repository_follows-requires : goal.repository_follows-requires
repository_follows-requires c = subst (λ rs. Ascend (map (λ r. r.0) rs)) (sym c.as_slice.ensures.value) c.self.invariant.ordered
