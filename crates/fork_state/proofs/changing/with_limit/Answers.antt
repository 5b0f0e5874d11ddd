use Rattle.std.proofs.Common.{◌∙◌, ◌++◌, ap}
use Rattle.fork_host.proofs.KeepingLemmas.{moved}
use Rattle.fork_state.specs.Changed.{states_limited}
use Rattle.fork_state.proofs.ChangedLemmas.{limited_ascend, limited_few, limited_whole, next_before, next_room}
use Rattle.fork_state.proofs.changing.with_limit.Goals as goal

pub keep_tenant-requires-clause-before : goal.keep_tenant-requires-clause-before
keep_tenant-requires-clause-before c =
    next_before _ c.loop-tenant.changed (states_limited c.args.name.now c.args.limit c.next.new.self.rest.items) c.in_ok-tenant.tenant (limited_ascend c.args.name.now c.args.limit c.args.states c.as_slice-states.ensures.sound)
    (limited_whole c.args.name.now c.args.limit _ c.loop-tenant.changed _ c.next.new.self.rest.items c.in-Some.tenant c.in_ok-tenant.tenant c.loop-tenant.invariant c.in-Some.ensures.steps.0 c.in_ok-tenant.ensures)

pub keep_tenant-requires-clause-room : goal.keep_tenant-requires-clause-room
keep_tenant-requires-clause-room c =
    next_room _ c.loop-tenant.changed (states_limited c.args.name.now c.args.limit c.next.new.self.rest.items) c.in_ok-tenant.tenant (limited_few c.args.name.now c.args.limit c.args.states c.as_slice-states.ensures.sound)
    (limited_whole c.args.name.now c.args.limit _ c.loop-tenant.changed _ c.next.new.self.rest.items c.in-Some.tenant c.in_ok-tenant.tenant c.loop-tenant.invariant c.in-Some.ensures.steps.0 c.in_ok-tenant.ensures)

pub loop-tenant-preserved : goal.loop-tenant-preserved
loop-tenant-preserved c =
    ap (λ ts. ts ++ states_limited c.args.name.now c.args.limit c.next.new.self.rest.items) c.in_ok-keep_tenant.ensures
    ∙ moved c.loop-tenant.changed c.in_ok-tenant.tenant (states_limited c.args.name.now c.args.limit c.next.new.self.rest.items)
    ∙ limited_whole c.args.name.now c.args.limit _ c.loop-tenant.changed _ c.next.new.self.rest.items c.in-Some.tenant c.in_ok-tenant.tenant c.loop-tenant.invariant c.in-Some.ensures.steps.0 c.in_ok-tenant.ensures
