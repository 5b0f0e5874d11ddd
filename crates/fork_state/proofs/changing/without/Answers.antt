use Rattle.std.proofs.Common.{◌∙◌, ◌++◌, ap, rules}
use Rattle.fork_host.proofs.KeepingLemmas.{moved}
use Rattle.fork_state.specs.Changed.{states_without}
use Rattle.fork_state.proofs.ChangedLemmas.{next_before, next_room, without_ascend, without_few, without_next, without_whole}
use Rattle.fork_state.proofs.changing.without.Goals as goal

pub keep_tenant-requires-clause-before : goal.keep_tenant-requires-clause-before
keep_tenant-requires-clause-before c =
    next_before _ c.loop-tenant.changed (states_without c.args.name.now c.next.new.self.rest.items) c.in-Some.tenant (without_ascend c.args.name.now c.args.states c.as_slice-states.ensures.sound)
    (without_whole c.args.name.now _ c.loop-tenant.changed _ c.next.new.self.rest.items c.in-Some.tenant c.loop-tenant.invariant c.in-Some.ensures.steps.0 (search rules))

pub keep_tenant-requires-clause-room : goal.keep_tenant-requires-clause-room
keep_tenant-requires-clause-room c =
    next_room _ c.loop-tenant.changed (states_without c.args.name.now c.next.new.self.rest.items) c.in-Some.tenant (without_few c.args.name.now c.args.states c.as_slice-states.ensures.sound)
    (without_whole c.args.name.now _ c.loop-tenant.changed _ c.next.new.self.rest.items c.in-Some.tenant c.loop-tenant.invariant c.in-Some.ensures.steps.0 (search rules))

pub loop-tenant-preserved : goal.loop-tenant-preserved
loop-tenant-preserved c =
    ap (λ ts. ts ++ states_without c.args.name.now c.next.new.self.rest.items) c.in_ok-keep_tenant.ensures
    ∙ moved c.loop-tenant.changed c.in-Some.tenant (states_without c.args.name.now c.next.new.self.rest.items)
    ∙ without_whole c.args.name.now _ c.loop-tenant.changed _ c.next.new.self.rest.items c.in-Some.tenant c.loop-tenant.invariant c.in-Some.ensures.steps.0 (search rules)

pub loop-tenant-preserved-then-is_of : goal.loop-tenant-preserved-then-is_of
loop-tenant-preserved-then-is_of c = without_next c.args.name.now _ c.loop-tenant.changed _ c.next.new.self.rest.items c.in-Some.tenant c.loop-tenant.invariant c.in-Some.ensures.steps.0 (search rules)
