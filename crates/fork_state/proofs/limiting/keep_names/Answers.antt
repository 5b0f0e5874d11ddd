use Rattle.std.proofs.Common.{ap, subst, sym, ◌∙◌, ◌∷◌}
use Rattle.fork_host.specs.Keeping.{with_names}
use Rattle.fork_host.proofs.KeepingLemmas.{before_next}
use Rattle.state_text.specs.States.{IsTenantState}
use Rattle.fork_state.proofs.limiting.keep_names.Goals as goal

pub keep_name-requires : goal.keep_name-requires
keep_name-requires c =
    let whole : IsTenantState (with_names c.loop-name.tenant (c.in-Some.name ∷ c.next.new.self.rest.items)) = subst IsTenantState (sym (ap (with_names c.loop-name.tenant) (sym c.in-Some.ensures.steps.0) ∙ c.loop-name.invariant)) c.requires in
    before_next c.loop-name.tenant.seen c.in-Some.name c.next.new.self.rest.items whole.seen_ordered
