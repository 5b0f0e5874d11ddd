use Rattle.std.proofs.Common.{ap, subst, sym, ◌∙◌, ◌∷◌}
use Rattle.fork_model.specs.declared.limits.TheConstants.{MAX_REPOSITORIES}
use Rattle.fork_host.specs.Keeping.{with_repositories}
use Rattle.fork_host.proofs.KeepingLemmas.{before_next_by, room_for}
use Rattle.state_text.specs.States.{IsTenantState}
use Rattle.fork_state.proofs.limiting.keep_repositories.Goals as goal

pub keep_repository-requires-clause-before : goal.keep_repository-requires-clause-before
keep_repository-requires-clause-before c =
    let whole : IsTenantState (with_repositories c.loop-name.tenant ((c.in-Some.name, c.in-Some.repository) ∷ c.next.new.self.rest.items)) = subst IsTenantState (sym (ap (with_repositories c.loop-name.tenant) (sym c.in-Some.ensures.steps.0) ∙ c.loop-name.invariant)) c.requires in
    before_next_by (λ row. row.0) c.loop-name.tenant.repositories (c.in-Some.name, c.in-Some.repository) c.next.new.self.rest.items whole.ordered

pub keep_repository-requires-clause-room : goal.keep_repository-requires-clause-room
keep_repository-requires-clause-room c =
    let whole : IsTenantState (with_repositories c.loop-name.tenant ((c.in-Some.name, c.in-Some.repository) ∷ c.next.new.self.rest.items)) = subst IsTenantState (sym (ap (with_repositories c.loop-name.tenant) (sym c.in-Some.ensures.steps.0) ∙ c.loop-name.invariant)) c.requires in
    room_for c.loop-name.tenant.repositories (c.in-Some.name, c.in-Some.repository) c.next.new.self.rest.items MAX_REPOSITORIES whole.few
