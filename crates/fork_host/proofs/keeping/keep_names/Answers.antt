use Rattle.std.proofs.Common.{ap, subst, sym, ◌∙◌, ◌++◌}
use Rattle.state_text.specs.States.{Ascend}
use Rattle.fork_host.proofs.KeepingLemmas.{before_next}
use Rattle.fork_host.proofs.keeping.keep_names.Goals as goal

pub keep_name-requires : goal.keep_name-requires
keep_name-requires c =
    before_next c.loop-name.tenant.seen c.in-Some.name c.next.new.self.rest.items
    (subst Ascend (sym (ap (λ names. c.loop-name.tenant.seen ++ names) (sym c.in-Some.ensures.steps.0) ∙ ap (λ t. t.seen) c.loop-name.invariant)) c.requires)
