use Rattle.std.proofs.Common.{sym, ap, ◌∙◌}
use Rattle.std.specs.List.{find}
use Rattle.std.specs.Option.{option_map}
use Rattle.std.specs.FinMap.{entries}
use Rattle.fork_host.specs.Restored.{is_bad_target, target_of}
use Rattle.fork_host.proofs.TargetLemmas.{found_here, none_here}
use Rattle.fork_host.proofs.targets.bad_in_repositories.Goals as goal

pub returns-then-is_some : goal.returns-then-is_some
returns-then-is_some g c =
    found_here (λ row. row.1) (is_bad_target (g.K.Known.kinds c.args.known.now)) c.args.repositories.now c.loop-repository.repository-index c.loop-repository-item.result c.bad_target_in-bad.result c.loop-repository-test.true c.loop-repository-item.is
    (c.bad_target_in-bad.ensures ∙ ap (λ references. option_map target_of (find (is_bad_target (g.K.Known.kinds c.args.known.now)) (entries references))) c.references.ensures.references) c.loop-repository.invariant (sym c.is_some.ensures ∙ c.if-is_some.true)

pub loop-repository-preserved : goal.loop-repository-preserved
loop-repository-preserved g c =
    none_here (λ row. row.1) (is_bad_target (g.K.Known.kinds c.args.known.now)) c.args.repositories.now c.loop-repository.repository-index c.loop-repository-item.result c.bad_target_in-bad.result c.loop-repository-test.true c.loop-repository-item.is
    (c.bad_target_in-bad.ensures ∙ ap (λ references. option_map target_of (find (is_bad_target (g.K.Known.kinds c.args.known.now)) (entries references))) c.references.ensures.references) c.loop-repository.invariant (sym c.is_some.ensures ∙ c.if-is_some.false)
