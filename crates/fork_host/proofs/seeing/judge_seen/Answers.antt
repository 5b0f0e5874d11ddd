use Rattle.std.proofs.Common.{sym, ◌∙◌}
use Rattle.fork_host.specs.Handle.{visible_by}
use Rattle.fork_host.specs.Restored.{first_astray, repositories_in}
use Rattle.fork_host.proofs.RestoreLemmas.{told_target}
use Rattle.fork_host.proofs.seeing.judge_seen.Goals as goal

pub returns-in-Some-first_bad_target-clause-against : goal.returns-in-Some-first_bad_target-clause-against
returns-in-Some-first_bad_target-clause-against g c = λ are.
    let visible = visible_by c.args.own.now in
    let told = told_target (first_astray (repositories_in c.args.state.now) visible) c.in-Some-first_bad_target.target (sym c.in-Some-first_bad_target.is ∙ c.first_bad_target.ensures) in
    (sym (c.first_bad.ensures.found visible are) ∙ c.in_default.is, told.0, told.1)
