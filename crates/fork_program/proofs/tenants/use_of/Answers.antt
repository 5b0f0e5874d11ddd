use Rattle.std.proofs.Common.{ap, sym, ◌∙◌}
use Rattle.fork_program.specs.Changing.{number_told}
use Rattle.fork_program.proofs.ChangingLemmas.{use_told}
use Rattle.fork_program.proofs.tenants.use_of.Goals as goal

pub returns-in-Some-clause-told : goal.returns-in-Some-clause-told
returns-in-Some-clause-told g c trusted view there =
    use_told _ _ _ _ _ c.invariant.ensures.whole.orderly (rw c.in-Done.is at c.answer.ensures.explained trusted) (ap number_told (sym c.as_bytes.ensures) ∙ sym c.number_before.ensures ∙ c.in-Some.is) view there
