use Rattle.std.proofs.Common.{subst, sym, ◌∙◌}
use Rattle.fork_program.specs.Given.{AreGiven}
use Rattle.fork_program.proofs.GivenLemmas.{no_grants}
use Rattle.fork_program.proofs.restored.Restored.with_tenants.Goals as goal

pub returns-then-are_none-clause-ok : goal.returns-then-are_none-clause-ok
returns-then-are_none-clause-ok g c = subst (λ grants. AreGiven grants c.args.self c.args.self) (sym (sym c.as_slice.ensures.value ∙ c.are_none.ensures c.if-are_none.true)) (no_grants c.args.self)
