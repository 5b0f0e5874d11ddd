use Rattle.std.proofs.Common.{sym, ◌∙◌}
use Rattle.packed_store.proofs.compaction.copy_some.Goals as goal

pub loop-name-preserved : goal.loop-name-preserved
loop-name-preserved g c =
    let so_far = c.loop-name.invariant in (
      (λ all. c.put_again.ensures.kept (λ honest. so_far.1 (sym so_far.2 ∙ honest) (all (sym so_far.2 ∙ honest))) ∙ so_far.0 all),
      (λ honest all. c.put_again.ensures.there (so_far.2 ∙ honest) (so_far.1 honest all)),
      c.put_again.ensures.honest ∙ so_far.2,
    )

pub returns-in_err-put_again-clause-kept : goal.returns-in_err-put_again-clause-kept
returns-in_err-put_again-clause-kept g c all =
    let so_far = c.loop-name.invariant in
    c.put_again.ensures.kept (λ honest. so_far.1 (sym so_far.2 ∙ honest) (all (sym so_far.2 ∙ honest))) ∙ so_far.0 all
