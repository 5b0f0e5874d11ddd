use Rattle.std.proofs.Common.{◌++◌, ◌∷◌, [], length, take, drop, ap, refl, sym, ◌∙◌}
use Rattle.chained_log.proofs.SumLemmas.{padded}
use Rattle.chained_log.proofs.sums.length_at.Goals as goal

pub returns : goal.returns
returns c =
    padded c.args.bytes.now (0 ∷ 0 ∷ 0 ∷ 0 ∷ []) c.min-n.result 4 refl c.min-n.ensures
    ∙ ap (λ w. take (length c.args.bytes.now) (w ++ drop c.min-n.result (0 ∷ 0 ∷ 0 ∷ 0 ∷ []))) (sym c.copy_from_slice.ensures.after)
    ∙ ap (take (length c.args.bytes.now)) (sym c.number_of.ensures)
