use Rattle.std.proofs.Common.{sym, ◌∙◌}
use Rattle.chained_log.proofs.SumLemmas.{take_fewer}
use Rattle.chained_log.proofs.sums.agrees.Goals as goal

pub returns : goal.returns
returns c =
    let both = take_fewer c.args.bytes.now c.args.sum.now c.min-n.result 32 c.told-sum c.min-n.ensures in
    (λ t. sym both.0 ∙ (c.same.ensures.0 t ∙ both.1), λ e. c.same.ensures.1 (both.0 ∙ (e ∙ sym both.1)))
