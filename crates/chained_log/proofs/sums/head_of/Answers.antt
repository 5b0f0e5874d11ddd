use Rattle.std.proofs.Common.{◌++◌, ap, ◌∙◌}
use Rattle.sha2.specs.Sha256.{sha256}
use Rattle.chained_log.specs.Log.{head_sum, length_bytes}
use Rattle.chained_log.proofs.sums.head_of.Goals as goal

pub returns : goal.returns
unfolding head_sum length_bytes
returns c = c.sum_of.ensures ∙ ap (λ w. sha256 (c.args.before.now ++ w)) (c.as_slice.ensures ∙ c.to_be_bytes.ensures)
