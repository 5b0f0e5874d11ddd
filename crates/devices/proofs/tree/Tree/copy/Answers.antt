use Rattle.std.proofs.Common.{◌∙◌}
use Rattle.std.proofs.lemmas.Result.{IfOk-weaker}
use Rattle.devices.proofs.CopyLemmas.{copied_all}
use Rattle.devices.proofs.tree.Tree.copy.Goals as goal

pub returns : goal.returns
returns c = IfOk-weaker c.copied_among.result _ _ (λ copy is. copied_all c.args.self.now copy c.as_slice.result.now (c.as_slice.ensures.value ∙ c.in_ok-paths.ensures) is) c.copied_among.ensures
