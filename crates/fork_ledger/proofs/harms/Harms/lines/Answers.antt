use Rattle.std.proofs.Common.{ap, sym, ◌∙◌}
use Rattle.std.specs.FinMap as map
use Rattle.std.proofs.lemmas.Result.{IfOk-weaker}
use Rattle.git_name.proofs.Names.{name_total}
use Rattle.git_name.proofs.TreeMaps.{entries_of_ordered}
use Rattle.fork_request.specs.Harms.{harm_lines}
use Rattle.fork_ledger.specs.Harms.{HarmMap}
use Rattle.fork_ledger.proofs.harms.Harms.lines.Goals as goal

pub returns : goal.returns
returns c = IfOk-weaker c.lines_of.result _ _ (λ text is.
    is ∙ ap harm_lines (sym (entries_of_ordered name_total c.self.inside.found.entries c.lines_of.ensures.ordered) ∙ ap (λ (m : HarmMap). map.entries m) c.self.view_is)) c.lines_of.ensures.text
