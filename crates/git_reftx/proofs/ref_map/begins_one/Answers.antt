use Rattle.std.proofs.Common.{None, Some, sym, ◌∙◌}
use Rattle.std.specs.FinMap as map
use Rattle.git_reftx.proofs.NearLemmas.{begins_first}
use Rattle.git_reftx.proofs.ref_map.begins_one.Goals as goal

pub returns-in_default : goal.returns-in_default
returns-in_default c = sym (begins_first c.args.front.now (map.keys c.args.references.now) None c.iter-texts.ensures.ordered c.in_default.ensures)

pub returns : goal.returns
returns c = c.starts_with.ensures.value ∙ sym (begins_first c.args.front.now (map.keys c.args.references.now) (Some c.in-Some.first.now) c.iter-texts.ensures.ordered c.in-Some.ensures)
