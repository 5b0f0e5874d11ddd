use Rattle.std.proofs.Common.{sym, subst}
use Rattle.git_reftx.specs.Sound.{AreRefNames}
use Rattle.git_reftx.proofs.MapLemmas.{named_empty}
use Rattle.git_reftx.proofs.ref_map.RefMap.new.Goals as goal

pub invariant_of-result : goal.invariant_of-result
invariant_of-result c = subst AreRefNames (sym c.new.ensures) named_empty
