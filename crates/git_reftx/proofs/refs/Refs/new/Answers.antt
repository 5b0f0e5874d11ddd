use Rattle.std.proofs.Common.{sym, subst}
use Rattle.git_reftx.specs.Sound.{AreSound}
use Rattle.git_reftx.proofs.TxLemmas.{sound_empty}
use Rattle.git_reftx.proofs.refs.Refs.new.Goals as goal

pub invariant_of-result : goal.invariant_of-result
invariant_of-result c = subst AreSound (sym c.new.ensures) sound_empty
