use Rattle.std.proofs.Common.{sym, subst}
use Rattle.git_reftx.specs.Sound.{AreRefNames}
use Rattle.git_reftx.proofs.MapLemmas.{whichever, named_remove}
use Rattle.git_reftx.proofs.ref_map.RefMap.remove.Goals as goal

pub invariant_of-self : goal.invariant_of-self
invariant_of-self c =
    whichever (AreRefNames c.remove.new.self) c.remove.result c.remove.ensures.ok c.remove.ensures.err
    (λ is. subst AreRefNames (sym is) (named_remove c.self.inside.references c.as_bytes.result.now c.self.invariant))
    (λ same. subst AreRefNames (sym same) c.self.invariant)
