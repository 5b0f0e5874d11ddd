use Rattle.std.proofs.Common.{sym, subst}
use Rattle.git_refname.specs.Rule.{IsRefName}
use Rattle.git_reftx.specs.Sound.{AreRefNames}
use Rattle.git_reftx.proofs.MapLemmas.{whichever, named_insert}
use Rattle.git_reftx.proofs.ref_map.RefMap.insert.Goals as goal

pub invariant_of-self : goal.invariant_of-self
invariant_of-self c =
    whichever (AreRefNames c.insert.new.self) c.insert.result c.insert.ensures.ok c.insert.ensures.err
    (λ is. subst AreRefNames (sym is) (named_insert c.self.inside.references c.as_bytes.result.now c.args.target c.self.invariant (subst IsRefName (sym c.as_bytes.ensures.bytes) c.as_bytes.ensures.name)))
    (λ same. subst AreRefNames (sym same) c.self.invariant)
