use Rattle.std.proofs.Common.{Contains, subst, sym}
use Rattle.read_cache.specs.Cached.{Cached}
use Rattle.read_cache.proofs.read_cache.ReadCache.bounds.Goals as goal

pub returns-clause-small : goal.returns-clause-small
returns-clause-small c = λ n o there. (c.self.invariant.0 n o (subst (λ (es : Cached). Contains es (n, o)) (sym c.self.view_is) there)).1
