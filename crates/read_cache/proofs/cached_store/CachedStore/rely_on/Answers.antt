use Rattle.read_cache.proofs.WholeLemmas.{store_stays}
use Rattle.read_cache.proofs.cached_store.CachedStore.rely_on.Goals as goal

pub invariant_of-self : goal.invariant_of-self
invariant_of-self g c =
    store_stays c.self.inside.cache c.self.inside.is_sure (g.S.LooseFiles.honest c.self.inside.files) (g.S.LooseFiles.honest c.rely_on.new.self)
    (g.S.LooseFiles.contents c.self.inside.files) (g.S.LooseFiles.contents c.rely_on.new.self) c.rely_on.ensures.honest c.rely_on.ensures.contents c.self.invariant
