use Rattle.read_cache.proofs.WholeLemmas.{store_stays}
use Rattle.read_cache.proofs.cached_store.CachedStore.sync.Goals as goal

pub invariant_of-self : goal.invariant_of-self
invariant_of-self g c =
    store_stays c.self.inside.cache c.self.inside.is_sure (g.S.LooseFiles.honest c.self.inside.files) (g.S.LooseFiles.honest c.sync.new.self)
    (g.S.LooseFiles.contents c.self.inside.files) (g.S.LooseFiles.contents c.sync.new.self) c.sync.ensures.honest c.sync.ensures.contents c.self.invariant
