use Rattle.read_cache.proofs.WholeLemmas.{store_stays}
use Rattle.read_cache.proofs.cached_store.CachedStore.forget_removed.Goals as goal

pub invariant_of-self : goal.invariant_of-self
invariant_of-self g c =
    store_stays c.self.inside.cache c.self.inside.is_sure (g.S.LooseFiles.honest c.self.inside.files) (g.S.LooseFiles.honest c.forget_removed.new.self)
    (g.S.LooseFiles.contents c.self.inside.files) (g.S.LooseFiles.contents c.forget_removed.new.self) c.forget_removed.ensures.honest c.forget_removed.ensures.contents c.self.invariant
