use Rattle.std.proofs.Common.{sym, ◌∙◌}
use Rattle.read_cache.proofs.SureLemmas.{sure_at}
use Rattle.read_cache.proofs.WholeLemmas.{whole_less}
use Rattle.read_cache.proofs.cached_store.CachedStore.read_past.Goals as goal

pub invariant_of-self : goal.invariant_of-self
invariant_of-self g c = (
  λ h. (let was = sym c.read_checked.ensures.honest ∙ h in whole_less c.self.inside.cache c.self.inside.cache (g.S.LooseFiles.contents c.self.inside.files) (g.S.LooseFiles.contents c.read_checked.new.files) (λ n o there. there) (c.read_checked.ensures.kept was) (c.self.invariant.0 was)),
  sure_at c.self.inside.is_sure (g.S.LooseFiles.honest c.self.inside.files) (g.S.LooseFiles.honest c.read_checked.new.files) (g.S.LooseFiles.contents c.self.inside.files) (g.S.LooseFiles.contents c.read_checked.new.files) c.read_checked.ensures.honest c.read_checked.ensures.kept c.self.invariant.1,
)
