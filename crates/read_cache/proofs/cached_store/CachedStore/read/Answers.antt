use Rattle.std.proofs.Common.{sym, ◌∙◌}
use Rattle.read_cache.proofs.SureLemmas.{sure_at}
use Rattle.read_cache.proofs.cached_store.CachedStore.read.Goals as goal

pub invariant_of-self : goal.invariant_of-self
invariant_of-self g c = (
  λ h. c.read_through.ensures.whole (sym c.read_through.ensures.honest ∙ h),
  sure_at c.self.inside.is_sure (g.S.LooseFiles.honest c.self.inside.files) (g.S.LooseFiles.honest c.read_through.new.files) (g.S.LooseFiles.contents c.self.inside.files) (g.S.LooseFiles.contents c.read_through.new.files) c.read_through.ensures.honest c.read_through.ensures.kept c.self.invariant.1,
)
