use Rattle.std.proofs.Common.{refl, sym, ◌∙◌, false}
use Rattle.read_cache.proofs.SureLemmas.{sure_none, sure_removed}
use Rattle.read_cache.proofs.WholeLemmas.{whole_but}
use Rattle.read_cache.proofs.cached_store.CachedStore.remove.Goals as goal

pub invariant_of-self : goal.invariant_of-self
invariant_of-self g c = (
  λ h.
      let was = sym c.remove.ensures.honest ∙ h in
      whole_but c.self.inside.cache c.forget.new.self (g.S.LooseFiles.contents c.self.inside.files) (g.S.LooseFiles.contents c.remove.new.self) c.args.name c.forget.ensures (c.remove.ensures.others was) (c.self.invariant.0 was),
  sure_removed c.self.inside.is_sure (g.S.LooseFiles.honest c.self.inside.files) (g.S.LooseFiles.honest c.remove.new.self) (g.S.LooseFiles.contents c.self.inside.files) (g.S.LooseFiles.contents c.remove.new.self) c.args.name c.remove.ensures.honest c.in_default.ensures.ok c.self.invariant.1,
)

pub invariant_of-self-2 : goal.invariant_of-self-2
invariant_of-self-2 g c = (
  λ h.
      let was = sym c.remove.ensures.honest ∙ h in
      whole_but c.self.inside.cache c.forget.new.self (g.S.LooseFiles.contents c.self.inside.files) (g.S.LooseFiles.contents c.remove.new.self) c.args.name c.forget.ensures (c.remove.ensures.others was) (c.self.invariant.0 was),
  sure_none false (g.S.LooseFiles.honest c.remove.new.self) (g.S.LooseFiles.contents c.remove.new.self) refl,
)
