use Rattle.std.proofs.Common.{refl, subst, sym, ◌∙◌, false}
use Rattle.loose_store.specs.Files.{SameBut}
use Rattle.read_cache.proofs.SureLemmas.{sure_none, sure_put}
use Rattle.read_cache.proofs.WholeLemmas.{whole_but}
use Rattle.read_cache.proofs.cached_store.CachedStore.put.Goals as goal

pub invariant_of-self : goal.invariant_of-self
invariant_of-self g c = (
  λ h.
      let was = sym c.put_object.ensures.honest ∙ h in
      whole_but c.self.inside.cache c.forget.new.self (g.S.LooseFiles.contents c.self.inside.files) (g.S.LooseFiles.contents c.put_object.new.self) c.name-name.result c.forget.ensures (subst (λ n. SameBut n (g.S.LooseFiles.contents c.self.inside.files) (g.S.LooseFiles.contents c.put_object.new.self)) (sym c.name-name.ensures) (c.put_object.ensures.others was)) (c.self.invariant.0 was),
  sure_put c.self.inside.is_sure (g.S.LooseFiles.honest c.self.inside.files) (g.S.LooseFiles.honest c.put_object.new.self) (g.S.LooseFiles.contents c.self.inside.files) (g.S.LooseFiles.contents c.put_object.new.self) c.args.sealed c.put_object.ensures.honest
      c.in-Ok.ensures.ok c.self.invariant.1,
)

pub invariant_of-self-in-Err : goal.invariant_of-self-in-Err
invariant_of-self-in-Err g c = (
  λ h.
      let was = sym c.put_object.ensures.honest ∙ h in
      whole_but c.self.inside.cache c.forget.new.self (g.S.LooseFiles.contents c.self.inside.files) (g.S.LooseFiles.contents c.put_object.new.self) c.name-name.result c.forget.ensures (subst (λ n. SameBut n (g.S.LooseFiles.contents c.self.inside.files) (g.S.LooseFiles.contents c.put_object.new.self)) (sym c.name-name.ensures) (c.put_object.ensures.others was)) (c.self.invariant.0 was),
  sure_none false (g.S.LooseFiles.honest c.put_object.new.self) (g.S.LooseFiles.contents c.put_object.new.self) refl,
)
