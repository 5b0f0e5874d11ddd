use Rattle.std.proofs.Common.{◌≡◌, ◌∙◌, ◌⊎◌, Contains, subst}
use Rattle.git_name.specs.Object.{object_name}
use Rattle.read_cache.specs.Cached.{Cached}
use Rattle.read_cache.proofs.CacheLemmas.{put_of, fit_of}
use Rattle.read_cache.proofs.read_cache.ReadCache.keep.Goals as goal

pub invariant_of-self : goal.invariant_of-self
invariant_of-self c = (fit_of c.self.inside.kept c.put.new.kept.entries c.args.sealed.now c.put.ensures.put c.self.invariant.0, c.put.ensures.cap ∙ c.self.invariant.1)

pub returns : goal.returns
returns c = λ n o there.
    subst (λ (es : Cached). Contains es (n, o) ⊎ ((n ≡ object_name c.args.sealed.now) × (o ≡ c.args.sealed.now))) c.self.view_is
    (put_of c.self.inside.kept c.put.new.kept.entries c.args.sealed.now n o c.put.ensures.put there)
