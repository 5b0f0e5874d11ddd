use Rattle.std.proofs.Common.{◌∙◌, Contains, subst}
use Rattle.git_name.specs.Same.{same_name}
use Rattle.lru.proofs.CallerLemmas.{Contains-remove_entry}
use Rattle.read_cache.specs.Cached.{Cached}
use Rattle.read_cache.proofs.CacheLemmas.{removed_apart}
use Rattle.read_cache.proofs.read_cache.ReadCache.forget.Goals as goal

pub invariant_of-self : goal.invariant_of-self
invariant_of-self c = (
  (λ n o there. c.self.invariant.0 n o (Contains-remove_entry (same_name c.args.name) c.self.inside.kept.entries (n, o) (subst (λ es. Contains es (n, o)) c.drop_name.ensures.entries there))),
  c.drop_name.ensures.cap ∙ c.self.invariant.1,
)

pub returns : goal.returns
returns c = λ n o there.
    let left = subst (λ es. Contains es (n, o)) c.drop_name.ensures.entries there in (
      subst (λ (es : Cached). Contains es (n, o)) c.self.view_is (Contains-remove_entry (same_name c.args.name) c.self.inside.kept.entries (n, o) left),
      removed_apart c.self.inside.kept.entries c.args.name n o c.drop_name.ensures.distinct left,
    )
