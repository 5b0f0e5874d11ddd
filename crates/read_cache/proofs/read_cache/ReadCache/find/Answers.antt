use Rattle.std.proofs.Common.{◌≡◌, ◌∙◌, Contains, subst}
use Rattle.std.specs.Prelude.{IfSome}
use Rattle.std.proofs.lemmas.Result.{IfOk-weaker}
use Rattle.lru.proofs.CallerLemmas.{Contains-promoted}
use Rattle.git_name.specs.Object.{object_name}
use Rattle.git_name.specs.Same.{same_name}
use Rattle.read_cache.specs.Cached.{Cached}
use Rattle.read_cache.proofs.CacheLemmas.{found_there, some_more}
use Rattle.read_cache.proofs.read_cache.ReadCache.find.Goals as goal

pub invariant_of-self : goal.invariant_of-self
invariant_of-self c = (
  (λ n o there. c.self.invariant.0 n o (Contains-promoted (same_name c.args.name) c.self.inside.kept.entries (n, o) (subst (λ es. Contains es (n, o)) c.cached.ensures.entries there))),
  c.cached.ensures.cap ∙ c.self.invariant.1,
)

pub returns-clause-found : goal.returns-clause-found
returns-clause-found c = IfOk-weaker c.cached.result _ _ (λ found e.
    subst (λ (es : Cached). IfSome found (λ object. Contains es (c.args.name, object))) c.self.view_is (found_there c.self.inside.kept.entries c.args.name found e)) c.cached.ensures.found

pub returns-clause-named : goal.returns-clause-named
returns-clause-named c = IfOk-weaker c.cached.result _ _ (λ found e.
    some_more (λ object. Contains c.self.inside.kept.entries (c.args.name, object)) (λ object. object_name object ≡ c.args.name) found (λ object there. (c.self.invariant.0 c.args.name object there).0)
    (found_there c.self.inside.kept.entries c.args.name found e)) c.cached.ensures.found

pub returns-clause-kept : goal.returns-clause-kept
returns-clause-kept c = λ n o there.
    subst (λ (es : Cached). Contains es (n, o)) c.self.view_is
    (Contains-promoted (same_name c.args.name) c.self.inside.kept.entries (n, o) (subst (λ es. Contains es (n, o)) c.cached.ensures.entries there))
