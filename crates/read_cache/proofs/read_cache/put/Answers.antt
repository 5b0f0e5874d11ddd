use Rattle.std.proofs.Common.{inl, inr, ◌∙◌, ap, rules}
use Rattle.lru.specs.LruCache.{put_entries}
use Rattle.git_name.specs.Object.{object_name}
use Rattle.git_name.specs.Same.{same_name}
use Rattle.read_cache.proofs.CacheLemmas.{whichever}
use Rattle.read_cache.proofs.read_cache.put.Goals as goal

pub returns-clause-put : goal.returns-clause-put
returns-clause-put c =
    whichever _ c.put-kept.result c.put-kept.ensures.entries c.put-kept.ensures.err
    (λ is. inr (ap (λ l. l.entries) is ∙ ap (λ k. put_entries same_name c.args.kept.now k c.in-Ok.copy) c.name.ensures ∙ ap (put_entries same_name c.args.kept.now (object_name c.args.sealed.now)) c.in-Ok.ensures.cases, (search rules)))
    (λ same. inl (ap (λ l. l.entries) same))

pub returns-clause-cap : goal.returns-clause-cap
returns-clause-cap c =
    whichever _ c.put-kept.result c.put-kept.ensures.entries c.put-kept.ensures.err (λ is. ap (λ l. l.cap) is) (λ same. ap (λ l. l.cap) same)
