use Rattle.std.proofs.Common.{rules}
use Rattle.read_cache.proofs.SureLemmas.{sure_fresh}
use Rattle.read_cache.proofs.cached_store.CachedStore.new.Goals as goal

pub invariant_of-result : goal.invariant_of-result
invariant_of-result g c = ((search rules), sure_fresh c.is_fresh-is_sure.result (g.S.LooseFiles.honest c.args.files) (g.S.LooseFiles.contents c.args.files) c.is_fresh-is_sure.ensures.honest c.is_fresh-is_sure.ensures.empty)
