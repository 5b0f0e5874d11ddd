use Rattle.std.proofs.Common.{◌≡◌, rules}
use Rattle.std.proofs.lemmas.Fn.{always_returns_same}
use Rattle.fork_query.proofs.lent.by_name.Goals as goal

pub returns-clause-sorted : goal.returns-clause-sorted
returns-clause-sorted c = c.sort_unstable_by_key.ensures.sorted (λ one. one.name) (always_returns_same _ (λ a r. r ≡ a.0.now.name) _ (λ a r q k. search rules))
