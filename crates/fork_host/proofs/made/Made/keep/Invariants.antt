use Rattle.std.proofs.Common.{◌≡◌, ◌++◌, List, map}
use Rattle.std.specs.FinMap.{entries}
use Rattle.git_reftx.specs.Repository.{Repository}
use Rattle.fork_model.specs.Offer.{Pair}
use Rattle.fork_host.specs.Keeping.{with_offers}
use Rattle.fork_host.specs.Made.{offer_told}
use Rattle.fork_host.proofs.made.Made.keep.Given as goal

-- the offers so far are appended
abbrev pub invariant-loop-pair : goal.invariant-loop-pair
invariant-loop-pair l = (before : List (Pair × Repository)) × (before ++ l.pair-iterator ≡ entries l.fn.self) × (l.state ≡ with_offers l.fn.state (map offer_told before))
