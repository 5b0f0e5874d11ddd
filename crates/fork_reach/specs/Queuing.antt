-- A queue of names, each once, which is walked from the front (own).
use Rattle.std.specs.Prelude.{◌≡◌, ℕ, false, List, [], ◌++◌}
use Rattle.std.specs.FinMap.{FinMap}
use Rattle.git_name.specs.Name.{name_cmp}
use Rattle.git_name.specs.Same.{is_listed}
use Rattle.fork_reach.specs.Seeing.{Sees}

-- names were queued: those that are there and were not yet in the queue were appended
pub record Queues {X : Type 0} (objects : FinMap name_cmp X) (names queue now_queue : List (List ℕ)) : Type 0 where
  pub came : List (List ℕ)
  pub behind : now_queue ≡ queue ++ came
  pub sees : Sees objects (λ _. false) names (is_listed queue) [] (is_listed now_queue) came
