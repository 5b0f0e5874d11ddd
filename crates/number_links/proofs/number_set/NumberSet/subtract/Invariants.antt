use Rattle.std.proofs.Common.{◌≡◌, ◌&&◌, not, ℕ, None, get_or, is_some, length}
use Rattle.number_links.specs.Numbers.{is_there}
use Rattle.number_links.proofs.PartLemmas.{Mixed}
use Rattle.number_links.proofs.number_set.NumberSet.subtract.Given as goal

abbrev pub invariant-loop-at : goal.invariant-loop-at
invariant-loop-at l = (length l.self-inside.pages.items ≡ length l.initial.self-inside.pages.items) × ((i : ℕ) → is_some (get_or l.self-inside.pages.items i None) ≡ is_some (get_or l.initial.self-inside.pages.items i None))
    × Mixed None is_there (λ a b. not b && a) l.initial.self-inside.pages.items l.other l.at l.self-inside.pages.items
