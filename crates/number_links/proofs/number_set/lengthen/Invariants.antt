use Rattle.std.proofs.Common.{◌≡◌, ◌≤◌, ◌+◌, ◌-◌, ℕ, None, get_or, length}
use Rattle.number_links.proofs.number_set.lengthen.Given as goal

abbrev pub invariant-loop-pages : goal.invariant-loop-pages
invariant-loop-pages l = ((i : ℕ) → get_or l.pages.items i None ≡ get_or l.initial.pages.items i None) × (length l.initial.pages.items ≤ 1048576 → length l.pages.items ≤ 1048576)

abbrev pub decreases-loop-pages : goal.decreases-loop-pages
decreases-loop-pages l = l.at + 1 - length l.pages.items
