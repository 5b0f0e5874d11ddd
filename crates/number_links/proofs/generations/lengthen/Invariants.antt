use Rattle.std.proofs.Common.{◌≡◌, ◌≤◌, ◌+◌, ◌-◌, ℕ, [], get_or, length}
use Rattle.number_links.proofs.generations.lengthen.Given as goal

abbrev pub invariant-pages : goal.invariant-pages
invariant-pages l = ((i : ℕ) → get_or l.pages.items i [] ≡ get_or l.initial.pages.items i []) × (length l.initial.pages.items ≤ 1048576 → length l.pages.items ≤ 1048576)

abbrev pub decreases-pages : goal.decreases-pages
decreases-pages l = l.at + 1 - length l.pages.items
