use Rattle.std.proofs.Common.{◌≡◌, ◌&&◌, not, length}
use Rattle.number_links.specs.Numbers.{has_bit}
use Rattle.number_links.proofs.PartLemmas.{Mixed}
use Rattle.number_links.proofs.page.Page.subtract.Given as goal

abbrev pub invariant-loop-at : goal.invariant-loop-at
invariant-loop-at l = (length l.self-inside.words.value ≡ 64) × Mixed 0 has_bit (λ a b. not b && a) l.initial.self-inside.words.value l.other l.at l.self-inside.words.value
