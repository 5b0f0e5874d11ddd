use Rattle.std.proofs.Common.{◌≡◌, ◌/◌, ◌%◌, ◌&&◌, not, ap, ◌∙◌, arith, length, None}
use Rattle.number_links.specs.Numbers.{has, has_room, is_there}
use Rattle.number_links.proofs.PageLemmas.{none_left, same_room}
use Rattle.number_links.proofs.PartLemmas.{mixed_end}
use Rattle.number_links.proofs.number_set.NumberSet.subtract.Goals as goal

pub returns-clause-has : goal.returns-clause-has
unfolding has
returns-clause-has c q =
    let old = c.self.inside.pages.items in
    let other = c.args.other.now in
    let long : length c.other.inside.pages.items ≡ length other = ap length c.other.view_is in
    let end = c.min-at-end.ensures in
    mixed_end None is_there (λ a b. not b && a) old other c.loop-at.self-inside.pages.items c.loop-at.at
    (λ i k past. none_left old other i k (omega (arith, past, long, end))) c.loop-at.invariant.2 (q / 4096) (q % 4096)
    ∙ ap (λ w. not (has other q) && has w q) c.self.view_is

pub returns-clause-room : goal.returns-clause-room
returns-clause-room c q = same_room c.self.inside.pages.items c.loop-at.self-inside.pages.items c.loop-at.invariant.1 q ∙ ap (λ w. has_room w q) c.self.view_is
