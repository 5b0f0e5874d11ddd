use Rattle.std.proofs.Common.{ap, rules, ◌∙◌}
use Rattle.number_links.specs.Numbers.{has, has_room}
use Rattle.number_links.proofs.WithinLemmas.{has_alike, room_of}
use Rattle.number_links.proofs.number_set.NumberSet.reserve_all.Goals as goal

pub returns-in_err-fill_at-clause-has : goal.returns-in_err-fill_at-clause-has
returns-in_err-fill_at-clause-has c q =
    has_alike c.self.inside.pages.items c.fill_at.new.pages.items (λ i k. c.fill_at.ensures.there i k ∙ c.loop-at.invariant.1 i k) q ∙ ap (λ w. has w q) c.self.view_is

pub returns-clause-has : goal.returns-clause-has
returns-clause-has c q = has_alike c.self.inside.pages.items c.loop-at.self-inside.pages.items c.loop-at.invariant.1 q ∙ ap (λ w. has w q) c.self.view_is

pub returns-clause-ok : goal.returns-clause-ok
returns-clause-ok c q room =
    room_of c.other.inside.pages.items c.loop-at.self-inside.pages.items c.loop-at.at (search rules) c.loop-at.invariant.2 q (ap (λ w. has_room w q) c.other.view_is ∙ room)
