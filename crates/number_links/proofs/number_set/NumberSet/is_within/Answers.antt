use Rattle.std.proofs.Common.{◌≡◌, true, sym, subst, rules}
use Rattle.number_links.specs.Numbers.{has}
use Rattle.number_links.proofs.WithinLemmas.{set_within}
use Rattle.number_links.proofs.number_set.NumberSet.is_within.Goals as goal

pub returns : goal.returns
returns c _ q is =
    let end = c.loop-at-2.at in
    subst (λ w. has w q ≡ true) c.other.view_is
    (set_within c.self.inside.pages.items c.other.inside.pages.items c.min-common.result c.loop-at.at c.loop-at-2.at (search rules) (search rules) c.loop-at.invariant c.loop-at-2.invariant q (subst (λ w. has w q ≡ true) (sym c.self.view_is) is))
