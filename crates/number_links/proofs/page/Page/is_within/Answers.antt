use Rattle.std.proofs.Common.{◌≡◌, true, sym, subst, arith}
use Rattle.number_links.specs.Numbers.{is_in}
use Rattle.number_links.proofs.WithinLemmas.{page_within}
use Rattle.number_links.proofs.page.Page.is_within.Goals as goal

pub returns : goal.returns
returns c _ q is =
    let long = c.self.invariant in
    subst (λ w. is_in w q ≡ true) c.other.view_is
    (page_within c.self.inside.words.value c.other.inside.words.value c.loop-at.at (omega (arith, long, c.loop-at-test.false)) c.loop-at.invariant q (subst (λ w. is_in w q ≡ true) (sym c.self.view_is) is))
