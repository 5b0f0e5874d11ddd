use Rattle.std.proofs.Common.{◌≡◌, true, None, get_or, is_some, sym, ap, ◌∙◌, refl, arith, rules}
use Rattle.std.proofs.lemmas.List.{get_or_read_under}
use Rattle.number_links.proofs.PageLemmas.{room_at}
use Rattle.number_links.proofs.WithinLemmas.{room_of}
use Rattle.number_links.proofs.number_set.NumberSet.has_pages_of.Goals as goal

pub returns-then-not-has_page-clause-lacks : goal.returns-then-not-has_page-clause-lacks
returns-then-not-has_page-clause-lacks c _ room =
    let at = c.loop-at.at in
    let other : c.index.result.now ≡ get_or c.other.inside.pages.items at None = get_or_read_under c.other.inside.pages.items at _ c.index.result.now None c.index.ensures (omega arith) refl in
    let here : is_some (get_or c.other.inside.pages.items at None) ≡ true = ap is_some (sym other) ∙ (search rules) in
    let there = room_at c.args.other.now c.args.self.now room at (ap (λ ps. is_some (get_or ps at None)) (sym c.other.view_is) ∙ here) in
    let wrong : ⊥ = cc (sym there ∙ sym c.has_page.ensures ∙ c.if-not-has_page.true) in wrong

pub returns-clause-all : goal.returns-clause-all
returns-clause-all c _ =
    room_of c.args.other.now c.args.self.now c.loop-at.at (search rules) (λ i inside some. c.loop-at.invariant i inside (ap (λ ps. is_some (get_or ps i None)) c.other.view_is ∙ some))
