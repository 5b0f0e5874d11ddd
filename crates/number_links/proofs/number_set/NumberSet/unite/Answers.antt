use Rattle.std.proofs.Common.{◌≡◌, ◌/◌, ◌%◌, ◌||◌, sym, ap, ◌∙◌, refl, arith, length, get_or, None, is_some}
use Rattle.std.proofs.lemmas.List.{get_or_read_under}
use Rattle.number_links.specs.Numbers.{has, has_room, is_there}
use Rattle.number_links.proofs.PageLemmas.{none_united, room_at, same_room}
use Rattle.number_links.proofs.PartLemmas.{mixed_end}
use Rattle.number_links.proofs.number_set.NumberSet.unite.Goals as goal

pub returns-then-not-has_pages_of-clause-has : goal.returns-then-not-has_pages_of-clause-has
returns-then-not-has_pages_of-clause-has c room = absurd (c.has_pages_of.ensures.lacks c.if-not-has_pages_of.true room)

pub unite-requires : goal.unite-requires
unite-requires c some =
    let at = c.loop-at.at in
    let mine : c.index_mut.result.now ≡ get_or c.loop-at.self-inside.pages.items at None = get_or_read_under c.loop-at.self-inside.pages.items at _ c.index_mut.result.now None c.index_mut.ensures.value (omega arith) refl in
    let other : c.index.result.now ≡ get_or c.other.inside.pages.items at None = get_or_read_under c.other.inside.pages.items at _ c.index.result.now None c.index.ensures (omega arith) refl in
    ap is_some mine ∙ c.loop-at.invariant.1 at ∙ ap (λ ps. is_some (get_or ps at None)) c.self.view_is
    ∙ room_at c.args.other.now c.args.self.now (c.has_pages_of.ensures.all c.if-not-has_pages_of.false) at (ap (λ ps. is_some (get_or ps at None)) (sym c.other.view_is) ∙ sym (ap is_some other) ∙ some)

pub returns-clause-has : goal.returns-clause-has
unfolding has
returns-clause-has c has_its_room q =
    let old = c.self.inside.pages.items in
    let other = c.args.other.now in
    let long : length c.other.inside.pages.items ≡ length other = ap length c.other.view_is in
    let end = c.min-at-end.ensures in
    mixed_end None is_there (λ a b. a || b) old other c.loop-at.self-inside.pages.items c.loop-at.at
    (λ i k past. none_united old other i k (λ room. ap (λ ps. is_some (get_or ps i None)) c.self.view_is ∙ room_at other c.args.self.now has_its_room i room) (omega (arith, past, long, end))) c.loop-at.invariant.2 (q / 4096) (q % 4096)
    ∙ ap (λ w. has w q || has other q) c.self.view_is

pub returns-clause-room : goal.returns-clause-room
returns-clause-room c q = same_room c.self.inside.pages.items c.loop-at.self-inside.pages.items c.loop-at.invariant.1 q ∙ ap (λ w. has_room w q) c.self.view_is

pub returns-clause-kept : goal.returns-clause-kept
returns-clause-kept c n there none = (let wrong : ⊥ = cc (sym (c.has_pages_of.ensures.all c.if-not-has_pages_of.false n there) ∙ none) in absurd wrong)
