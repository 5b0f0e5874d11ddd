use Rattle.std.proofs.Common.{◌≡◌, ◌<◌, ◌/◌, refl, sym, ap, ◌∙◌, None, get_or, length, is_some}
use Rattle.std.proofs.lemmas.List.{get_or_read_under}
use Rattle.std.proofs.lemmas.Result.{on_ok_weaker}
use Rattle.number_links.specs.Numbers.{has, has_room, is_there}
use Rattle.number_links.proofs.PageLemmas.{filled_has, filled_room, filled_there, least_room, same_has, same_room}
use Rattle.number_links.proofs.number_set.NumberSet.reserve.Goals as goal

pub returns-in_err-lengthen-clause-has : goal.returns-in_err-lengthen-clause-has
returns-in_err-lengthen-clause-has c q = same_has c.self.inside.pages.items c.lengthen.new.pages.items c.lengthen.ensures.slots q ∙ ap (λ w. has w q) c.self.view_is

pub returns-in_err-lengthen-clause-room : goal.returns-in_err-lengthen-clause-room
returns-in_err-lengthen-clause-room c q room =
    same_room c.self.inside.pages.items c.lengthen.new.pages.items (λ i. ap is_some (c.lengthen.ensures.slots i)) q ∙ ap (λ w. has_room w q) c.self.view_is ∙ room

pub returns-clause-has : goal.returns-clause-has
returns-clause-has c q =
    let pages = c.lengthen.new.pages.items in
    let inside : c.args.n / 4096 < length pages = c.in_ok-lengthen.ensures.ok in
    let is : c.index_mut.result.now ≡ get_or pages (c.args.n / 4096) None = get_or_read_under pages (c.args.n / 4096) _ c.index_mut.result.now None c.index_mut.ensures.value inside refl in
    filled_has pages (c.args.n / 4096) c.fill.new.slot inside (λ k. c.fill.ensures.numbers k ∙ ap (λ p. is_there p k) is) q
    ∙ same_has c.self.inside.pages.items pages c.lengthen.ensures.slots q ∙ ap (λ w. has w q) c.self.view_is

pub returns-clause-ok : goal.returns-clause-ok
returns-clause-ok c = on_ok_weaker c.fill.result (λ some. filled_there c.lengthen.new.pages.items c.args.n c.fill.new.slot c.in_ok-lengthen.ensures.ok some) c.fill.ensures.ok

pub returns-clause-room : goal.returns-clause-room
returns-clause-room c q room =
    let pages = c.lengthen.new.pages.items in
    let inside : c.args.n / 4096 < length pages = c.in_ok-lengthen.ensures.ok in
    let is : c.index_mut.result.now ≡ get_or pages (c.args.n / 4096) None = get_or_read_under pages (c.args.n / 4096) _ c.index_mut.result.now None c.index_mut.ensures.value inside refl in
    filled_room pages (c.args.n / 4096) c.fill.new.slot inside (λ some. c.fill.ensures.page (ap is_some is ∙ some)) q
    (same_room c.self.inside.pages.items pages (λ i. ap is_some (c.lengthen.ensures.slots i)) q ∙ ap (λ w. has_room w q) c.self.view_is ∙ room)

pub returns-in_err-lengthen-clause-least : goal.returns-in_err-lengthen-clause-least
returns-in_err-lengthen-clause-least c other within there q room =
    within q (ap (λ w. has_room w q) (sym c.self.view_is) ∙ sym (same_room c.self.inside.pages.items c.lengthen.new.pages.items (λ i. ap is_some (c.lengthen.ensures.slots i)) q) ∙ room)

pub returns-clause-least : goal.returns-clause-least
returns-clause-least c other within there =
    let pages = c.lengthen.new.pages.items in
    least_room pages other c.args.n c.fill.new.slot c.in_ok-lengthen.ensures.ok
    (λ q room. within q (ap (λ w. has_room w q) (sym c.self.view_is) ∙ sym (same_room c.self.inside.pages.items pages (λ i. ap is_some (c.lengthen.ensures.slots i)) q) ∙ room)) there
