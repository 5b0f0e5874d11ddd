use Rattle.std.proofs.Common.{◌≡◌, ◌<◌, ◌/◌, ◌%◌, ◌&&◌, not, ap, ◌∙◌, refl, sym, arith, length, None, get_or, nat_eq, is_some}
use Rattle.std.proofs.lemmas.List.{get_or_read_under}
use Rattle.number_links.specs.Numbers.{has, has_room, is_there}
use Rattle.number_links.proofs.PageLemmas.{none_out, page_set, past_has, room_same, same_room}
use Rattle.number_links.proofs.number_set.NumberSet.remove.Goals as goal

pub returns-then-at-len-clause-has : goal.returns-then-at-len-clause-has
returns-then-at-len-clause-has c q = none_out c.args.self.now c.args.n q (ap (λ w. has w c.args.n) (sym c.self.view_is) ∙ past_has c.self.inside.pages.items c.args.n (omega arith))

pub returns-clause-has : goal.returns-clause-has
returns-clause-has c q =
    let pages = c.self.inside.pages.items in
    let inside : c.args.n / 4096 < length pages = omega arith in
    let is : c.index_mut.result.now ≡ get_or pages (c.args.n / 4096) None = get_or_read_under pages (c.args.n / 4096) _ c.index_mut.result.now None c.index_mut.ensures.value inside refl in
    page_set pages c.args.n c.remove.new.slot (λ a b. not a && b) inside (λ b. refl) (λ k. c.remove.ensures.numbers k ∙ ap (λ p. not (nat_eq k (c.args.n % 4096)) && is_there p k) is) q
    ∙ ap (λ w. not (nat_eq q c.args.n) && has w q) c.self.view_is

pub returns-clause-room : goal.returns-clause-room
returns-clause-room c q =
    let pages = c.self.inside.pages.items in
    let inside : c.args.n / 4096 < length pages = omega arith in
    let is : c.index_mut.result.now ≡ get_or pages (c.args.n / 4096) None = get_or_read_under pages (c.args.n / 4096) _ c.index_mut.result.now None c.index_mut.ensures.value inside refl in
    same_room pages _ (room_same pages (c.args.n / 4096) c.remove.new.slot inside (c.remove.ensures.page ∙ ap is_some is)) q ∙ ap (λ w. has_room w q) c.self.view_is
