use Rattle.std.proofs.Common.{◌≡◌, ◌/◌, ◌%◌, ◌||◌, ap, ◌∙◌, sym, refl, arith, None, get_or, nat_eq, is_some}
use Rattle.std.proofs.lemmas.List.{get_or_read_under}
use Rattle.number_links.specs.Numbers.{has, has_room, is_there}
use Rattle.number_links.proofs.PageLemmas.{page_set, room_same, room_there, same_room}
use Rattle.number_links.proofs.number_set.NumberSet.insert.Goals as goal

pub returns-then-not-has_page-clause-has : goal.returns-then-not-has_page-clause-has
unfolding has_room
returns-then-not-has_page-clause-has c room = (let wrong : ⊥ = cc (sym room ∙ sym c.has_page.ensures ∙ c.if-not-has_page.true) in absurd wrong)

pub index_mut-requires : goal.index_mut-requires
unfolding has_room
index_mut-requires c =
    let inside = (room_there c.self.inside.pages.items c.args.n (ap (λ w. has_room w c.args.n) c.self.view_is ∙ sym c.has_page.ensures ∙ c.if-not-has_page.false)).0 in
    omega (arith, inside)

pub insert-requires-clause-page : goal.insert-requires-clause-page
unfolding has_room
insert-requires-clause-page c =
    let room = room_there c.self.inside.pages.items c.args.n (ap (λ w. has_room w c.args.n) c.self.view_is ∙ sym c.has_page.ensures ∙ c.if-not-has_page.false) in
    let is : c.index_mut.result.now ≡ get_or c.self.inside.pages.items (c.args.n / 4096) None = get_or_read_under c.self.inside.pages.items (c.args.n / 4096) _ c.index_mut.result.now None c.index_mut.ensures.value room.0 refl in
    ap is_some is ∙ room.1

pub returns-clause-has : goal.returns-clause-has
returns-clause-has c has_its_room q =
    let pages = c.self.inside.pages.items in
    let room = room_there pages c.args.n (ap (λ w. has_room w c.args.n) c.self.view_is ∙ has_its_room) in
    let is : c.index_mut.result.now ≡ get_or pages (c.args.n / 4096) None = get_or_read_under pages (c.args.n / 4096) _ c.index_mut.result.now None c.index_mut.ensures.value room.0 refl in
    page_set pages c.args.n c.insert.new.slot (λ a b. a || b) room.0 (λ b. refl) (λ k. c.insert.ensures.numbers k ∙ ap (λ p. nat_eq k (c.args.n % 4096) || is_there p k) is) q
    ∙ ap (λ w. nat_eq q c.args.n || has w q) c.self.view_is

pub returns-clause-room : goal.returns-clause-room
unfolding has_room
returns-clause-room c q =
    let pages = c.self.inside.pages.items in
    let room = room_there pages c.args.n (ap (λ w. has_room w c.args.n) c.self.view_is ∙ sym c.has_page.ensures ∙ c.if-not-has_page.false) in
    let is : c.index_mut.result.now ≡ get_or pages (c.args.n / 4096) None = get_or_read_under pages (c.args.n / 4096) _ c.index_mut.result.now None c.index_mut.ensures.value room.0 refl in
    same_room pages _ (room_same pages (c.args.n / 4096) c.insert.new.slot room.0 (c.insert.ensures.page ∙ ap is_some is)) q ∙ ap (λ w. has_room w q) c.self.view_is

pub returns-clause-kept : goal.returns-clause-kept
unfolding has_room
returns-clause-kept c none = (let wrong : ⊥ = cc (sym none ∙ sym c.has_page.ensures ∙ c.if-not-has_page.false) in absurd wrong)
