use Rattle.std.proofs.Common.{◌≡◌, ◌∙◌, ap, map, sym}
use Rattle.number_links.specs.Known.{known}
use Rattle.number_links.specs.Records.{told}
use Rattle.number_links.proofs.PackLemmas.{known_packed}
use Rattle.number_links.proofs.links.Links.pack_if_sparse.Goals as goal

pub returns : goal.returns
returns c q =
    let now = c.pack.new in
    let renewed : c.deref.result.now ≡ c.self.inside.renewed.items = c.deref.ensures.value in
    let begins : c.deref-2.result.now ≡ c.self.inside.begins.items = c.deref-2.ensures.value in
    let pool : c.deref-3.result.now ≡ c.self.inside.pool.items = c.deref-3.ensures.value in
    ap (λ stamps. known (map (told stamps now.now_pool.items) now.now_begins.items) q) (sym renewed)
    ∙ known_packed c.deref.result.now c.deref-2.result.now c.deref-3.result.now now.now_begins.items now.now_pool.items c.in-Ok.ensures.told q
    ∙ ap (λ stamps. known (map (told stamps c.deref-3.result.now) c.deref-2.result.now) q) renewed
    ∙ ap (λ places. known (map (told c.self.inside.renewed.items c.deref-3.result.now) places) q) begins
    ∙ ap (λ words. known (map (told c.self.inside.renewed.items words) c.self.inside.begins.items) q) pool
    ∙ ap (λ links. known links q) c.self.view_is
