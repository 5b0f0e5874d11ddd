use Rattle.std.proofs.Common.{◌∙◌, ◌+◌, ap, sym, map, set}
use Rattle.number_links.specs.Known.{known}
use Rattle.number_links.specs.Records.{told}
use Rattle.number_links.proofs.RenewLemmas.{known_after, known_before}
use Rattle.number_links.proofs.links.Links.renew.Goals as goal

pub returns : goal.returns
returns c = record {
  gone = λ q ms is.
      (let pool = c.self.inside.pool.items in
      let stamps = set c.self.inside.renewed.items c.args.n (c.self.inside.clock + 1) in
      let before = known_before c.self.inside.clock c.args.n c.self.inside.renewed.items c.self.inside.begins.items pool c.self.invariant q ms
      (ap (λ places. known (map (told stamps pool) places) q) (sym c.put-2.ensures) ∙ ap (λ times. known (map (told times pool) c.put-2.new.words.items) q) (sym c.put.ensures) ∙ is) in (
        ap (λ links. known links q) (sym c.self.view_is) ∙ before.0,
        before.1,
        before.2,
      ));
  stays = λ _ q ms is other apart.
      (let pool = c.self.inside.pool.items in
      let stamps = set c.self.inside.renewed.items c.args.n (c.self.inside.clock + 1) in
      ap (λ times. known (map (told times pool) c.put-2.new.words.items) q) c.put.ensures ∙ ap (λ places. known (map (told stamps pool) places) q) c.put-2.ensures
      ∙ known_after c.self.inside.clock c.args.n c.self.inside.renewed.items c.self.inside.begins.items pool q ms (ap (λ links. known links q) c.self.view_is ∙ is) other apart);
}
