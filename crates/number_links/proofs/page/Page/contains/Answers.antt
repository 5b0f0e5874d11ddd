use Rattle.std.proofs.Common.{◌≡◌, ◌/◌, ◌%◌, sym, ap, ◌∙◌, refl, rules, get_or}
use Rattle.number_links.proofs.PageLemmas.{in_word}
use Rattle.number_links.proofs.page.Page.contains.Goals as goal

pub returns : goal.returns
returns c =
    let same : c.deref.result.now ≡ c.args.self.now = search rules in
    c.is_set.ensures ∙ sym (in_word c.args.self.now c.args.k (c.args.k / 64) (c.args.k % 64) (get_or c.deref.result.now (c.args.k / 64) 0) refl refl (ap (λ ws. get_or ws (c.args.k / 64) 0) same))
