use Rattle.std.proofs.Common.{◌/◌, ◌%◌, sym, ap, ◌∙◌, refl, arith, None}
use Rattle.std.proofs.lemmas.List.{get_or_read_under}
use Rattle.number_links.specs.Numbers.{has}
use Rattle.number_links.proofs.PageLemmas.{in_page, past_has}
use Rattle.number_links.proofs.number_set.NumberSet.contains.Goals as goal

pub returns-then-at-len : goal.returns-then-at-len
returns-then-at-len c = sym (ap (λ w. has w c.args.n) (sym c.self.view_is) ∙ past_has c.self.inside.pages.items c.args.n (omega arith))

pub returns : goal.returns
returns c =
    c.contains.ensures ∙ sym (in_page c.self.inside.pages.items c.args.n (c.args.n / 4096) (c.args.n % 4096) c.index.result.now refl refl (get_or_read_under c.self.inside.pages.items (c.args.n / 4096) _ c.index.result.now None c.index.ensures (omega arith) refl)) ∙ ap (λ w. has w c.args.n) c.self.view_is
