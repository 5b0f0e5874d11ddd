use Rattle.std.proofs.Common.{◌≡◌, ◌/◌, ◌%◌, ◌||◌, nat_eq, sym, ap, ◌∙◌, refl, rules, arith, get_or, length}
use Rattle.number_links.specs.Numbers.{has_bit, is_in}
use Rattle.number_links.proofs.PageLemmas.{word_set}
use Rattle.number_links.proofs.page.Page.insert.Goals as goal

pub returns : goal.returns
returns c q =
    let read : c.deref.result.now ≡ c.args.self.now = search rules in
    let written : c.deref_mut.result.now ≡ c.args.self.now = search rules in
    let long : length c.deref_mut.result.now ≡ 64 = search rules in
    word_set c.deref_mut.result.now c.args.k c.with_bit.result (λ a b. a || b) (omega (arith, long)) (λ b. refl)
    (λ i. c.with_bit.ensures i ∙ ap (λ ws. nat_eq i (c.args.k % 64) || has_bit (get_or ws (c.args.k / 64) 0) i) (read ∙ sym written)) q
    ∙ ap (λ ws. nat_eq q c.args.k || is_in ws q) written
