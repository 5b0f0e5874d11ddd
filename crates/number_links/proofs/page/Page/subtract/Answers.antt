use Rattle.std.proofs.Common.{◌≡◌, ◌/◌, ◌%◌, ◌&&◌, not, Bool, true, false, sym, ap, ◌∙◌, refl, arith, length, get_or}
use Rattle.std.proofs.lemmas.List.{get_or_past}
use Rattle.number_links.specs.Numbers.{has_bit, is_in}
use Rattle.number_links.proofs.PageLemmas.{zero_has}
use Rattle.number_links.proofs.PartLemmas.{mixed_end}
use Rattle.number_links.proofs.page.Page.subtract.Goals as goal

both : Bool → Bool → Bool
both a b = not b && a

same : (b : Bool) → both b false ≡ b
unfolding both
same true = refl
same false = refl

pub returns : goal.returns
unfolding is_in both
returns c q =
    let other : length c.other.inside.words.value ≡ 64 = c.other.invariant in
    let long : length c.args.other.now ≡ 64 = sym (ap length c.other.view_is) ∙ other in
    mixed_end 0 has_bit both c.self.inside.words.value c.args.other.now c.loop-at.self-inside.words.value c.loop-at.at
    (λ i k past. ap (λ w. both (has_bit (get_or c.self.inside.words.value i 0) k) (has_bit w k)) (get_or_past c.args.other.now i 0 (omega (arith, long, past)))
    ∙ ap (both (has_bit (get_or c.self.inside.words.value i 0) k)) (zero_has k) ∙ same (has_bit (get_or c.self.inside.words.value i 0) k)) c.loop-at.invariant.1 (q / 64) (q % 64)
    ∙ ap (λ ws. not (is_in c.args.other.now q) && is_in ws q) c.self.view_is
