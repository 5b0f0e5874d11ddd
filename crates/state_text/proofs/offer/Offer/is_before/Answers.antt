use Rattle.std.proofs.Common.{◌≡◌, refl, sym, ap, ◌∙◌}
use Rattle.std.specs.Ordering.{ordering_then}
use Rattle.std.specs.declared.cmp.Ordering.TheVariants.{Less, Greater}
use Rattle.git_name.specs.Name.{name_cmp}
use Rattle.state_text.proofs.OrderLemmas.{offers_cmp}
use Rattle.state_text.proofs.offer.Offer.is_before.Goals as goal

pub returns-in-Less : goal.returns-in-Less
returns-in-Less c = (λ so. offers_cmp c.args.self.now c.args.other.now c.receiver.result.now c.receiver-2.result.now c.cmp.result c.receiver.ensures.named c.receiver-2.ensures.named c.receiver.ensures.receiver c.receiver-2.ensures.receiver c.cmp.ensures ∙ ap (λ o. ordering_then o (name_cmp c.args.self.now.name c.args.other.now.name)) c.in-Less.is, λ is. refl)

pub returns-in-Equal : goal.returns-in-Equal
returns-in-Equal c =
    let names : name_cmp c.self.inside.name c.other.inside.name ≡ name_cmp c.args.self.now.name c.args.other.now.name = λ i. name_cmp (c.self.view_is i).name (c.other.view_is i).name in
    let all = offers_cmp c.args.self.now c.args.other.now c.receiver.result.now c.receiver-2.result.now c.cmp.result c.receiver.ensures.named c.receiver-2.ensures.named c.receiver.ensures.receiver c.receiver-2.ensures.receiver c.cmp.ensures ∙ ap (λ o. ordering_then o (name_cmp c.args.self.now.name c.args.other.now.name)) c.in-Equal.is in
    (λ so. all ∙ sym names ∙ c.is_less.ensures.0 so, λ is. c.is_less.ensures.1 (names ∙ sym all ∙ is))

pub returns-in-Greater : goal.returns-in-Greater
returns-in-Greater c = (λ so. absurd (cc), λ is. absurd (let bad : Greater ≡ Less = sym (offers_cmp c.args.self.now c.args.other.now c.receiver.result.now c.receiver-2.result.now c.cmp.result c.receiver.ensures.named c.receiver-2.ensures.named c.receiver.ensures.receiver c.receiver-2.ensures.receiver c.cmp.ensures ∙ ap (λ o. ordering_then o (name_cmp c.args.self.now.name c.args.other.now.name)) c.in-Greater.is) ∙ is in cc bad))
