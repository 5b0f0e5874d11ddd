use Rattle.std.proofs.Common.{refl, sym, ◌∙◌}
use Rattle.state_text.proofs.BehindLemmas.{follows_all}
use Rattle.state_text.proofs.order.repository_follows.Goals as goal

pub returns : goal.returns
returns c =
    (λ so. follows_all (λ r. r.0) c.args.repositories.now c.in-Some.last.now c.args.name.now c.requires (sym c.in-Some.ensures.value) (sym c.cmp.ensures ∙ c.in-Less.is), λ all. refl)
