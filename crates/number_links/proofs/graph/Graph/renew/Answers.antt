use Rattle.std.proofs.Common.{rules, sym, ap, ◌∙◌}
use Rattle.number_links.specs.Facts.{Facts, learned}
use Rattle.number_links.specs.Numbers.{has}
use Rattle.number_links.proofs.FactLemmas.{learned_left, learned_yet}
use Rattle.number_links.proofs.GenerationLemmas.{generations_renewed}
use Rattle.number_links.proofs.KeptLemmas.{all_renewed}
use Rattle.number_links.proofs.NowhereLemmas.{nowhere_renewed}
use Rattle.number_links.proofs.graph.Graph.renew.Goals as goal

pub invariant_of-self-else-not-renew : goal.invariant_of-self-else-not-renew
invariant_of-self-else-not-renew c =
    let facts : Facts = record { links = c.self.inside.links; times = c.self.inside.times } in
    let stays = c.renew.ensures.stays (search rules) in (
      all_renewed facts.links c.renew.new.self c.args.n stays c.let_go.new.kept.items (c.let_go.ensures facts.links c.self.invariant.0),
      generations_renewed facts c.renew.new.self c.args.n c.let_go-2.new.self c.let_go-2.ensures.none stays (c.let_go-2.ensures.kept facts c.self.invariant.1),
      nowhere_renewed facts.links c.renew.new.self (has c.self.inside.ends) (has c.remove.new.self) c.args.n stays c.remove.ensures.has c.self.invariant.2,
    )

pub returns-then-not-renew-clause-gone : goal.returns-then-not-renew-clause-gone
returns-then-not-renew-clause-gone c q one is =
    let left = learned_left (record { links = c.self.inside.links; times = c.self.inside.times }) c.renew.new.self c.args.n c.renew.ensures.gone q one is in
    (ap (λ facts. learned facts q) (sym c.self.view_is) ∙ left.0, left.1, left.2)

pub returns-clause-gone : goal.returns-clause-gone
returns-clause-gone c q one is =
    let left = learned_left (record { links = c.self.inside.links; times = c.self.inside.times }) c.renew.new.self c.args.n c.renew.ensures.gone q one is in
    (ap (λ facts. learned facts q) (sym c.self.view_is) ∙ left.0, left.1, left.2)

pub returns-clause-stays : goal.returns-clause-stays
returns-clause-stays c _ q one is =
    learned_yet (record { links = c.self.inside.links; times = c.self.inside.times }) c.renew.new.self c.args.n (c.renew.ensures.stays (search rules)) q one (ap (λ facts. learned facts q) c.self.view_is ∙ is)
