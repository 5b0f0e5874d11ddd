use Rattle.std.proofs.Common.{ap, ◌∙◌}
use Rattle.object_table.specs.Holders.{HoldingsState}
use Rattle.object_table.proofs.LinkLemmas.{same_links, still_links}
use Rattle.object_table.proofs.holdings.Holdings.keep_only.Goals as goal

pub invariant_of-self : goal.invariant_of-self
invariant_of-self g c = (
  c.keep_only.ensures.held,
  still_links c.self.inside.table.entries c.keep_only.new.table.entries c.self.inside.links c.invariant.ensures.rows c.invariant-2.ensures.rows c.self.invariant.1 c.keep_only.ensures.numbers,
)

pub returns-clause-links : goal.returns-clause-links
returns-clause-links g c =
    same_links c.self.inside.table.entries c.keep_only.new.table.entries c.self.inside.links c.invariant.ensures.rows c.invariant-2.ensures.rows c.self.invariant.1 c.keep_only.ensures.numbers
    ∙ ap (λ (s : HoldingsState). s.links) c.self.view_is
