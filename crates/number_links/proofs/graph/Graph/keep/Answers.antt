use Rattle.number_links.specs.Numbers.{has}
use Rattle.number_links.proofs.GenerationLemmas.{generations_more}
use Rattle.number_links.proofs.NowhereLemmas.{nowhere_stays}
use Rattle.number_links.proofs.graph.Graph.keep.Goals as goal

pub invariant_of-self : goal.invariant_of-self
invariant_of-self g c = (
  c.keep_all.ensures.kept,
  generations_more (record { links = c.self.inside.links; times = c.self.inside.times }) c.keep_all.new.links c.self.inside.generations c.keep_all.ensures.stays c.self.invariant.1,
  nowhere_stays c.self.inside.links c.keep_all.new.links (has c.self.inside.ends) c.keep_all.ensures.stays c.self.invariant.2,
)
