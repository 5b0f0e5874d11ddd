use Rattle.number_links.specs.Numbers.{has}
use Rattle.number_links.proofs.GenerationLemmas.{generations_more, generations_stay}
use Rattle.number_links.proofs.KeptLemmas.{all_more}
use Rattle.number_links.proofs.NowhereLemmas.{nowhere_stays}
use Rattle.number_links.proofs.graph.Graph.learn.Goals as goal

pub invariant_of-self : goal.invariant_of-self
invariant_of-self c = (
  all_more c.self.inside.links c.note_end.new.links c.note_end.ensures.stays c.self.inside.kept.items c.self.invariant.0,
  generations_more (record { links = c.self.inside.links; times = c.self.inside.times }) c.note_end.new.links c.self.inside.generations c.note_end.ensures.stays c.self.invariant.1,
  c.note_end.ensures.ends c.self.invariant.2,
)

pub invariant_of-self-2 : goal.invariant_of-self-2
invariant_of-self-2 c = (
  all_more c.self.inside.links c.note.new.links c.note.ensures.kept c.self.inside.kept.items c.self.invariant.0,
  generations_stay (record { links = c.self.inside.links; times = c.self.inside.times }) (record { links = c.note.new.links; times = c.note.new.times }) c.self.inside.generations (λ q there high. c.note.ensures.stays q there) c.self.invariant.1,
  nowhere_stays c.self.inside.links c.note.new.links (has c.self.inside.ends) c.note.ensures.kept c.self.invariant.2,
)
