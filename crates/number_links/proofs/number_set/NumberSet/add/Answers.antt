use Rattle.std.proofs.Common.{◌∙◌, sym}
use Rattle.number_links.specs.Numbers.{has_room}
use Rattle.number_links.proofs.number_set.NumberSet.add.Goals as goal

pub returns-then-has_page-clause-ok : goal.returns-then-has_page-clause-ok
unfolding has_room
returns-then-has_page-clause-ok c = c.insert.ensures.has (sym c.has_page.ensures ∙ c.if-has_page.true)
