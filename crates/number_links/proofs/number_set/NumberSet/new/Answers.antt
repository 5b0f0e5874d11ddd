use Rattle.std.proofs.Common.{ap, ◌∙◌}
use Rattle.number_links.specs.Numbers.{has, has_room}
use Rattle.number_links.proofs.PageLemmas.{none_has, none_room}
use Rattle.number_links.proofs.number_set.NumberSet.new.Goals as goal

pub returns-clause-has : goal.returns-clause-has
returns-clause-has c q = ap (λ w. has w q) c.new.ensures.items ∙ none_has q

pub returns-clause-room : goal.returns-clause-room
returns-clause-room c q = ap (λ w. has_room w q) c.new.ensures.items ∙ none_room q
