use Rattle.std.proofs.Common.{ap, map, ◌∙◌}
use Rattle.fork_query.specs.Objects.{name_lines}
use Rattle.fork_query.specs.RevList.{revision_list}
use Rattle.fork_query.proofs.revisions.revisions.Goals as goal

pub returns-in-Ok-clause-listed : goal.returns-in-Ok-clause-listed
unfolding revision_list
returns-in-Ok-clause-listed g c = λ honest.
    c.in-Ok.ensures ∙ ap (λ dates. name_lines (map (λ date. date.name) dates)) (c.as_slice.ensures.value ∙ c.in_ok-dates.ensures.dates honest)
