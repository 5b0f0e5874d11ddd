use Rattle.std.proofs.Common.{ap, sym, subst, ◌∙◌}
use Rattle.std.specs.FinMap.{keys}
use Rattle.std.specs.List.{IsDistinct}
use Rattle.git_name.specs.Same.{same_name}
use Rattle.fork_ledger.proofs.CoverLemmas.{keys_distinct}
use Rattle.fork_ledger.proofs.LedLemmas.{led_none}
use Rattle.fork_ledger.proofs.survey.Survey.new.Goals as goal

pub invariant_of-result : goal.invariant_of-result
invariant_of-result g c = record {
  ledgers = c.in-Ok-over.ensures.ledgers;
  place = c.in-Ok-over.ensures.place;
  names = λ h.
      let was = sym c.names.ensures.honest ∙ h in
      let listed = c.as_slice.ensures.value ∙ c.in-Ok-names.ensures.found was in
      c.in-Ok-over.ensures.names (subst (IsDistinct same_name) (sym listed) (keys_distinct c.in-Ok.files.contents)) ∙ listed ∙ ap keys (sym (c.names.ensures.kept was));
  led = λ h. led_none c.in-Ok-over.holdings.links c.names.new.self.contents c.in-Ok-over.ensures.links;
}
