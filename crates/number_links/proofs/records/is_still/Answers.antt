use Rattle.std.proofs.Common.{◌∙◌, ap, sym}
use Rattle.number_links.specs.Records.{are_still}
use Rattle.number_links.proofs.RecordLemmas.{still_by_now}
use Rattle.number_links.proofs.records.is_still.Goals as goal

pub returns-then-learned-clock : goal.returns-then-learned-clock
returns-then-learned-clock c = sym (ap (λ t. are_still c.args.renewed.now t c.args.numbers.now) c.if-learned-clock.true ∙ still_by_now c.args.renewed.now c.args.clock c.args.numbers.now c.requires)
