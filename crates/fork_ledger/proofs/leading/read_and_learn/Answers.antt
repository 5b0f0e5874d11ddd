use Rattle.std.proofs.Common.{◌≡◌, Some, ap, sym, subst, rules, ◌∙◌}
use Rattle.git_name.specs.Object.{Object}
use Rattle.loose_store.specs.Stored.{Whole}
use Rattle.fork_ledger.specs.Led.{AreLed}
use Rattle.fork_ledger.proofs.LedLemmas.{led_learned, led_read}
use Rattle.fork_ledger.proofs.leading.read_and_learn.Goals as goal

pub returns-in-Ok-Some-clause-led : goal.returns-in-Ok-Some-clause-led
returns-in-Ok-Some-clause-led g c = λ h led.
    led_read c.args.holdings.now.links c.learn_links.new.holdings.links c.args.files.now.contents c.read_held.new.files.contents c.args.name c.in-Ok-Some.sealed (subst (λ found. (object : Object) × (found ≡ Some object) × Whole c.args.files.now.contents c.args.name object) c.in-Ok-Some.field-0-is (c.in-Ok-Some.ensures.whole h)) (c.in-Ok-Some.ensures.kept h) (search rules) led
