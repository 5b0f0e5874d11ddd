use Rattle.number_links.specs.Kept.{IsAllLedTo}
use Rattle.number_links.specs.Numbers.{has}
use Rattle.std.proofs.Common.{subst}
use Rattle.number_links.proofs.KeptLemmas.{all_more}
use Rattle.number_links.proofs.OptionLemmas.{some_is}
use Rattle.number_links.proofs.keeping.keep_one.Goals as goal

pub returns-in_default-clause-kept : goal.returns-in_default-clause-kept
returns-in_default-clause-kept g c = all_more c.args.links.now c.gather_allowed.new.links c.gather_allowed.ensures.stays c.args.kept.now.items c.requires.kept

pub returns-then-count-lt-FEW-clause-kept : goal.returns-then-count-lt-FEW-clause-kept
returns-then-count-lt-FEW-clause-kept g c = all_more c.args.links.now c.gather_allowed.new.links c.gather_allowed.ensures.stays c.args.kept.now.items c.requires.kept

pub returns-clause-kept : goal.returns-clause-kept
returns-clause-kept g c =
    let found = c.in-Ok-Some in
    c.put.ensures c.gather_allowed.new.links (all_more c.args.links.now c.gather_allowed.new.links c.gather_allowed.ensures.stays c.args.kept.now.items c.requires.kept)
    (subst (λ roots. IsAllLedTo c.gather_allowed.new.links roots (has found.reached)) c.as_slice-2.ensures (some_is found.field-0 found.reached (λ set. IsAllLedTo c.gather_allowed.new.links c.as_slice-2.result.now (has set)) found.field-0-is found.ensures.found))
