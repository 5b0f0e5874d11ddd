use Rattle.std.proofs.Common.{None, Some, ◌+◌, subst, sym}
use Rattle.object_table.specs.Rows.{places_of}
use Rattle.object_table.specs.Holders.{is_held_in}
use Rattle.fork_ledger.specs.Checked.{HasChecked, checked_until}
use Rattle.fork_ledger.specs.Harms.{HarmMap}
use Rattle.fork_ledger.proofs.CheckLemmas.{asked_free, checked_free, checked_held}
use Rattle.fork_ledger.proofs.checking.check_place.Goals as goal

pub returns-in_default-clause-checks : goal.returns-in_default-clause-checks
returns-in_default-clause-checks g c =
    checked_free c.args.files.now.honest c.args.files.now.contents (is_held_in c.args.holdings.now.ledgers) (places_of c.args.holdings.now.catalogue).names c.args.at c.args.harms.now c.in_default.ensures.none

pub returns-in_default-clause-asked : goal.returns-in_default-clause-asked
returns-in_default-clause-asked g c = asked_free c.args.files.now.failures (is_held_in c.args.holdings.now.ledgers) (places_of c.args.holdings.now.catalogue).names c.args.at c.in_default.ensures.none

pub returns-in-Ok-None-clause-checks : goal.returns-in-Ok-None-clause-checks
returns-in-Ok-None-clause-checks g c = λ has.
    checked_held c.args.files.now.honest c.args.files.now.contents (is_held_in c.args.holdings.now.ledgers) (places_of c.args.holdings.now.catalogue).names c.args.at c.in-Some.name None c.args.harms.now
    c.in-Some.ensures.some.0 c.in-Some.ensures.some.1 c.in-Some.ensures.first (rw c.in-Ok-None.field-0-is at c.in-Ok-None.ensures.shows) has

pub returns-in-Ok-clause-checks : goal.returns-in-Ok-clause-checks
returns-in-Ok-clause-checks g c = λ has.
    let honest = c.args.files.now.honest in
    let contents = c.args.files.now.contents in
    let names = (places_of c.args.holdings.now.catalogue).names in
    subst (λ (m : HarmMap). HasChecked honest contents (checked_until (is_held_in c.args.holdings.now.ledgers) names (c.args.at + 1)) m) (sym c.in-Ok.ensures.ok)
    (checked_held honest contents (is_held_in c.args.holdings.now.ledgers) names c.args.at c.in-Some.name (Some c.in-Ok-Some.harm) c.args.harms.now
    c.in-Some.ensures.some.0 c.in-Some.ensures.some.1 c.in-Some.ensures.first (rw c.in-Ok-Some.field-0-is at c.in-Ok-Some.ensures.shows) has)
