use Rattle.std.proofs.Common.{sym, ap, ◌∙◌}
use Rattle.std.proofs.lemmas.List.{append_cancel_left}
use Rattle.git_refname.specs.Rule.{least_broken_rule}
use Rattle.state_text.proofs.PartLemmas.{reference_parts}
use Rattle.state_text.proofs.parts.reference_of.Goals as goal

pub returns-in_default-parse_hex-clause-none : goal.returns-in_default-parse_hex-clause-none
returns-in_default-parse_hex-clause-none c name target right named is =
    let parts = reference_parts c.args.rest.now c.in-Some.digits.now c.in-Some.full.now target c.args.prefix.now name c.in-Some.ensures.whole c.in-Some.ensures.first named is in
    c.in_default-parse_hex.ensures.none target named parts.0

pub returns-in_default-behind-clause-none : goal.returns-in_default-behind-clause-none
returns-in_default-behind-clause-none c name target right named is =
    let parts = reference_parts c.args.rest.now c.in-Some.digits.now c.in-Some.full.now target c.args.prefix.now name c.in-Some.ensures.whole c.in-Some.ensures.first named is in
    c.in_default-behind.ensures.none name parts.1

pub returns-in-Err-clause-none : goal.returns-in-Err-clause-none
returns-in-Err-clause-none c name target right named is =
    let parts = reference_parts c.args.rest.now c.in-Some.digits.now c.in-Some.full.now target c.args.prefix.now name c.in-Some.ensures.whole c.in-Some.ensures.first named is in
    let same = append_cancel_left c.args.prefix.now c.in-Some-behind.short.now name (sym c.in-Some-behind.ensures.found ∙ parts.1) in
    let bad = sym right ∙ ap least_broken_rule (sym same) ∙ c.in-Err.ensures.broken in
    absurd (cc)
