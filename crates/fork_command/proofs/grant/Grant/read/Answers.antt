use Rattle.std.proofs.Common.{◌≡◌, sym, ◌∙◌, subst, arith, rules}
use Rattle.fork_request.specs.Names.{IsTenantName}
use Rattle.fork_command.proofs.GrantLemmas.{decimal_unique, no_sign, parts_of}
use Rattle.fork_command.proofs.grant.Grant.read.Goals as goal

pub returns-in_default-clause-none : goal.returns-in_default-clause-none
returns-in_default-clause-none c grant right is = no_sign c.args.word.now grant c.in_default.ensures.none right is

pub returns-in_default-read-clause-none : goal.returns-in_default-read-clause-none
returns-in_default-read-clause-none c grant right is =
    let parts = parts_of _ _ grant c.in-Some.ensures.first right (sym c.in-Some.ensures.whole ∙ is) in
    c.in_default-read.ensures.none (subst IsTenantName (sym parts.0) right)

pub returns-in_default-decimal-clause-none : goal.returns-in_default-decimal-clause-none
returns-in_default-decimal-clause-none c grant right is =
    let parts = parts_of _ _ grant c.in-Some.ensures.first right (sym c.in-Some.ensures.whole ∙ is) in
    let fits = grant.fits in
    c.in_default-decimal.ensures.none grant.limit (omega arith) parts.1

pub returns-then-limit-gt-MAX_LIMIT-clause-none : goal.returns-then-limit-gt-MAX_LIMIT-clause-none
returns-then-limit-gt-MAX_LIMIT-clause-none c grant right is =
    let parts = parts_of _ _ grant c.in-Some.ensures.first right (sym c.in-Some.ensures.whole ∙ is) in
    let fits = grant.fits in
    let same : c.in-Some-decimal.limit ≡ grant.limit = decimal_unique c.in-Some-decimal.limit grant.limit (search rules) (omega arith) (sym c.in-Some-decimal.ensures.found ∙ parts.1) in
    let more = c.if-limit-gt-MAX_LIMIT.true in
    absurd (omega arith)
