use Rattle.std.proofs.Common.{◌≡◌, ◌<◌, ◌^◌, sym, subst, ◌∙◌, refl, arith}
use Rattle.fork_request.specs.Names.{IsTenantName}
use Rattle.fork_request.specs.declared.tenant_limit.TheConstants.{MAX_LIMIT}
use Rattle.git_name.proofs.ReadingLemmas.{written_number}
use Rattle.state_text.proofs.PartLemmas.{decimal_unique, plain_without, same_parts}
use Rattle.state_text.proofs.parts.tenant_of.Goals as goal

pub returns-in_default-read-clause-none : goal.returns-in_default-read-clause-none
returns-in_default-read-clause-none c name limit named within is =
    let parts = same_parts c.args.rest.now c.in-Some.word.now c.in-Some.digits.now name _ c.in-Some.ensures.whole c.in-Some.ensures.first (plain_without _ 32 name refl named) is in
    c.in_default-read.ensures.none (subst IsTenantName (sym parts.0) named)

pub returns-in_default-decimal-clause-none : goal.returns-in_default-decimal-clause-none
returns-in_default-decimal-clause-none c name limit named within is =
    let parts = same_parts c.args.rest.now c.in-Some.word.now c.in-Some.digits.now name _ c.in-Some.ensures.whole c.in-Some.ensures.first (plain_without _ 32 name refl named) is in
    c.in_default-decimal.ensures.none limit (omega arith) parts.1

pub returns-in_default-new-clause-none : goal.returns-in_default-new-clause-none
returns-in_default-new-clause-none c name limit named within is =
    let parts = same_parts c.args.rest.now c.in-Some.word.now c.in-Some.digits.now name _ c.in-Some.ensures.whole c.in-Some.ensures.first (plain_without _ 32 name refl named) is in
    let above : MAX_LIMIT < c.in-Some-decimal.limit = c.in_default-new.ensures.none in
    let fits : c.in-Some-decimal.limit < 2 ^ 64 = (written_number c.in-Some.digits.now c.in-Some-decimal.limit (sym c.in-Some-decimal.ensures.value)).1 in
    let same : c.in-Some-decimal.limit ≡ limit = decimal_unique c.in-Some-decimal.limit limit fits (omega arith) (sym c.in-Some-decimal.ensures.found ∙ parts.1) in
    omega arith
