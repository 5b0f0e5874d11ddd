use Rattle.std.proofs.Common.{sym, subst, refl}
use Rattle.fork_request.specs.Names.{IsRepositoryName, IsTenantName}
use Rattle.state_text.proofs.PartLemmas.{plain_without, same_parts}
use Rattle.state_text.proofs.parts.offer_of.Goals as goal

pub returns-in_default-read-clause-none : goal.returns-in_default-read-clause-none
returns-in_default-read-clause-none c receiver name named named_too is =
    let parts = same_parts c.args.rest.now c.in-Some.word.now c.in-Some.behind.now receiver name c.in-Some.ensures.whole c.in-Some.ensures.first (plain_without _ 32 receiver refl named) is in
    c.in_default-read.ensures.none (subst IsTenantName (sym parts.0) named)

pub returns-in_default-read-2-clause-none : goal.returns-in_default-read-2-clause-none
returns-in_default-read-2-clause-none c receiver name named named_too is =
    let parts = same_parts c.args.rest.now c.in-Some.word.now c.in-Some.behind.now receiver name c.in-Some.ensures.whole c.in-Some.ensures.first (plain_without _ 32 receiver refl named) is in
    c.in_default-read-2.ensures.none (subst IsRepositoryName (sym parts.1) named_too)
