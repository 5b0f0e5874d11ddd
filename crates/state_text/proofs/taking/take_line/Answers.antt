use Rattle.std.proofs.lemmas.Result.{IfOk-weaker}
use Rattle.state_text.specs.Taking.{Tenant, Repository, Reference, Seen, Offer}
use Rattle.state_text.proofs.taking.take_line.Goals as goal

pub returns-in-Some-clause-ok : goal.returns-in-Some-clause-ok
returns-in-Some-clause-ok c =
    IfOk-weaker c.take_tenant.result _ _ (λ more taken. Tenant c.in-Some.rest.now c.in-Some.ensures.found (record { was = c.if-awaits.false; is = taken.0 }) taken.1) c.take_tenant.ensures.ok

pub returns-in-Some-behind-clause-ok : goal.returns-in-Some-behind-clause-ok
returns-in-Some-behind-clause-ok c =
    IfOk-weaker c.take_repository.result _ _ (λ more taken. Repository c.in-Some-behind.rest.now c.in-Some-behind.ensures.found (record { was = c.if-awaits.false; is = taken.0 }) taken.1) c.take_repository.ensures.ok

pub returns-in-Some-behind-2-clause-ok : goal.returns-in-Some-behind-2-clause-ok
returns-in-Some-behind-2-clause-ok c =
    IfOk-weaker c.take_reference.result _ _ (λ more taken. Reference c.in-Some-behind-2.rest.now c.in-Some-behind-2.ensures.found (record { was = c.if-awaits.false; is = taken.0 }) taken.1) c.take_reference.ensures.ok

pub returns-in-Some-behind-3-clause-ok : goal.returns-in-Some-behind-3-clause-ok
returns-in-Some-behind-3-clause-ok c =
    IfOk-weaker c.take_seen.result _ _ (λ more taken. Seen c.in-Some-behind-3.rest.now c.in-Some-behind-3.ensures.found (record { was = c.if-awaits.false; is = taken.0 }) taken.1) c.take_seen.ensures.ok

pub returns-in-Some-behind-4-clause-ok : goal.returns-in-Some-behind-4-clause-ok
returns-in-Some-behind-4-clause-ok c =
    IfOk-weaker c.take_offer.result _ _ (λ more taken. Offer c.in-Some-behind-4.rest.now c.in-Some-behind-4.ensures.found (record { was = c.if-awaits.false; is = taken.0 }) taken.1) c.take_offer.ensures.ok
