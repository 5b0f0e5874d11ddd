use Rattle.std.proofs.Common.{◌++◌, ◌∷◌, [], sym, ap, subst, ◌∙◌}
use Rattle.std.proofs.lemmas.Result.{IfOk-weaker, err_from_is_err_and}
use Rattle.state_text.specs.Adding.{with_repository}
use Rattle.state_text.specs.States.{IsStates}
use Rattle.state_text.proofs.BehindLemmas.{nothing_at}
use Rattle.state_text.proofs.StateLemmas.{tenant_changed}
use Rattle.state_text.proofs.WrongLemmas.{repository_wrong}
use Rattle.state_text.proofs.taking.take_repository.Goals as goal

pub put_back-requires : goal.put_back-requires
put_back-requires c =
    tenant_changed c.pop.new.self c.in-Some.tenant c.add_repository.new.self (subst IsStates c.in-Some.ensures.some c.pop.ensures.sound) c.in_ok-add_repository.ensures.sound (ap (λ t. t.name) (sym c.in_ok-add_repository.ensures.ok))

pub returns-in_err-add_repository-clause-wrong : goal.returns-in_err-add_repository-clause-wrong
returns-in_err-add_repository-clause-wrong c =
    let told = err_from_is_err_and c.from_residual.result c.from_residual.ensures.1 in
    rw (told.1, told.2) (repository_wrong c.args.states.now c.pop.new.self c.in-Some.tenant c.args.rest.now c.in-Some-read.name _ c.in-Some.ensures.some c.in-Some-read.ensures.found.0 c.in_err-add_repository.ensures.cause)

pub returns-clause-ok : goal.returns-clause-ok
returns-clause-ok c =
    let added = c.in_ok-add_repository.ensures.ok ∙ (λ i. with_repository c.in-Some.tenant (c.in-Some-read.ensures.found.0 i) (c.new.ensures i)) in
    IfOk-weaker c.put_back.result _ _ (λ more put. (
      put.0 ∙ c.is_with_heads.ensures,
      record {
        before = c.pop.new.self;
        tenant = c.in-Some.tenant;
        last = (nothing_at c.in-Some.tenant.seen c.seen.result.now c.seen.ensures c.if-seen-gt0.false, nothing_at c.in-Some.tenant.offers c.offers.result.now c.offers.ensures c.if-offers-gt0.false);
        was = c.in-Some.ensures.some;
        added = put.1 ∙ ap (λ t. c.pop.new.self ++ t ∷ []) added;
      },
    )) c.put_back.ensures.ok
