use Rattle.std.proofs.Common.{◌++◌, ◌∷◌, [], sym, ap, subst, ◌∙◌}
use Rattle.std.proofs.lemmas.Result.{IfOk-weaker, err_from_is_err_and}
use Rattle.state_text.specs.States.{IsStates}
use Rattle.state_text.proofs.BehindLemmas.{nothing_at}
use Rattle.state_text.proofs.StateLemmas.{tenant_changed}
use Rattle.state_text.proofs.WrongLemmas.{seen_wrong}
use Rattle.state_text.proofs.taking.take_seen.Goals as goal

pub put_back-requires : goal.put_back-requires
put_back-requires c =
    tenant_changed c.pop.new.self c.in-Some.tenant c.add_seen.new.self (subst IsStates c.in-Some.ensures.some c.pop.ensures.sound) c.in_ok-add_seen.ensures.sound (ap (λ t. t.name) (sym c.in_ok-add_seen.ensures.ok))

pub returns-in_err-add_seen-clause-wrong : goal.returns-in_err-add_seen-clause-wrong
returns-in_err-add_seen-clause-wrong c =
    let told = err_from_is_err_and c.from_residual.result c.from_residual.ensures.1 in
    rw (told.1, told.2) (seen_wrong c.args.states.now c.pop.new.self c.in-Some.tenant c.args.rest.now c.in-Some-parse_hex.name _ c.in-Some.ensures.some c.as_bytes-name.ensures.name c.in-Some-parse_hex.ensures.found c.in_err-add_seen.ensures.cause)

pub returns-clause-ok : goal.returns-clause-ok
returns-clause-ok c =
    IfOk-weaker c.put_back.result _ _ (λ more put. (
      put.0,
      record {
        before = c.pop.new.self;
        tenant = c.in-Some.tenant;
        name = c.in-Some-parse_hex.name;
        unoffered = nothing_at c.in-Some.tenant.offers c.offers.result.now c.offers.ensures c.if-offers-gt0.false;
        spelled = c.in-Some-parse_hex.ensures.found;
        was = c.in-Some.ensures.some;
        added = put.1 ∙ ap (λ t. c.pop.new.self ++ t ∷ []) c.in_ok-add_seen.ensures.ok;
      },
    )) c.put_back.ensures.ok
