use Rattle.std.proofs.Common.{◌≡◌, ◌++◌, ◌∷◌, [], sym, ap, subst, ◌∙◌}
use Rattle.std.proofs.lemmas.Result.{IfOk-weaker, err_from_is_err_and}
use Rattle.git_reftx.specs.Repository.{new_repository}
use Rattle.state_text.specs.Adding.{TellsOffer, with_offer}
use Rattle.state_text.specs.States.{IsStates}
use Rattle.state_text.proofs.PlaceLemmas.{offer_at}
use Rattle.state_text.proofs.StateLemmas.{tenant_changed}
use Rattle.state_text.proofs.WrongLemmas.{offer_wrong}
use Rattle.state_text.proofs.taking.take_offer.Goals as goal

pub put_back-requires : goal.put_back-requires
put_back-requires c =
    tenant_changed c.pop.new.self c.in-Some.tenant c.add_offer.new.self (subst IsStates c.in-Some.ensures.some c.pop.ensures.sound) c.in_ok-add_offer.ensures.sound (ap (λ t. t.name) (sym c.in_ok-add_offer.ensures.ok))

pub returns-in_err-add_offer-clause-wrong : goal.returns-in_err-add_offer-clause-wrong
returns-in_err-add_offer-clause-wrong c =
    let receiver = c.in-Some-offer_of.receiver in
    let name = c.in-Some-offer_of.name in
    let new : c.new-2.result ≡ offer_at receiver name new_repository = c.new-2.ensures ∙ ap (offer_at receiver name) c.new.ensures in
    let told = err_from_is_err_and c.from_residual.result c.from_residual.ensures.1 in
    rw (told.1, told.2) (offer_wrong c.args.version c.args.states.now c.pop.new.self c.in-Some.tenant c.args.rest.now receiver name c.in_err-add_offer.field-0.0 c.in-Some.ensures.some c.as_bytes-receiver.ensures.name c.in-Some-offer_of.ensures.found
    (subst (λ o. TellsOffer c.in-Some.tenant o c.in_err-add_offer.field-0.0) new c.in_err-add_offer.ensures.cause))

pub returns-clause-ok : goal.returns-clause-ok
returns-clause-ok c =
    let receiver = c.in-Some-offer_of.receiver in
    let name = c.in-Some-offer_of.name in
    let new : c.new-2.result ≡ offer_at receiver name new_repository = c.new-2.ensures ∙ ap (offer_at receiver name) c.new.ensures in
    IfOk-weaker c.put_back.result _ _ (λ more put. (
      put.0,
      record {
        receiver = receiver;
        name = name;
        told = sym c.is_with_heads.ensures ∙ c.if-not-is_with_heads.false;
        spelled = c.in-Some-offer_of.ensures.found;
        begins = record {
          before = c.pop.new.self;
          tenant = c.in-Some.tenant;
          last = tt;
          was = c.in-Some.ensures.some;
          added = put.1 ∙ ap (λ t. c.pop.new.self ++ t ∷ []) (c.in_ok-add_offer.ensures.ok ∙ ap (with_offer c.in-Some.tenant) new);
        };
      },
    )) c.put_back.ensures.ok
