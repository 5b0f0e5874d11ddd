use Rattle.std.proofs.Common.{ap, refl, subst, sym, inl, ◌∙◌}
use Rattle.std.specs.FinMap.{insert}
use Rattle.fork_request.specs.Asked.{ForksOffer}
use Rattle.fork_request.specs.declared.refusal.Refusal.TheVariants.{NoOffer}
use Rattle.fork_request.specs.declared.reply.Reply.TheVariants.{Refused}
use Rattle.fork_model.specs.Answer.{fork_offer_answer}
use Rattle.fork_model.specs.Offer.{offered}
use Rattle.fork_model.specs.Sound.{AreReferences}
use Rattle.fork_host.specs.Meeting.{IsMet}
use Rattle.fork_host.specs.Own.{visible_in}
use Rattle.fork_host.specs.Rows.{YieldsOver}
use Rattle.fork_host.specs.Safe.{IsTakenFrom}
use Rattle.fork_host.specs.Shown.{shown}
use Rattle.fork_host.proofs.ForkedLemmas.{bad_quiet, bad_undone, copy_unnamed, giver_unnamed, safe_quiet, word_unnamed, yields_bad, yields_refused}
use Rattle.fork_host.proofs.ForkOfferLemmas.{none_offered, nothing_met, offer_met}
use Rattle.fork_host.proofs.TakenFromLemmas.{taken_none}
use Rattle.fork_host.proofs.fork_offer.fork_offer.Goals as goal

pub returns-in_default-clause-row : goal.returns-in_default-clause-row
returns-in_default-clause-row g c = λ context met. record {
  yields = λ honest.
      (let view = shown c.args.tenant.now c.args.vault.now c.args.name.now in
      yields_bad (fork_offer_answer context view c.args.words.0.now c.args.words.1.now c.args.words.2.now) view c.args.words.0.now c.bad_name.result (giver_unnamed context view c.args.words.0.now c.args.words.1.now c.args.words.2.now (sym c.in_default.ensures.test)) c.bad_name.ensures);
}

pub returns-in_default-clause-safe : goal.returns-in_default-clause-safe
returns-in_default-clause-safe g c = λ context met. safe_quiet c.args.vault.now (shown c.args.tenant.now c.args.vault.now c.args.name.now) c.bad_name.result (bad_quiet c.bad_name.result c.args.words.0.now c.bad_name.ensures)

pub returns-in_default-read-clause-row : goal.returns-in_default-read-clause-row
returns-in_default-read-clause-row g c = λ context met. record {
  yields = λ honest.
      (let view = shown c.args.tenant.now c.args.vault.now c.args.name.now in
      yields_bad (fork_offer_answer context view c.args.words.0.now c.args.words.1.now c.args.words.2.now) view c.args.words.1.now c.bad_name-in_default-read.result (word_unnamed context view c.args.words.0.now c.args.words.1.now c.args.words.2.now (sym c.in-Some.ensures.test) (sym c.in_default-read.ensures.test)) c.bad_name-in_default-read.ensures);
}

pub returns-in_default-read-clause-safe : goal.returns-in_default-read-clause-safe
returns-in_default-read-clause-safe g c = λ context met. safe_quiet c.args.vault.now (shown c.args.tenant.now c.args.vault.now c.args.name.now) c.bad_name-in_default-read.result (bad_quiet c.bad_name-in_default-read.result c.args.words.1.now c.bad_name-in_default-read.ensures)

pub returns-in_default-read-2-clause-row : goal.returns-in_default-read-2-clause-row
returns-in_default-read-2-clause-row g c = λ context met. record {
  yields = λ honest.
      (let view = shown c.args.tenant.now c.args.vault.now c.args.name.now in
      yields_bad (fork_offer_answer context view c.args.words.0.now c.args.words.1.now c.args.words.2.now) view c.args.words.2.now c.bad_name-in_default-read-2.result (copy_unnamed context view c.args.words.0.now c.args.words.1.now c.args.words.2.now (sym c.in-Some.ensures.test) (sym c.in-Some-read.ensures.test) (sym c.in_default-read-2.ensures.test)) c.bad_name-in_default-read-2.ensures);
}

pub returns-in_default-read-2-clause-safe : goal.returns-in_default-read-2-clause-safe
returns-in_default-read-2-clause-safe g c = λ context met. safe_quiet c.args.vault.now (shown c.args.tenant.now c.args.vault.now c.args.name.now) c.bad_name-in_default-read-2.result (bad_quiet c.bad_name-in_default-read-2.result c.args.words.2.now c.bad_name-in_default-read-2.ensures)

pub returns-in-Offer-clause-row : goal.returns-in-Offer-clause-row
returns-in-Offer-clause-row g c = λ context met.
    let old = c.args.vault.now in
    let view = shown c.args.tenant.now c.args.vault.now c.args.name.now in
    let is = subst (IsMet old context (ForksOffer c.args.words.0.now c.args.words.1.now c.args.words.2.now)) c.in-Offer.is met in
    subst (λ row. YieldsOver old.honest row view c.take_offer.result (shown c.take_offer.new.tenant c.take_offer.new.vault c.args.name.now))
    (sym (offer_met context view c.args.words.0.now c.args.words.1.now c.args.words.2.now old c.in-Offer.giver c.in-Some-read-2.copy c.in-Offer.repository (sym c.in-Some.ensures.test) (sym c.in-Some-read.ensures.test) (sym c.in-Some-read-2.ensures.test) is c.in-Some-read-2.ensures.found.0)) c.take_offer.ensures.row

pub returns-in-Offer-clause-safe : goal.returns-in-Offer-clause-safe
returns-in-Offer-clause-safe g c = λ context met.
    let old = c.args.vault.now in
    let is = subst (IsMet old context (ForksOffer c.args.words.0.now c.args.words.1.now c.args.words.2.now)) c.in-Offer.is met in
    c.take_offer.ensures.safe is.head (subst (λ who. AreReferences (visible_in old who) c.in-Offer.repository.references) (sym is.named) is.references)

pub returns-clause-row : goal.returns-clause-row
returns-clause-row g c = λ context met. record {
  yields = λ honest.
      (let view = shown c.args.tenant.now c.args.vault.now c.args.name.now in
      yields_refused (fork_offer_answer context view c.args.words.0.now c.args.words.1.now c.args.words.2.now) view (NoOffer c.in-Some.giver c.in-Some-read.of) (Refused (NoOffer c.in-Some.giver c.in-Some-read.of))
      (none_offered context view c.args.words.0.now c.args.words.1.now c.args.words.2.now c.in-Some.giver c.in-Some-read.of (sym c.in-Some.ensures.test) (sym c.in-Some-read.ensures.test) (sym c.in-Some-read-2.ensures.test) c.in-Some.ensures.found.0 c.in-Some-read.ensures.found.0 (nothing_met c.args.vault.now context c.args.words.0.now c.args.words.1.now c.args.words.2.now c.args.met c.in_default-met.not-Offer met)) refl);
}

pub returns-clause-safe : goal.returns-clause-safe
returns-clause-safe g c = λ context met. safe_quiet c.args.vault.now (shown c.args.tenant.now c.args.vault.now c.args.name.now) (Refused (NoOffer c.in-Some.giver c.in-Some-read.of)) (inl refl)

pub returns-in_default-clause-takes : goal.returns-in_default-clause-takes
returns-in_default-clause-takes g c = λ context met.
    let seen = visible_in c.args.vault.now c.args.name.now in
    taken_none (visible_in c.args.vault.now c.args.words.0.now) seen seen refl

pub returns-in_default-read-clause-takes : goal.returns-in_default-read-clause-takes
returns-in_default-read-clause-takes g c = λ context met.
    let seen = visible_in c.args.vault.now c.args.name.now in
    taken_none (visible_in c.args.vault.now c.args.words.0.now) seen seen refl

pub returns-in_default-read-2-clause-takes : goal.returns-in_default-read-2-clause-takes
returns-in_default-read-2-clause-takes g c = λ context met.
    let seen = visible_in c.args.vault.now c.args.name.now in
    taken_none (visible_in c.args.vault.now c.args.words.0.now) seen seen refl

pub returns-clause-takes : goal.returns-clause-takes
returns-clause-takes g c = λ context met.
    let seen = visible_in c.args.vault.now c.args.name.now in
    taken_none (visible_in c.args.vault.now c.args.words.0.now) seen seen refl

pub returns-in-Offer-clause-takes : goal.returns-in-Offer-clause-takes
returns-in-Offer-clause-takes g c = λ context met.
    let old = c.args.vault.now in
    let is = subst (IsMet old context (ForksOffer c.args.words.0.now c.args.words.1.now c.args.words.2.now)) c.in-Offer.is met in
    subst (λ who. IsTakenFrom (visible_in old who) (visible_in old c.args.name.now) (visible_in c.take_offer.new.vault c.args.name.now)) is.named c.take_offer.ensures.takes

pub returns-in_default-clause-forked : goal.returns-in_default-clause-forked
returns-in_default-clause-forked g c = λ context met done. absurd (bad_undone c.bad_name.result c.args.words.0.now c.bad_name.ensures done)

pub returns-in_default-read-clause-forked : goal.returns-in_default-read-clause-forked
returns-in_default-read-clause-forked g c = λ context met done. absurd (bad_undone c.bad_name-in_default-read.result c.args.words.1.now c.bad_name-in_default-read.ensures done)

pub returns-in_default-read-2-clause-forked : goal.returns-in_default-read-2-clause-forked
returns-in_default-read-2-clause-forked g c = λ context met done. absurd (bad_undone c.bad_name-in_default-read-2.result c.args.words.2.now c.bad_name-in_default-read-2.ensures done)

pub returns-clause-forked : goal.returns-clause-forked
returns-clause-forked g c = λ context met done. absurd (cc)

pub returns-in-Offer-clause-forked : goal.returns-in-Offer-clause-forked
returns-in-Offer-clause-forked g c = λ context met done.
    let old = c.args.vault.now in
    let is = subst (IsMet old context (ForksOffer c.args.words.0.now c.args.words.1.now c.args.words.2.now)) c.in-Offer.is met in
    record {
      offer = offered (visible_in old c.args.words.0.now) c.in-Offer.repository;
      stands = is.stands;
      repositories = c.take_offer.ensures.forked done ∙ ap (λ word. insert c.args.tenant.now.repositories word c.in-Offer.repository) c.in-Some-read-2.ensures.found.0;
    }
