use Rattle.std.proofs.Common.{◌≡◌, [], ap, refl, subst, sym, ◌∙◌}
use Rattle.fork_request.specs.Asked.{AsksOffers, ForksOffer, ask_of}
use Rattle.fork_model.specs.Answer.{answer}
use Rattle.fork_ledger.specs.Tenants.{private_of}
use Rattle.fork_host.specs.Bounds.{IsBounded}
use Rattle.fork_host.specs.Forked.{HasForked}
use Rattle.fork_host.specs.Meeting.{IsMet}
use Rattle.fork_host.specs.Own.{visible_in}
use Rattle.fork_host.specs.Rows.{Gives}
use Rattle.fork_host.specs.Safe.{IsTakenFrom}
use Rattle.fork_host.specs.Shown.{shown}
use Rattle.fork_host.proofs.BoundLemmas.{bounded_still, quiet_row}
use Rattle.fork_host.proofs.RowLemmas.{yields_of}
use Rattle.fork_host.proofs.SafeLemmas.{safe_still}
use Rattle.fork_host.proofs.TakenFromLemmas.{copy_in, giver_in, taken_none, word_in}
use Rattle.fork_host.proofs.accounts.look.Goals as goal

pub returns-in-Offers-clause-row : goal.returns-in-Offers-clause-row
unfolding answer
returns-in-Offers-clause-row g c = λ context met. record {
  yields = λ honest. yields_of _ _ _ _ (rw c.in-Offers.is
      (c.list_offers.ensures c.args.vault.now context (private_of c.args.vault.now.tenants c.args.name.now) (subst (λ r. IsMet c.args.vault.now context (ask_of r) c.args.met) c.in-Offers.is met)));
}

pub returns-in-Offers-clause-safe : goal.returns-in-Offers-clause-safe
unfolding answer
returns-in-Offers-clause-safe g c = λ context met.
    let view = shown c.args.tenant.now c.args.vault.now c.args.name.now in
    let gives : Gives (answer context view (ask_of c.args.request)) view c.list_offers.result view = rw c.in-Offers.is
    (c.list_offers.ensures c.args.vault.now context (private_of c.args.vault.now.tenants c.args.name.now) (subst (λ r. IsMet c.args.vault.now context (ask_of r) c.args.met) c.in-Offers.is met)) in
    safe_still (IsBounded [] c.args.vault.now c.args.vault.now) view c.list_offers.result (bounded_still [] c.args.vault.now c.list_offers.result (quiet_row context view view (ask_of c.args.request) c.list_offers.result gives))

pub returns-in-ForkOffer-clause-row : goal.returns-in-ForkOffer-clause-row
unfolding answer
returns-in-ForkOffer-clause-row g c = λ context met. rw c.in-ForkOffer.is (c.fork_offer.ensures.row context (subst (λ r. IsMet c.args.vault.now context (ask_of r) c.args.met) c.in-ForkOffer.is met))

pub returns-in-ForkOffer-clause-safe : goal.returns-in-ForkOffer-clause-safe
returns-in-ForkOffer-clause-safe g c = λ context met. c.fork_offer.ensures.safe context (subst (λ r. IsMet c.args.vault.now context (ask_of r) c.args.met) c.in-ForkOffer.is met)

pub returns-in-Offers-clause-takes : goal.returns-in-Offers-clause-takes
returns-in-Offers-clause-takes g c = λ context giver word copy met is.
    let seen = visible_in c.args.vault.now c.args.name.now in
    taken_none (visible_in c.args.vault.now giver) seen seen refl

pub returns-in-ForkOffer-clause-takes : goal.returns-in-ForkOffer-clause-takes
returns-in-ForkOffer-clause-takes g c = λ context giver word copy met is.
    let old = c.args.vault.now in
    let same : c.in-ForkOffer.giver.now ≡ giver = ap giver_in (sym (ap ask_of c.in-ForkOffer.is) ∙ is) in
    subst (λ who. IsTakenFrom (visible_in old who) (visible_in old c.args.name.now) (visible_in c.fork_offer.new.vault c.args.name.now)) same
    (c.fork_offer.ensures.takes context (subst (λ r. IsMet old context (ask_of r) c.args.met) c.in-ForkOffer.is met))

pub returns-in-Offers-clause-forked : goal.returns-in-Offers-clause-forked
returns-in-Offers-clause-forked g c = λ context giver word copy met is done.
    let differs : AsksOffers ≡ ForksOffer giver word copy = sym (ap ask_of c.in-Offers.is) ∙ is in
    absurd (cc)

pub returns-in-ForkOffer-clause-forked : goal.returns-in-ForkOffer-clause-forked
returns-in-ForkOffer-clause-forked g c = λ context giver word copy met is done.
    subst (λ ask. HasForked context (giver_in ask) (word_in ask) (copy_in ask) c.args.tenant.now c.fork_offer.new.tenant) (sym (ap ask_of c.in-ForkOffer.is) ∙ is)
    (c.fork_offer.ensures.forked context (subst (λ r. IsMet c.args.vault.now context (ask_of r) c.args.met) c.in-ForkOffer.is met) done)
