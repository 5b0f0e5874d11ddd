use Rattle.std.proofs.Common.{ap, sym, ◌∙◌}
use Rattle.std.specs.FinMap.{contains_key, remove}
use Rattle.fork_request.specs.declared.refusal.Refusal.TheVariants.{NoOffer}
use Rattle.fork_request.specs.declared.reply.Reply.TheVariants.{Refused}
use Rattle.fork_model.specs.Answer.{withdraw_answer}
use Rattle.fork_model.specs.Context.{nothing_offered}
use Rattle.fork_model.specs.Offer.{Pair}
use Rattle.fork_host.specs.Made.{Made}
use Rattle.fork_host.specs.Shown.{Account, seen_by}
use Rattle.fork_host.proofs.MadeLemmas.{given_as, no_such_offer, offer_gone, receiver_is}
use Rattle.fork_host.proofs.QueryLemmas.{named_is}
use Rattle.fork_host.proofs.tenant.Tenant.withdraw.Goals as goal

pub returns-then-not-contains-clause-row : goal.returns-then-not-contains-clause-row
unfolding withdraw_answer
returns-then-not-contains-clause-row c own =
    let view = seen_by c.args.self.now own in
    let of = c.in-Some.ensures.found.0 in
    let to = c.in-Some-receiver_named.ensures.found in
    let none = ap (λ (a : Account). contains_key a.made (c.args.receiver.now, c.args.word.now)) (sym c.self.view_is)
    ∙ ap (λ (pair : Pair). contains_key c.self.inside.made pair) (λ i. (sym to i, sym of i)) ∙ sym c.contains.ensures ∙ c.if-not-contains.true in
    given_as _ _ _ _
    (named_is view c.args.word.now _ (sym c.in-Some.ensures.test) ∙ receiver_is (nothing_offered c.args.name.now) view c.args.receiver.now _ (sym c.in-Some-receiver_named.ensures.test)
    ∙ no_such_offer c.args.self.now own (c.args.receiver.now, c.args.word.now) none ∙ (λ i. (Refused (NoOffer (sym to i) (sym of i)), view)))

pub returns-clause-row : goal.returns-clause-row
unfolding withdraw_answer
returns-clause-row c own =
    let account = c.args.self.now in
    let view = seen_by account own in
    let of = c.in-Some.ensures.found.0 in
    let to = c.in-Some-receiver_named.ensures.found in
    let there = ap (λ (a : Account). contains_key a.made (c.args.receiver.now, c.args.word.now)) (sym c.self.view_is)
    ∙ ap (λ (pair : Pair). contains_key c.self.inside.made pair) (λ i. (sym to i, sym of i)) ∙ sym c.contains.ensures ∙ c.if-not-contains.false in
    let new = ap (λ (a : Account). record a { made = c.remove.new.self }) c.self.view_is
    ∙ ap (λ (m : Made). record account { made = m }) (c.remove.ensures ∙ ap (λ (pair : Pair). remove c.self.inside.made pair) (λ i. (to i, of i)) ∙ ap (λ (a : Account). remove a.made (c.args.receiver.now, c.args.word.now)) c.self.view_is) in
    given_as _ _ _ _
    (named_is view c.args.word.now _ (sym c.in-Some.ensures.test) ∙ receiver_is (nothing_offered c.args.name.now) view c.args.receiver.now _ (sym c.in-Some-receiver_named.ensures.test)
    ∙ offer_gone account own (c.args.receiver.now, c.args.word.now) there ∙ (λ i. (sym c.done.ensures i, seen_by (sym new i) own)))
