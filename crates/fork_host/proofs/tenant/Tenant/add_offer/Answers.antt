use Rattle.std.proofs.Common.{◌≡◌, ◌<◌, ◌≤◌, ap, arith, rules, sym, ◌∙◌}
use Rattle.std.specs.FinMap.{contains_key, insert, len}
use Rattle.fork_model.specs.Offer.{Pair}
use Rattle.fork_model.specs.declared.limits.TheConstants.{MAX_OFFERS}
use Rattle.fork_host.specs.Made.{Made}
use Rattle.fork_host.specs.Shown.{Account, seen_by}
use Rattle.fork_host.proofs.MadeLemmas.{given_as, offer_made, offer_stands, offers_full}
use Rattle.fork_host.proofs.tenant.Tenant.add_offer.Goals as goal

pub returns-then-contains-clause-row : goal.returns-then-contains-clause-row
returns-then-contains-clause-row c own =
    let pair : Pair = (c.args.to, c.args.of) in
    let there = ap (λ (a : Account). contains_key a.made pair) (sym c.self.view_is) ∙ sym c.contains.ensures ∙ c.if-contains.true in
    given_as _ _ _ _ (offer_stands c.args.self.now own pair c.args.repository there)

pub returns-then-len-ge-MAX_OFFERS-clause-row : goal.returns-then-len-ge-MAX_OFFERS-clause-row
returns-then-len-ge-MAX_OFFERS-clause-row c own =
    let pair : Pair = (c.args.to, c.args.of) in
    let none = ap (λ (a : Account). contains_key a.made pair) (sym c.self.view_is) ∙ sym c.contains.ensures ∙ c.if-contains.false in
    let count = c.len.ensures ∙ ap (λ (a : Account). len a.made) c.self.view_is in
    let full : MAX_OFFERS ≤ len c.args.self.now.made = (let past = c.if-len-ge-MAX_OFFERS.true in omega (arith, past, count)) in
    given_as _ _ _ _ (offers_full c.args.self.now own pair c.args.repository none full)

pub returns-clause-row : goal.returns-clause-row
returns-clause-row c own =
    let account = c.args.self.now in
    let pair : Pair = (c.args.to, c.args.of) in
    let none = ap (λ (a : Account). contains_key a.made pair) (sym c.self.view_is) ∙ sym c.contains.ensures ∙ c.if-contains.false in
    let count = c.len.ensures ∙ ap (λ (a : Account). len a.made) c.self.view_is in
    let room : len account.made < MAX_OFFERS = (let past = c.if-len-ge-MAX_OFFERS.false in omega (arith, past, count)) in
    let set : c.insert.new.self ≡ insert c.self.inside.made pair c.args.repository = search rules in
    let new = ap (λ (a : Account). record a { made = c.insert.new.self }) c.self.view_is
    ∙ ap (λ (m : Made). record account { made = m }) (set ∙ ap (λ (a : Account). insert a.made pair c.args.repository) c.self.view_is) in
    given_as _ _ _ _ (offer_made account own pair c.args.repository none room ∙ (λ i. (sym c.done.ensures i, seen_by (sym new i) own)))
