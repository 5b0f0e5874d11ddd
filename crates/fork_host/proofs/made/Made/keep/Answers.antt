use Rattle.std.proofs.Common.{◌≡◌, ◌<◌, ◌≤◌, ◌++◌, ◌∷◌, [], List, ap, length, map, subst, sym, ◌∙◌}
use Rattle.std.proofs.lemmas.List.{append-nil, length-map}
use Rattle.std.specs.FinMap.{entries, len-entries}
use Rattle.git_name.proofs.TreeMaps.{entries_of_ordered}
use Rattle.git_reftx.specs.Repository.{Repository}
use Rattle.fork_model.specs.Offer.{Pair}
use Rattle.fork_model.specs.declared.limits.TheConstants.{MAX_OFFERS}
use Rattle.fork_model.proofs.EntryLemmas.{pair_total}
use Rattle.state_text.specs.Adding.{AreBefore, with_offer}
use Rattle.state_text.specs.Offer.{Offer, words_of_offer}
use Rattle.fork_host.specs.Keeping.{with_offers}
use Rattle.fork_host.specs.Made.{offer_told}
use Rattle.fork_host.proofs.KeepingLemmas.{moved, room_for, so_far}
use Rattle.fork_host.proofs.PairLemmas.{next_other, next_words, told_more}
use Rattle.fork_host.proofs.made.Made.keep.Goals as goal

pub loop-pair-init : goal.loop-pair-init
loop-pair-init c = (
  [],
  c.into_iter-pair-iterator.ensures.into_iter_gives ∙ c.iter-pair-items.ensures.rest ∙ sym (entries_of_ordered pair_total c.self.inside.offers.entries c.iter-pair-items.ensures.ordered) ∙ ap entries c.self.view_is,
  (λ i. record c.args.state.now { offers = sym (append-nil c.args.state.now.offers) i }),
)

-- the offer that comes next
abbrev row : (c : goal.After-new) → Pair × Repository
row c = (c.in-Some.pair.now, c.in-Some.repository.now)

told : (c : goal.After-new) → c.new.result ≡ offer_told (row c)
told c = c.new.ensures ∙ (λ i. record { receiver = c.copy-in-loop-pair.ensures i; name = c.copy-in-loop-pair-2.ensures i; repository = c.in_ok-repository.ensures i })

-- those before it, it and those after it are all
whole : (c : goal.After-new) → c.loop-pair.invariant.0 ++ row c ∷ c.next.new.self ≡ entries c.args.self.now
whole c = so_far c.loop-pair.invariant.0 (row c) c.next.new.self c.loop-pair.pair-iterator (entries c.args.self.now) c.in-Some.ensures.steps c.loop-pair.invariant.1

-- the offers that were appended
offers : (c : goal.After-new) → c.loop-pair.state.offers ≡ map offer_told c.loop-pair.invariant.0
offers c = ap (λ t. t.offers) c.loop-pair.invariant.2 ∙ ap (λ os. os ++ map offer_told c.loop-pair.invariant.0) c.requires.none

pub keep_offer-requires-clause-other : goal.keep_offer-requires-clause-other
keep_offer-requires-clause-other c same =
    (next_other c.args.state.now.name c.args.self.now c.requires.others c.loop-pair.invariant.0 (row c) c.next.new.self (whole c)).other
    (sym (ap (λ (o : Offer). o.receiver) (told c)) ∙ same ∙ ap (λ t. t.name) c.loop-pair.invariant.2)

pub keep_offer-requires-clause-before : goal.keep_offer-requires-clause-before
keep_offer-requires-clause-before c =
    subst (AreBefore (map words_of_offer c.loop-pair.state.offers)) (ap words_of_offer (sym (told c)))
    (subst (λ os. AreBefore (map words_of_offer os) (words_of_offer (offer_told (row c)))) (sym (offers c)) (next_words c.args.state.now.name c.args.self.now c.requires.others c.loop-pair.invariant.0 (row c) c.next.new.self (whole c)))

pub keep_offer-requires-clause-room : goal.keep_offer-requires-clause-room
keep_offer-requires-clause-room c =
    subst (λ n. n < MAX_OFFERS) (sym (length-map c.loop-pair.invariant.0 offer_told) ∙ ap (λ os. length os) (sym (offers c)))
    (room_for c.loop-pair.invariant.0 (row c) c.next.new.self MAX_OFFERS (subst (λ n. n ≤ MAX_OFFERS) (len-entries c.args.self.now ∙ ap (λ (rows : List (Pair × Repository)). length rows) (sym (whole c))) c.requires.few))

pub loop-pair-preserved : goal.loop-pair-preserved
loop-pair-preserved c =
    let before = c.loop-pair.invariant.0 in
    let next : Pair × Repository = (c.in-Some.pair.now, c.in-Some.repository.now) in
    let is : c.new.result ≡ offer_told next = c.new.ensures ∙ (λ i. record { receiver = c.copy-in-loop-pair.ensures i; name = c.copy-in-loop-pair-2.ensures i; repository = c.in_ok-repository.ensures i }) in (
      before ++ next ∷ [],
      moved before next c.next.new.self ∙ so_far before next c.next.new.self c.loop-pair.pair-iterator (entries c.args.self.now) c.in-Some.ensures.steps c.loop-pair.invariant.1,
      c.in_ok-keep_offer.ensures ∙ (λ i. with_offer (c.loop-pair.invariant.2 i) (is i)) ∙ told_more c.args.state.now before next,
    )

pub returns : goal.returns
returns c =
    c.loop-pair.invariant.2 ∙ ap (λ rows. with_offers c.args.state.now (map offer_told rows))
    (sym (append-nil c.loop-pair.invariant.0) ∙ ap (λ rows. c.loop-pair.invariant.0 ++ rows) (sym c.in-None.ensures.steps.0) ∙ c.loop-pair.invariant.1)
