-- Runs keep worlds in order, and right.
use Rattle.std.proofs.Common.{◌≡◌, ℕ, ◌+◌, ◌≤◌, Bool, true, false, cond, refl, List, [], ◌∷◌, Some, sym, ap, subst, ◌∙◌, is_some, inl, inr}
use Rattle.std.specs.Ordering.{eq_by_cmp}
use Rattle.std.specs.FinMap.{contains_key, get, get-insert, insert, len, len-insert}
use Rattle.git_name.specs.Name.{name_cmp}
use Rattle.git_name.proofs.Names.{name_total}
use Rattle.fork_request.specs.Asked.{Ask, Inits, Drops, Forks, Pushes, SendsPart, EndsParts, DropsParts, Updates, SetsHead, MakesOffer, Withdraws, ForksOffer, AsksObject, AsksTree, AsksRevisions, AsksBases, AsksReferences, AsksHead, AsksOffers, AsksRepositories, Fetches, AsksUse, Prunes, NoRequest}
use Rattle.fork_request.specs.declared.reply.Reply.{Reply}
use Rattle.fork_model.specs.Answer.{answer, offer_answer, offers_answer, withdraw_answer}
use Rattle.fork_model.specs.Context.{Context, met_by, nothing_offered}
use Rattle.fork_model.specs.Runs.{Asks, HostAsks, Answered, Unknown, Faulted, HostAnswered, HostFaulted}
use Rattle.fork_model.specs.Sound.{AreToOthers, IsAlike, IsAlikeWhereTaken, IsOrderly, IsOrderlyWorld, IsRight, IsRightWorld, IsSound, IsSoundWorld, takes_offer}
use Rattle.fork_model.specs.View.{View}
use Rattle.fork_model.specs.World.{World, Event, Steps, Explains}
use Rattle.fork_reach.proofs.KeptObjects.{at_key, tied_names}
use Rattle.std.specs.List.{AllByRecursion}
use Rattle.fork_model.proofs.AlikeLemmas.{may_take, none_beside, none_taken, sound_beside}
use Rattle.fork_model.proofs.MadeLemmas.{to_others_answer}
use Rattle.fork_model.proofs.SoundLemmas.{orderly_answer, right_answer}

-- a world with another view in a tenant's place
pub few_still : (world : World) (t : List ℕ) (view : View) → contains_key world t ≡ true → len world ≤ 64 → len (insert world t view) ≤ 64
few_still world t view here few = subst (λ n. n ≤ 64) (sym (len-insert name_total world t view ∙ ap (λ b. cond b (len world) (len world + 1)) here)) few

pub each_still : (P : View → Type 0) (world : World) (t : List ℕ) (view : View) → ((q : List ℕ) (other : View) → get world q ≡ Some other → P other) → P view
    → (q : List ℕ) (other : View) → get (insert world t view) q ≡ Some other → P other
each_still P world t view all one q other is = elim (at_key (eq_by_cmp name_cmp q t) view other (get world q) (sym (get-insert name_total world t view q) ∙ is)) [
  | inl set ↦ subst P set.1 one
  | inr stays ↦ all q other stays
]

known_still : (world : World) (t q : List ℕ) (view : View) → contains_key world t ≡ true → contains_key (insert world t view) q ≡ true → contains_key world q ≡ true
known_still world t q view here is = by (eq_by_cmp name_cmp q t) refl (sym (ap is_some (get-insert name_total world t view q)) ∙ is)
  where
    by : (b : Bool) → eq_by_cmp name_cmp q t ≡ b → is_some (cond b (Some view) (get world q)) ≡ true → contains_key world q ≡ true
    by true same there = ap (contains_key world) (tied_names q t same) ∙ here
    by false apart there = there

to_others_still : (world : World) (t : List ℕ) (view : View) → ((q : List ℕ) (other : View) → get world q ≡ Some other → AreToOthers q other) → AreToOthers t view → (q : List ℕ) (other : View) → get (insert world t view) q ≡ Some other → AreToOthers q other
to_others_still world t view all one q other is = elim (at_key (eq_by_cmp name_cmp q t) view other (get world q) (sym (get-insert name_total world t view q) ∙ is)) [
  | inl set ↦ subst (λ n. AreToOthers n other) (sym (tied_names q t set.0)) (subst (AreToOthers t) set.1 one)
  | inr stays ↦ all q other stays
]

pub orderly_insert : (world : World) (t : List ℕ) (view : View) → IsOrderlyWorld world → contains_key world t ≡ true → IsOrderly view → AreToOthers t view → IsOrderlyWorld (insert world t view)
orderly_insert world t view orderly here one others = record {
  few = few_still world t view here orderly.few;
  named = λ q is. orderly.named q (known_still world t q view here is);
  views = each_still IsOrderly world t view orderly.views one;
  to_others = to_others_still world t view orderly.to_others others;
}

-- an answer does not depend on what is offered, if no offer is taken
unoffered : (context : Context) (view : View) (tenant : List ℕ) (ask : Ask) → takes_offer (Asks tenant ask) ≡ false → (answer context view ask).1 ≡ (answer (nothing_offered context.own) view ask).1
unfolding answer offers_answer offer_answer withdraw_answer
unoffered context view tenant (Inits repository) apart = refl
unoffered context view tenant (Drops repository) apart = refl
unoffered context view tenant (Forks source copy) apart = refl
unoffered context view tenant (Pushes repository body) apart = refl
unoffered context view tenant (SendsPart body) apart = refl
unoffered context view tenant (EndsParts repository) apart = refl
unoffered context view tenant DropsParts apart = refl
unoffered context view tenant (Updates repository body) apart = refl
unoffered context view tenant (SetsHead repository reference) apart = refl
unoffered context view tenant (ForksOffer giver repository copy) apart = absurd (let no : ⊥ = cc in no)
unoffered context view tenant (AsksObject name) apart = refl
unoffered context view tenant (AsksTree name) apart = refl
unoffered context view tenant (AsksRevisions repository items) apart = refl
unoffered context view tenant (AsksBases repository first second) apart = refl
unoffered context view tenant (AsksReferences repository prefix) apart = refl
unoffered context view tenant (AsksHead repository) apart = refl
unoffered context view tenant AsksOffers apart = refl
unoffered context view tenant (Fetches repository items) apart = refl
unoffered context view tenant AsksUse apart = refl
unoffered context view tenant AsksRepositories apart = refl
unoffered context view tenant Prunes apart = refl
unoffered context view tenant NoRequest apart = refl
unoffered context view tenant (MakesOffer repository receiver) apart = refl
unoffered context view tenant (Withdraws repository receiver) apart = refl

-- in a sound world in which each name has only one object whenever an offer is taken, an answer leaves an orderly view
orderly_here : (old : World) (t : List ℕ) (ask : Ask) (view : View) → (takes_offer (Asks t ask) ≡ true → IsAlike old × IsRightWorld old) → IsOrderlyWorld old → get old t ≡ Some view → IsOrderly (answer (met_by old t) view ask).1
orderly_here old t ask view alike was here = by (takes_offer (Asks t ask)) refl
  where
    by : (b : Bool) → takes_offer (Asks t ask) ≡ b → IsOrderly (answer (met_by old t) view ask).1
    by true takes = orderly_answer (met_by old t) view ask (may_take old t view (record { orderly = was; right = (alike takes).1 }) (alike takes).0 here) (was.views t view here)
    by false leaves = subst IsOrderly (sym (unoffered (met_by old t) view t ask leaves)) (orderly_answer (nothing_offered t) view ask (none_taken t view.objects) (was.views t view here))

right_here : (old : World) (t : List ℕ) (ask : Ask) (view : View) → (takes_offer (Asks t ask) ≡ true → IsAlike old) → IsSoundWorld old → get old t ≡ Some view → IsRight (answer (met_by old t) view ask).1
right_here old t ask view alike was here = by (takes_offer (Asks t ask)) refl
  where
    own : IsSound view
    own = record { orderly = was.orderly.views t view here; right = was.right t view here }

    by : (b : Bool) → takes_offer (Asks t ask) ≡ b → IsRight (answer (met_by old t) view ask).1
    by true takes = right_answer (met_by old t) view ask (sound_beside old t view was (alike takes) here) own
    by false leaves = subst IsRight (sym (unoffered (met_by old t) view t ask leaves)) (right_answer (nothing_offered t) view ask (none_beside t view.objects) own)

pub orderly_step : (old new : World) (step : Event) (reply : Reply) → (takes_offer step ≡ true → IsAlike old × IsRightWorld old) → IsOrderlyWorld old → Steps old step reply new → IsOrderlyWorld new
orderly_step old new (Asks t ask) reply alike was (Answered view here told set) =
    subst IsOrderlyWorld (sym set) (orderly_insert old t (answer (met_by old t) view ask).1 was (ap is_some here) (orderly_here old t ask view alike was here) (to_others_answer (met_by old t) view (was.to_others t view here) ask))
orderly_step old new (Asks t ask) reply alike was (Unknown none told stays) = subst IsOrderlyWorld (sym stays) was
orderly_step old new (Asks t ask) reply alike was (Faulted bad stays) = subst IsOrderlyWorld (sym stays) was
orderly_step old new (HostAsks ask) reply alike was (HostAnswered says stays) = subst IsOrderlyWorld (sym stays) was
orderly_step old new (HostAsks ask) reply alike was (HostFaulted bad stays) = subst IsOrderlyWorld (sym stays) was

-- what holds of each view
abbrev pub EachView : (View → Type 0) → World → Type 0
EachView P world = (tenant : List ℕ) (view : View) → get world tenant ≡ Some view → P view

pub right_step : (old new : World) (step : Event) (reply : Reply) → (takes_offer step ≡ true → IsAlike old) → IsSoundWorld old → Steps old step reply new → IsRightWorld new
right_step old new (Asks t ask) reply alike was (Answered view here told set) =
    subst IsRightWorld (sym set) (each_still IsRight old t (answer (met_by old t) view ask).1 was.right (right_here old t ask view alike was here))
right_step old new (Asks t ask) reply alike was (Unknown none told stays) = subst IsRightWorld (sym stays) was.right
right_step old new (Asks t ask) reply alike was (Faulted bad stays) = subst IsRightWorld (sym stays) was.right
right_step old new (HostAsks ask) reply alike was (HostAnswered says stays) = subst IsRightWorld (sym stays) was.right
right_step old new (HostAsks ask) reply alike was (HostFaulted bad stays) = subst IsRightWorld (sym stays) was.right

pub sound_step : (old new : World) (step : Event) (reply : Reply) → (takes_offer step ≡ true → IsAlike old) → IsSoundWorld old → Steps old step reply new → IsSoundWorld new
sound_step old new step reply alike was taken = record {
  orderly = orderly_step old new step reply (λ takes. (alike takes, was.right)) was.orderly taken;
  right = right_step old new step reply alike was taken;
}

-- and so does a run
pub sound_run : (old new : World) (steps : List Event) (replies : List Reply) (run : Explains old steps replies new) → IsAlikeWhereTaken old steps replies new run → IsSoundWorld old → IsSoundWorld new
sound_run old new [] [] run alike was = subst IsSoundWorld (sym run) was
sound_run old new [] (reply ∷ replies) run alike was = absurd run
sound_run old new (step ∷ steps) [] run alike was = absurd run
sound_run old new (step ∷ steps) (reply ∷ replies) run alike was = sound_run run.0 new steps replies run.2 alike.1 (sound_step old run.0 step reply alike.0 was run.1)

-- if no offer is taken, what names, kinds, lengths, references and limits decide does not depend on what bytes decide
pub orderly_run : (old new : World) (steps : List Event) (replies : List Reply) → Explains old steps replies new → AllByRecursion (λ step. takes_offer step ≡ false) steps → IsOrderlyWorld old → IsOrderlyWorld new
orderly_run old new [] [] run leaves was = subst IsOrderlyWorld (sym run) was
orderly_run old new [] (reply ∷ replies) run leaves was = absurd run
orderly_run old new (step ∷ steps) [] run leaves was = absurd run
orderly_run old new (step ∷ steps) (reply ∷ replies) run leaves was =
    orderly_run run.0 new steps replies run.2 leaves.1 (orderly_step old run.0 step reply (λ takes. absurd (let no : ⊥ = cc (sym takes ∙ leaves.0) in no)) was run.1)
