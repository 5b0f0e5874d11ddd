-- A step from state to state, made of the calls in it, and a run of steps.
use Rattle.std.proofs.Common.{◌≡◌, ◌≢◌, ◌⊎◌, ℕ, false, true, List, [], ◌∷◌, ◌++◌, Some, length, arith, refl, sym, ap, subst, ◌∙◌}
use Rattle.std.specs.FinMap.{get}
use Rattle.std.specs.List.{AllByRecursion}
use Rattle.std.specs.Option.{option_map}
use Rattle.looks.specs.Growth.{GrowsAmong}
use Rattle.fork_request.specs.Asked.{Ask, ForksOffer}
use Rattle.fork_request.specs.Told.{is_done, is_host_fault}
use Rattle.fork_request.specs.declared.host_request.HostRequest.{HostRequest}
use Rattle.fork_request.specs.declared.reply.Reply.{Reply}
use Rattle.fork_model.specs.Disclosure.{changes_offers}
use Rattle.fork_model.specs.Runs.{Asks, HostAsks}
use Rattle.fork_model.specs.World.{Event, Explains, HostSays, Steps}
use Rattle.fork_ledger.specs.Tenants.{VaultState, shape_of}
use Rattle.fork_host.specs.Bounds.{IsBounded}
use Rattle.fork_host.specs.Faults.{HostFaults}
use Rattle.fork_host.specs.Forked.{ForksOffered}
use Rattle.fork_host.specs.Given.{asker_of}
use Rattle.fork_host.specs.Safe.{IsNamedReply, IsTakenFrom, TellsSeen}
use Rattle.fork_host.specs.Sent.{seen_in_world, sent_in_world, sent_names}
use Rattle.fork_host.specs.Shape.{SameOffers, SameShape, view_shape as shape_seen}
use Rattle.fork_host.specs.Shown.{Accounts, HostState, IsWhole, Trusted, state_of, world_of}
use Rattle.fork_host.specs.Step.{AreNamedAt, IsRun, IsStep}
use Rattle.fork_host.specs.Swept.{Tends}
use Rattle.fork_host.proofs.ShapeLemmas.{same_offers}
use Rattle.fork_host.proofs.TendingLemmas.{own_step, shape_tended, whole_tended, world_tended}

-- a tenant was answered
pub answered_step : (old new : HostState) (t : List ℕ) (ask : Ask) (reply : Reply) → (Trusted old → Steps (world_of old) (Asks t ask) reply (world_of new)) → IsWhole new → new.vault.honest ≡ old.vault.honest
    → (is_done reply ≡ false → (tenant : List ℕ) → SameShape tenant (world_of old) (world_of new)) → ((tenant : List ℕ) → tenant ≢ t → SameShape tenant (world_of old) (world_of new))
    → (changes_offers ask ≡ false → (tenant : List ℕ) → SameOffers tenant (world_of old) (world_of new))
    → ((giver word copy : List ℕ) → ask ≡ ForksOffer giver word copy → is_done reply ≡ true → ForksOffered (world_of old) (world_of new) t giver word copy)
    → ((giver word copy : List ℕ) → ask ≡ ForksOffer giver word copy → IsTakenFrom (seen_in_world (world_of old) giver) (seen_in_world (world_of old) t) (seen_in_world (world_of new) t))
    → IsNamedReply ask reply → TellsSeen (seen_in_world (world_of old) t) ask reply → IsBounded (sent_in_world (world_of old) t ask) old.vault new.vault reply → GrowsAmong (sent_names (sent_in_world (world_of old) t ask)) old.vault.places new.vault.places → IsStep old (Asks t ask) reply new
answered_step old new t ask reply explained whole honest kept others offers forked takes named seen bounded grows = record {
  explained = explained;
  honest = honest;
  whole = whole;
  kept = kept;
  others = λ tenant differs. others tenant (λ same. differs (ap Some (sym same)));
  offers = offers;
  forked = λ tenant giver word copy is done.
      let asker : t ≡ tenant = cc in
      let same : ask ≡ ForksOffer giver word copy = cc in
      subst (λ who. ForksOffered (world_of old) (world_of new) who giver word copy) asker (forked giver word copy same done);
  takes = λ tenant giver word copy is.
      let asker : t ≡ tenant = cc in
      let same : ask ≡ ForksOffer giver word copy = cc in
      subst (λ who. IsTakenFrom (seen_in_world (world_of old) giver) (seen_in_world (world_of old) who) (seen_in_world (world_of new) who)) asker (takes giver word copy same);
  named = named;
  seen = seen;
  faults = bounded;
  tends = grows;
}

-- the host itself was asked
pub tended_step : (accounts : Accounts) (old new : VaultState) (request : HostRequest) (reply : Reply) → HostSays (world_of (state_of accounts old)) request reply ⊎ (is_host_fault reply ≡ true) → Tends request old reply new → shape_of new.tenants ≡ shape_of old.tenants
    → HostFaults request reply → IsBounded [] old new reply → IsWhole (state_of accounts old) → IsStep (state_of accounts old) (HostAsks request) reply (state_of accounts new)
tended_step accounts old new request reply says tends same faults bounded whole = record {
  explained = λ trusted. own_step (world_of (state_of accounts old)) (world_of (state_of accounts new)) request reply says (world_tended accounts old new (tends.kept trusted));
  honest = tends.honest;
  whole = whole_tended accounts old new same tends.kept tends.honest whole;
  kept = λ is tenant. shape_tended accounts old new same tenant;
  others = λ tenant differs. shape_tended accounts old new same tenant;
  offers = λ _ tenant. same_offers (get (world_of (state_of accounts new)) tenant) (get (world_of (state_of accounts old)) tenant) (shape_tended accounts old new same tenant);
  forked = λ tenant giver word copy is done. absurd (cc);
  takes = λ tenant giver word copy is. absurd (cc);
  named = tt;
  seen = says;
  faults = (faults, bounded);
  tends = tends;
}

-- a run goes on by one step
pub run_more : (old mid new : HostState) (events : List Event) (replies : List Reply) (event : Event) (reply : Reply) → IsRun old events replies mid → IsStep mid event reply new → IsRun old (events ++ event ∷ []) (replies ++ reply ∷ []) new
run_more old mid new [] [] event reply same step = (new, subst (λ s. IsStep s event reply new) same step, refl)
run_more old mid new (e ∷ events) (r ∷ replies) event reply run step = (run.0, run.1, run_more run.0 mid new events replies event reply run.2 step)
run_more old mid new [] (r ∷ replies) event reply run step = absurd run
run_more old mid new (e ∷ events) [] event reply run step = absurd run

-- two runs, one after the other, are one
pub run_joined : (old mid new : HostState) (events more : List Event) (replies others : List Reply) → IsRun old events replies mid → IsRun mid more others new → IsRun old (events ++ more) (replies ++ others) new
run_joined old mid new [] more [] others run rest = subst (λ s. IsRun s more others new) run rest
run_joined old mid new [] more (r ∷ replies) others run rest = absurd run
run_joined old mid new (e ∷ events) more [] others run rest = absurd run
run_joined old mid new (e ∷ events) more (r ∷ replies) others run rest = (run.0, run.1, run_joined run.0 mid new events more replies others run.2 rest)

-- the honesty stays
pub run_honest : (old new : HostState) (events : List Event) (replies : List Reply) → IsRun old events replies new → new.vault.honest ≡ old.vault.honest
run_honest old new [] [] run = ap (λ (s : HostState). s.vault.honest) run
run_honest old new [] (r ∷ replies) run = absurd run
run_honest old new (e ∷ events) [] run = absurd run
run_honest old new (e ∷ events) (r ∷ replies) run = run_honest run.0 new events replies run.2 ∙ run.1.honest

-- a whole state leads to a whole state
pub run_whole : (old new : HostState) (events : List Event) (replies : List Reply) → IsRun old events replies new → IsWhole old → IsWhole new
run_whole old new [] [] run whole = subst IsWhole (sym run) whole
run_whole old new [] (r ∷ replies) run whole = absurd run
run_whole old new (e ∷ events) [] run whole = absurd run
run_whole old new (e ∷ events) (r ∷ replies) run whole = run_whole run.0 new events replies run.2 run.1.whole

-- over an honest store it is a run of the world
pub run_explained : (old new : HostState) (events : List Event) (replies : List Reply) → IsRun old events replies new → Trusted old → Explains (world_of old) events replies (world_of new)
run_explained old new [] [] run trusted = ap world_of run
run_explained old new [] (r ∷ replies) run trusted = absurd run
run_explained old new (e ∷ events) [] run trusted = absurd run
run_explained old new (e ∷ events) (r ∷ replies) run trusted = (world_of run.0, run.1.explained trusted, run_explained run.0 new events replies run.2 (run.1.honest ∙ trusted))

-- if nothing was done, each view keeps its shape
pub run_kept : (old new : HostState) (events : List Event) (replies : List Reply) → IsRun old events replies new → AllByRecursion (λ reply. is_done reply ≡ false) replies → (t : List ℕ) → SameShape t (world_of old) (world_of new)
run_kept old new [] [] run none t = ap (λ (s : HostState). option_map shape_seen (get (world_of s) t)) run
run_kept old new [] (r ∷ replies) run none t = absurd run
run_kept old new (e ∷ events) [] run none t = absurd run
run_kept old new (e ∷ events) (r ∷ replies) run none t = run_kept run.0 new events replies run.2 none.1 t ∙ run.1.kept none.0 t

-- and so does that of a tenant that asked nothing
pub run_others : (old new : HostState) (events : List Event) (replies : List Reply) (t : List ℕ) → IsRun old events replies new → AllByRecursion (λ event. asker_of event ≢ Some t) events → SameShape t (world_of old) (world_of new)
run_others old new [] [] t run none = ap (λ (s : HostState). option_map shape_seen (get (world_of s) t)) run
run_others old new [] (r ∷ replies) t run none = absurd run
run_others old new (e ∷ events) [] t run none = absurd run
run_others old new (e ∷ events) (r ∷ replies) t run none = run_others run.0 new events replies t run.2 none.1 ∙ run.1.others t none.0

-- what was answered under a name has that name
pub run_named : (old new : HostState) (events : List Event) (replies : List Reply) → IsRun old events replies new → AreNamedAt events replies
run_named old new [] [] run = tt
run_named old new [] (r ∷ replies) run = absurd run
run_named old new (e ∷ events) [] run = absurd run
run_named old new (e ∷ events) (r ∷ replies) run = (run.1.named, run_named run.0 new events replies run.2)

-- and a run is two, split after any of its steps
pub run_parted : (old new : HostState) (front back : List Event) (told after : List Reply) → IsRun old (front ++ back) (told ++ after) new → length told ≡ length front → (mid : HostState) × IsRun old front told mid × IsRun mid back after new
run_parted old new [] back [] after run same = (old, refl, run)
run_parted old new [] back (reply ∷ told) after run same = absurd (omega (arith, same))
run_parted old new (event ∷ front) back [] after run same = absurd (omega (arith, same))
run_parted old new (event ∷ front) back (reply ∷ told) after run same =
    let rest = run_parted run.0 new front back told after run.2 (omega (arith, same)) in
    (rest.0, (run.0, run.1, rest.1), rest.2)
