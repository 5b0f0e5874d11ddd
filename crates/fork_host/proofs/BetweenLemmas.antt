-- What a census reports between the steps of a run, and what a collection there leaves.
use Rattle.std.proofs.Common.{◌≡◌, ◌⊎◌, inl, inr, ℕ, true, List, [], ◌∷◌, ◌++◌, Option, None, Some, length, arith, refl, sym, ap, subst, ◌∙◌}
use Rattle.std.specs.FinMap.{get}
use Rattle.std.specs.List.{AllByRecursion}
use Rattle.std.specs.Prelude.{Contains, is_some}
use Rattle.std.proofs.lemmas.List.Elements.{Contains-append_left, Contains-append_right}
use Rattle.git_name.specs.Object.{Object}
use Rattle.looks.specs.Growth.{GrowsAmong}
use Rattle.looks.specs.Places.{Places}
use Rattle.looks.proofs.GrowthLemmas.{none_came}
use Rattle.loose_store.specs.Stored.{Whole}
use Rattle.fork_request.specs.Asked.{Ask, AsksUse}
use Rattle.fork_request.specs.declared.host_request.HostRequest.TheVariants.{Census, Collect}
use Rattle.fork_request.specs.declared.reply.Reply.{Reply}
use Rattle.fork_request.specs.declared.reply.Reply.TheVariants.{Done}
use Rattle.fork_ledger.specs.Taken.{is_taken}
use Rattle.fork_ledger.specs.Tenants.{Tenants}
use Rattle.fork_model.specs.Runs.{Asks, HostAsks}
use Rattle.fork_model.specs.View.{View}
use Rattle.fork_model.specs.World.{Event, number_line}
use Rattle.fork_host.specs.Between.{BringsNothing}
use Rattle.fork_host.specs.Causes.{IsCalm, sent_along}
use Rattle.fork_host.specs.Faults.{sent_at}
use Rattle.fork_host.specs.Sent.{sent_by, sent_names, brought_by}
use Rattle.fork_host.specs.Shown.{HostState, Trusted, world_of}
use Rattle.fork_host.specs.Step.{IsRun, IsStep}
use Rattle.fork_host.proofs.FaultLemmas.{bounded}

-- ---- the census
none_sent : (ask : Ask) → ((view : View) → sent_by view ask ≡ []) → (o : Option View) → brought_by o ask ≡ []
none_sent ask none None = refl
none_sent ask none (Some view) = none view

-- a request that brings nothing leaves the catalogue
stays : (old mid : HostState) (event : Event) (reply : Reply) → BringsNothing event → IsStep old event reply mid → mid.vault.places ≡ old.vault.places
stays old mid (Asks t ask) reply none step =
    none_came old.vault.places mid.vault.places (subst (λ objects. GrowsAmong (sent_names objects) old.vault.places mid.vault.places) (none_sent ask none (get (world_of old) t)) step.tends)
stays old mid (HostAsks request) reply none step = absurd none

pub counts : (old new : HostState) (front back : List Event) (told after : List Reply) (text : List ℕ) → IsRun old (front ++ HostAsks Census ∷ back) (told ++ Done text ∷ after) new → length told ≡ length front
    → AllByRecursion BringsNothing front → text ≡ number_line (length old.vault.places.names)
counts old new [] back [] after text run same none = run.1.tends.tended.0
counts old new [] back (reply ∷ told) after text run same none = absurd (omega (arith, same))
counts old new (event ∷ front) back [] after text run same none = absurd (omega (arith, same))
counts old new (event ∷ front) back (reply ∷ told) after text run same none =
    counts run.0 new front back told after text run.2 (omega (arith, same)) none.1 ∙ ap (λ (places : Places). number_line (length places.names)) (stays old run.0 event reply none.0 run.1)

-- so it is between two queries of what a tenant uses
pub counts_between : (old new : HostState) (first then : List ℕ) (reply last : Reply) (text : List ℕ) → IsRun old (Asks first AsksUse ∷ HostAsks Census ∷ Asks then AsksUse ∷ []) (reply ∷ Done text ∷ last ∷ []) new
    → text ≡ number_line (length old.vault.places.names)
counts_between old new first then reply last text run = counts old new (Asks first AsksUse ∷ []) (Asks then AsksUse ∷ []) (reply ∷ []) (last ∷ []) text run refl (λ view. refl, tt)

-- ---- a collection
-- along a run only what was sent becomes whole on the store
came_along : (old new : HostState) (events : List Event) (replies : List Reply) (along : IsRun old events replies new) → Trusted old → AllByRecursion IsCalm replies
    → (name : List ℕ) (object : Object) → Whole new.vault.files name object → Whole old.vault.files name object ⊎ Contains (sent_along old events replies new along) object
came_along old new [] [] along trusted calm name object stands = inl (subst (λ (s : HostState). Whole s.vault.files name object) along stands)
came_along old new [] (reply ∷ replies) along trusted calm name object stands = absurd along
came_along old new (event ∷ events) [] along trusted calm name object stands = absurd along
came_along old new (event ∷ events) (reply ∷ replies) along trusted calm name object stands =
    behind (came_along along.0 new events replies along.2 (along.1.honest ∙ trusted) calm.1 name object stands)
  where
    here : List Object
    here = sent_at old event

    there : List Object
    there = sent_along along.0 events replies new along.2

    first : Whole old.vault.files name object ⊎ Contains here object → Whole old.vault.files name object ⊎ Contains (here ++ there) object
    first (inl stood) = inl stood
    first (inr sent) = inr (Contains-append_left here there object sent)

    behind : Whole along.0.vault.files name object ⊎ Contains there object → Whole old.vault.files name object ⊎ Contains (here ++ there) object
    behind (inl stood) = first ((bounded old along.0 event reply along.1.faults).stored trusted calm.0.store calm.0.memory name object stood)
    behind (inr sent) = inr (Contains-append_right here there object sent)

pub leaves : (old mid new : HostState) (text : List ℕ) (events : List Event) (replies : List Reply) (along : IsRun mid events replies new) → Trusted old → IsStep old (HostAsks Collect) (Done text) mid → AllByRecursion IsCalm replies
    → (name : List ℕ) (object : Object) → Whole new.vault.files name object → (is_taken old.vault.tenants name ≡ true) ⊎ Contains (sent_along mid events replies new along) object
leaves old mid new text events replies along trusted collect calm name object stands =
    by (came_along mid new events replies along (collect.honest ∙ trusted) calm name object stands)
  where
    by : Whole mid.vault.files name object ⊎ Contains (sent_along mid events replies new along) object → (is_taken old.vault.tenants name ≡ true) ⊎ Contains (sent_along mid events replies new along) object
    by (inl stood) = inl (ap (λ (tenants : Tenants). is_taken tenants name) (sym (collect.tends.kept trusted)) ∙ sym (collect.tends.sharp trusted refl refl name) ∙ ap is_some stood.file)
    by (inr sent) = inr sent
