-- Which host faults were reported in a run.
use Rattle.std.proofs.Common.{◌≡◌, ◌≢◌, ◌⊎◌, inl, inr, ℕ, ◌≤◌, arith, ◌++◌, ◌∷◌, [], List, sym, ap, ◌∙◌}
use Rattle.std.specs.Prelude.{Contains}
use Rattle.std.specs.List.{AllByRecursion}
use Rattle.std.proofs.lemmas.List.Elements.{Contains-append_left, Contains-append_right}
use Rattle.git_name.specs.Object.{Object, object_name}
use Rattle.git_name.specs.Count.{Rises, greatest_count}
use Rattle.loose_store.specs.Files.{Files}
use Rattle.loose_store.specs.Stored.{Whole}
use Rattle.fork_request.specs.declared.host_fault.HostFault.TheVariants.{Memory, Store, Damaged, Collision}
use Rattle.fork_request.specs.declared.reply.Reply.{Reply}
use Rattle.fork_request.specs.declared.reply.Reply.TheVariants.{Done, Unchanged, Refused, Failed}
use Rattle.fork_model.specs.Runs.{Asks, HostAsks}
use Rattle.fork_model.specs.World.{Event}
use Rattle.fork_host.specs.Bounds.{CountsReply, IsBounded, IsCollision}
use Rattle.fork_host.specs.Causes.{IsCalm, sent_along}
use Rattle.fork_host.specs.Faults.{FaultsWithin, sent_at}
use Rattle.fork_host.specs.Shown.{HostState, Trusted}
use Rattle.fork_host.specs.Step.{IsRun}

-- each step is bounded by what it brings
pub bounded : (old mid : HostState) (event : Event) (reply : Reply) → FaultsWithin old event reply mid → IsBounded (sent_at old event) old.vault mid.vault reply
bounded old mid (Asks tenant ask) reply within = within
bounded old mid (HostAsks request) reply within = within.1

-- two objects that met in the first step also met in the first and the later ones
met_here : (here there : List Object) (files : Files) → IsCollision here files → IsCollision (here ++ there) files
met_here here there files c = record { object = c.object; other = c.other; comes = Contains-append_left here there c.object c.comes; met = by c.met; named = c.named; differ = c.differ }
  where
    by : Contains here c.other ⊎ Whole files (object_name c.object) c.other → Contains (here ++ there) c.other ⊎ Whole files (object_name c.object) c.other
    by (inl sent) = inl (Contains-append_left here there c.other sent)
    by (inr stands) = inr stands

met_there : (here there : List Object) (files after : Files) → ((name : List ℕ) (object : Object) → Whole after name object → Whole files name object ⊎ Contains here object) → IsCollision there after → IsCollision (here ++ there) files
met_there here there files after stored c = record { object = c.object; other = c.other; comes = Contains-append_right here there c.object c.comes; met = by c.met; named = c.named; differ = c.differ }
  where
    stood : Whole files (object_name c.object) c.other ⊎ Contains here c.other → Contains (here ++ there) c.other ⊎ Whole files (object_name c.object) c.other
    stood (inl before) = inr before
    stood (inr sent) = inl (Contains-append_left here there c.other sent)

    by : Contains there c.other ⊎ Whole after (object_name c.object) c.other → Contains (here ++ there) c.other ⊎ Whole files (object_name c.object) c.other
    by (inl sent) = inl (Contains-append_right here there c.other sent)
    by (inr stands) = stood (stored (object_name c.object) c.other stands)

pub collides : (old new : HostState) (events : List Event) (replies front back : List Reply) (along : IsRun old events replies new) → Trusted old → replies ≡ front ++ Failed Collision ∷ back → AllByRecursion IsCalm front
    → IsCollision (sent_along old events replies new along) old.vault.files
collides old new [] [] front back along trusted parts calm = none_of_none front parts
  where
    none_of_none : {G : Type 0} (front : List Reply) → [] ≡ front ++ Failed Collision ∷ back → G
    none_of_none [] is = absurd (cc)
    none_of_none (first ∷ front) is = absurd (cc)
collides old new [] (reply ∷ replies) front back along trusted parts calm = absurd along
collides old new (event ∷ events) [] front back along trusted parts calm = absurd along
collides old new (event ∷ events) (reply ∷ replies) [] back along trusted parts calm =
    let is : reply ≡ Failed Collision = cc in
    met_here (sent_at old event) (sent_along along.0 events replies new along.2) old.vault.files ((bounded old along.0 event reply along.1.faults).collided trusted is)
collides old new (event ∷ events) (reply ∷ replies) (first ∷ front) back along trusted parts calm =
    let is : reply ≡ first = cc in
    let rest : replies ≡ front ++ Failed Collision ∷ back = cc in
    let step = bounded old along.0 event reply along.1.faults in
    met_there (sent_at old event) (sent_along along.0 events replies new along.2) old.vault.files along.0.vault.files (step.stored trusted (λ store. calm.0.store (sym is ∙ store)) (λ memory. calm.0.memory (sym is ∙ memory)))
    (collides along.0 new events replies front back along.2 (step.honest ∙ trusted) rest calm.1)

pub undamaged : (old new : HostState) (events : List Event) (replies : List Reply) → IsRun old events replies new → Trusted old → AllByRecursion (λ reply. reply ≢ Failed Damaged) replies
undamaged old new [] [] along trusted = tt
undamaged old new [] (reply ∷ replies) along trusted = absurd along
undamaged old new (event ∷ events) [] along trusted = absurd along
undamaged old new (event ∷ events) (reply ∷ replies) along trusted =
    let step = bounded old along.0 event reply along.1.faults in
    (step.undamaged trusted, undamaged along.0 new events replies along.2 (step.honest ∙ trusted))

rises_up : (before now : ℕ) → Rises before now → before ≤ now
rises_up before now (inl is) = omega (arith, is)
rises_up before now (inr (most, is)) = omega (arith, is)

-- the count of failures never falls
counts_up : (before now : ℕ) (reply : Reply) → CountsReply before now reply → before ≤ now
counts_up before now (Done text) is = omega (arith, is)
counts_up before now Unchanged is = omega (arith, is)
counts_up before now (Refused refusal) is = omega (arith, is)
counts_up before now (Failed Memory) is = omega (arith, is)
counts_up before now (Failed Store) rises = rises_up before now rises
counts_up before now (Failed Damaged) is = omega (arith, is)
counts_up before now (Failed Collision) is = omega (arith, is)

up_along : (old new : HostState) (events : List Event) (replies : List Reply) → IsRun old events replies new → old.vault.failures ≤ new.vault.failures
up_along old new [] [] along = (let same = ap (λ s. s.vault.failures) along in omega (arith, same))
up_along old new [] (reply ∷ replies) along = absurd along
up_along old new (event ∷ events) [] along = absurd along
up_along old new (event ∷ events) (reply ∷ replies) along =
    let first = counts_up old.vault.failures along.0.vault.failures reply (bounded old along.0 event reply along.1.faults).counted in
    let rest = up_along along.0 new events replies along.2 in
    omega (arith, first, rest)

not_counted : (before now : ℕ) (reply : Reply) → CountsReply before now reply → now ≡ before → before ≢ greatest_count → reply ≢ Failed Store
not_counted before now (Done text) is same least told = absurd (cc)
not_counted before now Unchanged is same least told = absurd (cc)
not_counted before now (Refused refusal) is same least told = absurd (cc)
not_counted before now (Failed Memory) is same least told = absurd (cc)
not_counted before now (Failed Store) (inl is) same least told = omega (arith, is, same)
not_counted before now (Failed Store) (inr (most, is)) same least told = least most
not_counted before now (Failed Damaged) is same least told = absurd (cc)
not_counted before now (Failed Collision) is same least told = absurd (cc)

pub fails : (old new : HostState) (events : List Event) (replies : List Reply) → IsRun old events replies new → new.vault.failures ≡ old.vault.failures → old.vault.failures ≢ greatest_count
    → AllByRecursion (λ reply. reply ≢ Failed Store) replies
fails old new [] [] along same least = tt
fails old new [] (reply ∷ replies) along same least = absurd along
fails old new (event ∷ events) [] along same least = absurd along
fails old new (event ∷ events) (reply ∷ replies) along same least =
    let counted = (bounded old along.0 event reply along.1.faults).counted in
    let first = counts_up old.vault.failures along.0.vault.failures reply counted in
    let rest = up_along along.0 new events replies along.2 in
    let still : along.0.vault.failures ≡ old.vault.failures = omega (arith, first, rest, same) in
    (not_counted old.vault.failures along.0.vault.failures reply counted still least, fails along.0 new events replies along.2 (same ∙ sym still) (λ most. least (sym still ∙ most)))
