-- A run is determined by the world that it begins in, by its steps and by its replies.
use Rattle.std.proofs.Common.{◌≡◌, ℕ, List, [], ◌∷◌, ◌++◌, cond, refl}
use Rattle.std.specs.Ordering.{eq_by_cmp}
use Rattle.git_name.specs.Name.{name_cmp}
use Rattle.git_name.proofs.Names.{name_total}
use Rattle.fork_request.specs.Told.{is_host_fault}
use Rattle.fork_request.specs.declared.refusal.Refusal.TheVariants.{UnknownTenant}
use Rattle.fork_request.specs.declared.reply.Reply.{Reply}
use Rattle.fork_request.specs.declared.reply.Reply.TheVariants.{Refused}
use Rattle.fork_model.specs.Answer.{answer}
use Rattle.fork_model.specs.Context.{met_by}
use Rattle.fork_model.specs.Disclosure.{Asked, change_in, happenings}
use Rattle.fork_model.specs.Runs.{Asks, HostAsks}
use Rattle.fork_model.specs.World.{Event, Explains, HostSays, Steps, World, met}
use Rattle.fork_model.proofs.IsolationLemmas.{one_last, one_met, one_next}
use Rattle.fork_model.proofs.StepLemmas.{answer_tells}

-- the world after a step
next_settled : (old old2 mid mid2 : World) (step : Event) (reply : Reply) → old ≡ old2 → Steps old step reply mid → Steps old2 step reply mid2 → mid ≡ mid2
next_settled old old2 mid mid2 step reply same one two = one_next name_cmp name_total met_by answer (Refused UnknownTenant) is_host_fault HostSays answer_tells refl old old2 mid mid2 step reply same one two

-- the last world
pub world_settled : (old new new2 : World) (steps : List Event) (replies : List Reply) → Explains old steps replies new → Explains old steps replies new2 → new ≡ new2
world_settled old new new2 steps replies run run2 = one_last name_cmp name_total met_by answer (Refused UnknownTenant) is_host_fault HostSays answer_tells refl old old new new2 steps replies refl run run2

-- what a tenant meets
pub met_settled : (t : List ℕ) (old new new2 : World) (steps : List Event) (replies : List Reply) (run : Explains old steps replies new) (run2 : Explains old steps replies new2) → met t old steps replies new run ≡ met t old steps replies new2 run2
met_settled t old new new2 steps replies run run2 = one_met name_cmp name_total met_by answer (Refused UnknownTenant) is_host_fault HostSays answer_tells refl t old old new new2 steps replies refl run run2

-- what happens to it
one_happened : (t : List ℕ) (old old2 new new2 : World) (steps : List Event) (replies : List Reply) → old ≡ old2 → (run : Explains old steps replies new) (run2 : Explains old2 steps replies new2) → happenings t old steps replies new run ≡ happenings t old2 steps replies new2 run2
one_happened t old old2 new new2 [] [] same run run2 = refl
one_happened t old old2 new new2 [] (reply ∷ replies) same run run2 = refl
one_happened t old old2 new new2 (Asks u ask ∷ steps) [] same run run2 = refl
one_happened t old old2 new new2 (HostAsks ask ∷ steps) [] same run run2 = refl
one_happened t old old2 new new2 (HostAsks ask ∷ steps) (reply ∷ replies) same run run2 =
    one_happened t run.0 run2.0 new new2 steps replies (next_settled old old2 run.0 run2.0 (HostAsks ask) reply same run.1 run2.1) run.2 run2.2
one_happened t old old2 new new2 (Asks u ask ∷ steps) (reply ∷ replies) same run run2 =
    let mid : run.0 ≡ run2.0 = next_settled old old2 run.0 run2.0 (Asks u ask) reply same run.1 run2.1 in
    let rest = one_happened t run.0 run2.0 new new2 steps replies mid run.2 run2.2 in
    λ i. cond (eq_by_cmp name_cmp t u) (Asked ask ∷ []) [] ++ (change_in t u ask reply (mid i) ++ rest i)

pub happenings_settled : (t : List ℕ) (old new new2 : World) (steps : List Event) (replies : List Reply) (run : Explains old steps replies new) (run2 : Explains old steps replies new2) → happenings t old steps replies new run ≡ happenings t old steps replies new2 run2
happenings_settled t old new new2 steps replies run run2 = one_happened t old old new new2 steps replies refl run run2
