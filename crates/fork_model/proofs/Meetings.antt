-- Runs that leave what a tenant is offered.
use Rattle.std.proofs.Common.{◌≡◌, List, [], ◌∷◌, ℕ, Some, refl, ap, sym, ◌∙◌}
use Rattle.std.specs.FinMap.{get}
use Rattle.git_name.specs.Name.{name_cmp}
use Rattle.git_name.proofs.Names.{name_exact, name_total}
use Rattle.fork_request.specs.Told.{is_host_fault}
use Rattle.fork_request.specs.declared.refusal.Refusal.TheVariants.{UnknownTenant}
use Rattle.fork_request.specs.declared.reply.Reply.{Reply}
use Rattle.fork_request.specs.declared.reply.Reply.TheVariants.{Refused}
use Rattle.fork_model.specs.Answer.{answer}
use Rattle.fork_model.specs.Context.{Context, met_by}
use Rattle.fork_model.specs.View.{View}
use Rattle.fork_model.specs.World.{Agree, Event, Explains, HostSays, IsUnfaulted, LeavesOffers, World, alone, meeting, met, own, told}
use Rattle.fork_model.proofs.IsolationLemmas.{StaysFor, run_met, runs_met_agree, steady}
use Rattle.fork_model.proofs.OfferedLemmas.{met_still}

-- each request meets the same offers, if none is made or withdrawn
stays_for : (t : List ℕ) (old new : World) (steps : List Event) (replies : List Reply) (run : Explains old steps replies new) → LeavesOffers t steps replies → StaysFor name_cmp name_total met_by answer (Refused UnknownTenant) is_host_fault HostSays t old steps replies new run
stays_for t old new [] [] run leaves = tt
stays_for t old new [] (reply ∷ replies) run leaves = tt
stays_for t old new (step ∷ steps) [] run leaves = tt
stays_for t old new (step ∷ steps) (reply ∷ replies) run leaves = (met_still t old run.0 step reply run.1 leaves.0, stays_for t run.0 new steps replies run.2 leaves.1)

pub steady_met : (t : List ℕ) (old new : World) (steps : List Event) (replies : List Reply) (run : Explains old steps replies new) → LeavesOffers t steps replies → met t old steps replies new run ≡ meeting (met_by old t) (own t steps)
steady_met t old new steps replies run leaves =
    steady name_cmp name_total met_by answer (Refused UnknownTenant) is_host_fault HostSays name_exact t old new steps replies (met_by old t) run refl (stays_for t old new steps replies run leaves)

-- and in the end
pub last_met : (t : List ℕ) (old new : World) (steps : List Event) (replies : List Reply) → Explains old steps replies new → LeavesOffers t steps replies → met_by new t ≡ met_by old t
last_met t old new [] [] run leaves = ap (λ world. met_by world t) run
last_met t old new [] (reply ∷ replies) run leaves = absurd run
last_met t old new (step ∷ steps) [] run leaves = absurd run
last_met t old new (step ∷ steps) (reply ∷ replies) run leaves = last_met t run.0 new steps replies run.2 leaves.1 ∙ met_still t old run.0 step reply run.1 leaves.0

-- a tenant gets the replies of a private host that meets the same
pub run_private : (t : List ℕ) (old new : World) (steps : List Event) (replies : List Reply) (view : View) (run : Explains old steps replies new) → IsUnfaulted t steps replies → get old t ≡ Some view
    → (told t steps replies ≡ (alone view (met t old steps replies new run)).0) × (get new t ≡ Some (alone view (met t old steps replies new run)).1)
run_private t old new steps replies view run fine here = run_met name_cmp name_total met_by answer (Refused UnknownTenant) is_host_fault HostSays t old new steps replies view run fine here

-- and if no offer to it is made or withdrawn, of one that meets the offers at the start
pub run_alone : (t : List ℕ) (old new : World) (steps : List Event) (replies : List Reply) (view : View) → Explains old steps replies new → IsUnfaulted t steps replies → LeavesOffers t steps replies → get old t ≡ Some view
    → (told t steps replies ≡ (alone view (meeting (met_by old t) (own t steps))).0) × (get new t ≡ Some (alone view (meeting (met_by old t) (own t steps))).1)
run_alone t old new steps replies view run fine leaves here =
    let all = run_private t old new steps replies view run fine here in
    let same = steady_met t old new steps replies run leaves in
    (all.0 ∙ ap (λ asked. (alone view asked).0) same, all.1 ∙ ap (λ asked. Some (alone view asked).1) same)

-- two runs in which a tenant meets and asks the same agree
pub runs_agree_met : (t : List ℕ) (old new : World) (steps : List Event) (replies : List Reply) (old2 new2 : World) (steps2 : List Event) (replies2 : List Reply) (run : Explains old steps replies new) → IsUnfaulted t steps replies → (run2 : Explains old2 steps2 replies2 new2) → IsUnfaulted t steps2 replies2
    → get old t ≡ get old2 t → met t old steps replies new run ≡ met t old2 steps2 replies2 new2 run2 → (told t steps replies ≡ told t steps2 replies2) × (get new t ≡ get new2 t)
runs_agree_met t old new steps replies old2 new2 steps2 replies2 run fine run2 fine2 agree same =
    runs_met_agree name_cmp name_total met_by answer (Refused UnknownTenant) is_host_fault HostSays t old new steps replies old2 new2 steps2 replies2 run fine run2 fine2 agree same

-- and so do two runs from worlds that agree, in which no offer to it is made or withdrawn
pub runs_agree : (t : List ℕ) (old new : World) (steps : List Event) (replies : List Reply) (old2 new2 : World) (steps2 : List Event) (replies2 : List Reply) → Explains old steps replies new → IsUnfaulted t steps replies → LeavesOffers t steps replies
    → Explains old2 steps2 replies2 new2 → IsUnfaulted t steps2 replies2 → LeavesOffers t steps2 replies2 → Agree t old old2 → own t steps ≡ own t steps2 → (told t steps replies ≡ told t steps2 replies2) × Agree t new new2
runs_agree t old new steps replies old2 new2 steps2 replies2 run fine leaves run2 fine2 leaves2 agree same =
    let context : met_by old t ≡ met_by old2 t = ap (λ offers. record { own = t; offered = offers }) agree.offers in
    let asked = steady_met t old new steps replies run leaves ∙ ((λ i. meeting (context i) (same i)) ∙ sym (steady_met t old2 new2 steps2 replies2 run2 leaves2)) in
    let all = runs_agree_met t old new steps replies old2 new2 steps2 replies2 run fine run2 fine2 agree.views asked in
    (all.0, record { views = all.1; offers = ap (λ (c : Context). c.offered) (last_met t old new steps replies run leaves ∙ (context ∙ sym (last_met t old2 new2 steps2 replies2 run2 leaves2))) })
