-- The world of a host: a view for each tenant, and how runs lead from one world to the next.
use Rattle.std.specs.Prelude.{◌≡◌, ◌≤◌, ◌++◌, ◌&&◌, ℕ, Bool, false, List, codes, decimal, map}
use Rattle.std.specs.FinMap.{FinMap, get}
use Rattle.std.specs.List.{AllByRecursion, zip}
use Rattle.git_name.specs.Name.{name_cmp}
use Rattle.git_name.specs.Same.{same_name}
use Rattle.fork_request.specs.Asked.{Ask, MakesOffer, Withdraws}
use Rattle.fork_request.specs.Harms.{Harmed, harm_lines}
use Rattle.fork_request.specs.Told.{is_done, is_host_fault}
use Rattle.fork_request.specs.declared.host_request.HostRequest.{HostRequest}
use Rattle.fork_request.specs.declared.host_request.HostRequest.TheVariants.{Sweep, Collect, Census, Fsck, Tenants, Bad}
use Rattle.fork_request.specs.declared.refusal.Refusal.TheVariants.{BadRequest, UnknownTenant}
use Rattle.fork_request.specs.declared.reply.Reply.{Reply}
use Rattle.fork_request.specs.declared.reply.Reply.TheVariants.{Done, Refused}
use Rattle.fork_model.specs.Answer.{answer}
use Rattle.fork_model.specs.Context.{Context, met_by, offered_to}
use Rattle.fork_model.specs.Figures.{figure_lines}
use Rattle.fork_model.specs.Runs
use Rattle.fork_model.specs.View.{View}

-- a view for each tenant
abbrev pub World : Type 0
World = FinMap name_cmp View

-- a tenant's request, or one of the host itself
abbrev pub Event : Type 0
Event = Runs.Event (List ℕ) Ask HostRequest

-- the data of a number: its digits and LF
abbrev pub number_line : ℕ → List ℕ
number_line n = decimal n ++ codes "\n"

-- what the host may report of itself: how many names left its catalogue or are in it, for a sweep at most as many as it looked at;
-- and what is wrong with the files of objects. The store, not the world, determines this number and these harms. The figures
-- of tenants are those of the world. A bad request is refused
abbrev pub HostSays : World → HostRequest → Reply → Type 0
HostSays world (Sweep most) reply = (n : ℕ) × (n ≤ most) × (reply ≡ Done (number_line n))
HostSays world Collect reply = (n : ℕ) × (reply ≡ Done (number_line n))
HostSays world Census reply = (n : ℕ) × (reply ≡ Done (number_line n))
HostSays world Fsck reply = (harms : Harmed) × (reply ≡ Done (harm_lines harms))
HostSays world Tenants reply = reply ≡ Done (figure_lines world)
HostSays world Bad reply = reply ≡ Refused BadRequest

-- one step can lead from the old world to the new one with this reply
abbrev pub Steps : World → Event → Reply → World → Type 0
Steps = Runs.Steps name_cmp met_by answer (Refused UnknownTenant) is_host_fault HostSays

-- these replies, one to each step, lead from the old world to the new one
abbrev pub Explains : World → List Event → List Reply → World → Type 0
Explains = Runs.Explains name_cmp met_by answer (Refused UnknownTenant) is_host_fault HostSays

-- what a tenant asks, in order
abbrev pub own : List ℕ → List Event → List Ask
own = Runs.own name_cmp

-- the replies that a tenant gets, in order
abbrev pub told : List ℕ → List Event → List Reply → List Reply
told = Runs.told name_cmp

-- a tenant's request, and the reply to it
abbrev pub Exchange : Type 0
Exchange = Ask × Reply

-- what a tenant asks, each with the reply, in order
abbrev pub exchanges : List ℕ → List Event → List Reply → List Exchange
exchanges tenant steps replies = zip (own tenant steps) (told tenant steps replies)

-- a tenant's request, and what it meets
abbrev pub Meeting : Type 0
Meeting = Context × Ask

-- what a tenant asks in a run, in order, each with what it meets: the offers to it at that time
abbrev pub met : (tenant : List ℕ) (old : World) (steps : List Event) (replies : List Reply) (new : World) → Explains old steps replies new → List Meeting
met = Runs.met name_cmp met_by answer (Refused UnknownTenant) is_host_fault HostSays

-- requests, each of which meets this
abbrev pub meeting : Context → List Ask → List Meeting
meeting = Runs.meeting

-- the replies and the last view of a private host that has this view and no other tenant, and meets this with each request
abbrev pub alone : View → List Meeting → List Reply × View
alone = Runs.alone answer

-- none of these replies is a host fault
abbrev pub AreFine : List Reply → Type 0
AreFine = Runs.AreFine is_host_fault

-- none of the replies to the tenant is a host fault
abbrev pub IsUnfaulted : List ℕ → List Event → List Reply → Type 0
IsUnfaulted tenant steps replies = Runs.AreFine is_host_fault (told tenant steps replies)

-- the tenant has the same view, and is offered the same, in both worlds
pub record Agree (tenant : List ℕ) (world other : World) : Type 0 where
  pub views : get world tenant ≡ get other tenant
  pub offers : offered_to world tenant ≡ offered_to other tenant

-- a tenant's own part in a step in which it meets this
abbrev pub Answers : Context → View → Ask → Reply → View → Type 0
Answers = Runs.Answers answer is_host_fault

-- what a private host is asked, each with what it answers, in order
abbrev pub exchanges_alone : View → List Meeting → List Exchange
exchanges_alone view asked = zip (map (λ met. met.1) asked) (alone view asked).0

-- an offer to the tenant is made, or withdrawn, in this step
abbrev pub deals_with : List ℕ → Event → Reply → Bool
deals_with tenant (Runs.Asks giver (MakesOffer repository receiver)) reply = is_done reply && same_name receiver tenant
deals_with tenant (Runs.Asks giver (Withdraws repository receiver)) reply = is_done reply && same_name receiver tenant
deals_with tenant event reply = false

-- no offer to the tenant is made or withdrawn in these steps
abbrev pub LeavesOffers : List ℕ → List Event → List Reply → Type 0
LeavesOffers tenant steps replies = AllByRecursion (λ step. deals_with tenant step.0 step.1 ≡ false) (zip steps replies)
