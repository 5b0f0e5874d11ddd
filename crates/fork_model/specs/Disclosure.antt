-- What offers disclose to a tenant: what happens to it in a run, and which requests depend on offers and change them.
use Rattle.std.specs.Prelude.{ℕ, ◌++◌, Bool, true, false, cond, List, [], ◌∷◌, Option, None, Some}
use Rattle.std.specs.Ordering.{eq_by_cmp}
use Rattle.std.specs.FinMap.{get, insert, remove}
use Rattle.git_name.specs.Name.{name_cmp}
use Rattle.fork_request.specs.Asked.{Ask, AsksOffers, ForksOffer, MakesOffer, Withdraws}
use Rattle.fork_request.specs.declared.reply.Reply.{Reply}
use Rattle.fork_model.specs.Context.{Context, offered_to}
use Rattle.fork_model.specs.Offer.{Offer, Offers, Pair}
use Rattle.fork_model.specs.Runs
use Rattle.fork_model.specs.World.{Event, Explains, Meeting, World, deals_with}

-- what happens to a tenant: it asks, or from now on it is offered this under this key, an offer or nothing
pub data Happening : Type 0 where
  Asked : (ask : Ask) → Happening
  Changes : (key : Pair) (offer : Option Offer) → Happening

-- the repository whose offer is made or withdrawn
abbrev pub word_of : Ask → List ℕ
word_of (MakesOffer repository receiver) = repository
word_of (Withdraws repository receiver) = repository
word_of ask = []

-- how a request of this giver, which leads to this world, changes what a tenant is offered
abbrev pub change_in : List ℕ → List ℕ → Ask → Reply → World → List Happening
change_in tenant giver ask reply world = cond (deals_with tenant (Runs.Asks giver ask) reply) (Changes (giver, word_of ask) (get (offered_to world tenant) (giver, word_of ask)) ∷ []) []

-- what happens to a tenant in a run, in order
abbrev pub happenings : (tenant : List ℕ) (old : World) (steps : List Event) (replies : List Reply) (new : World) → Explains old steps replies new → List Happening
happenings tenant old (Runs.Asks who ask ∷ steps) (reply ∷ replies) new run =
    cond (eq_by_cmp name_cmp tenant who) (Asked ask ∷ []) [] ++ (change_in tenant who ask reply run.0 ++ happenings tenant run.0 steps replies new run.2)
happenings tenant old (Runs.HostAsks ask ∷ steps) (reply ∷ replies) new run = happenings tenant run.0 steps replies new run.2
happenings tenant old [] replies new run = []
happenings tenant old (step ∷ steps) [] new run = []

-- offers with this one under a key, or with none there
abbrev pub with_change : Offers → Pair → Option Offer → Offers
with_change offers key (Some offer) = insert offers key offer
with_change offers key None = remove offers key

-- a tenant's requests among what happens to it, in order, each with what it meets, if it meets this at first
abbrev pub met_along : Context → List Happening → List Meeting
met_along context [] = []
met_along context (Asked ask ∷ more) = (context, ask) ∷ met_along context more
met_along context (Changes key offer ∷ more) = met_along (record context { offered = with_change context.offered key offer }) more

-- whether a request depends on what its tenant is offered
abbrev pub looks_at_offers : Ask → Bool
looks_at_offers AsksOffers = true
looks_at_offers (ForksOffer giver repository copy) = true
looks_at_offers ask = false

-- whether a request may change the offers that its tenant has made
abbrev pub changes_offers : Ask → Bool
changes_offers (MakesOffer repository receiver) = true
changes_offers (Withdraws repository receiver) = true
changes_offers ask = false
