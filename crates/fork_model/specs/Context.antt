-- What a tenant meets of the world besides its own view: its name, and the offers that others have made to it.
use Rattle.std.specs.Prelude.{ℕ, List, map}
use Rattle.std.specs.List.{flat_map}
use Rattle.std.specs.FinMap.{FinMap, empty, entries, from_entries, retain_keys}
use Rattle.git_name.specs.Name.{name_cmp}
use Rattle.git_name.specs.Same.{same_name}
use Rattle.fork_model.specs.Offer.{Offer, Offers, Pair}
use Rattle.fork_model.specs.View.{View}

-- the offers by their givers
pub record Context : Type 0 where
  pub own : List ℕ
  pub offered : Offers

-- the offers to this receiver that a tenant of this view has made
abbrev pub made_to : List ℕ → View → Offers
made_to receiver view = retain_keys view.made (λ key. same_name key.0 receiver)

-- and each of them under its giver
abbrev pub given_by : List ℕ → List ℕ × View → List (Pair × Offer)
given_by receiver (giver, view) = map (λ offer. ((giver, offer.0.1), offer.1)) (entries (made_to receiver view))

-- what a tenant is offered in a world of these views
unfoldable pub offered_to : FinMap name_cmp View → List ℕ → Offers
offered_to world receiver = from_entries (flat_map (given_by receiver) (entries world))

-- what a tenant meets in such a world
abbrev pub met_by : FinMap name_cmp View → List ℕ → Context
met_by world tenant = record { own = tenant; offered = offered_to world tenant }

-- what it meets if nobody offers it anything
abbrev pub nothing_offered : List ℕ → Context
nothing_offered tenant = record { own = tenant; offered = empty }
