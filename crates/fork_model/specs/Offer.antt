-- Offers between tenants (own): a repository as it was when it was offered, and the objects that its references reach.
use Rattle.std.specs.Prelude.{ℕ, List}
use Rattle.std.specs.declared.cmp.Ordering.{Ordering}
use Rattle.std.specs.Ordering.{ordering_then}
use Rattle.std.specs.Coded.{Coded, coded×}
use Rattle.std.specs.FinMap.{FinMap, retain_keys, values}
use Rattle.git_name.specs.Name.{name_cmp}
use Rattle.git_name.specs.Text.{bytes_code}
use Rattle.git_reftx.specs.Repository.{Repository}
use Rattle.git_reftx.specs.Transaction.{References}
use Rattle.fork_reach.specs.Reach.{is_reached, linked_names}
use Rattle.fork_reach.specs.Source.{Objects}

-- a tenant's name and a repository's, ordered by the first, then by the second
abbrev pub Pair : Type 0
Pair = List ℕ × List ℕ

abbrev pub pair_cmp : Pair → Pair → Ordering
pair_cmp p q = ordering_then (name_cmp p.0 q.0) (name_cmp p.1 q.1)

-- the repository as it was when the offer was made, and the objects that its references reached then
pub record Offer : Type 0 where
  pub repository : Repository
  pub objects : Objects

-- offers of one tenant, each under its receiver and the name of the repository; or offers to one tenant, each under its giver and that name
abbrev pub Offers : Type 0
Offers = FinMap pair_cmp Offer

-- the objects that references reach
abbrev pub reached_by : Objects → References → Objects
reached_by objects references = retain_keys objects (is_reached (linked_names objects) objects (values references))

-- a repository as it is offered by a tenant that sees these objects
abbrev pub offered : Objects → Repository → Offer
offered objects repository = record { repository = repository; objects = reached_by objects repository.references }

-- pairs of names have a code, so that they can be keys in a model's value
abbrev pub pair_code : Coded Pair
pair_code = coded× bytes_code bytes_code
