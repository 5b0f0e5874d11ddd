-- What no store can change of a view: its repositories and those of its offers, the names, kinds and lengths of its objects, its
-- limit.
use Rattle.std.specs.Prelude.{◌≡◌, ℕ, List, option_map}
use Rattle.std.specs.FinMap.{get}
use Rattle.fork_reach.specs.Objects.{Measures, measures_of}
use Rattle.fork_model.specs.View.{View, Repositories}
use Rattle.fork_model.specs.World.{World}
use Rattle.fork_host.specs.Made.{Made, made_of}

pub record Shape : Type 0 where
  pub repositories : Repositories
  pub made : Made
  pub objects : Measures
  pub limit : ℕ

abbrev pub view_shape : View → Shape
view_shape view = record { repositories = view.repositories; made = made_of view.made; objects = measures_of view.objects; limit = view.limit }

-- the tenant's shape is the same in both worlds
abbrev pub SameShape : List ℕ → World → World → Type 0
SameShape tenant old new = option_map view_shape (get new tenant) ≡ option_map view_shape (get old tenant)

-- each of the tenant's offers is of the same repository in both worlds
abbrev pub repositories_offered : View → Made
repositories_offered view = made_of view.made

abbrev pub SameOffers : List ℕ → World → World → Type 0
SameOffers tenant old new = option_map repositories_offered (get new tenant) ≡ option_map repositories_offered (get old tenant)
