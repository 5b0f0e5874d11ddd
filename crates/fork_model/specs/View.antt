-- What a tenant sees of a host: its repositories, each with its HEAD and its references, the offers that it has made, its objects, its
-- open upload, its limit.
use Rattle.std.specs.Prelude.{ℕ, Option}
use Rattle.std.specs.FinMap.{FinMap}
use Rattle.git_name.specs.Name.{name_cmp}
use Rattle.git_reftx.specs.Repository.{Repository}
use Rattle.push_stream.specs.Upload.{UploadValue}
use Rattle.fork_reach.specs.Source.{Objects}
use Rattle.fork_model.specs.Offer.{Offers}

-- each repository under its name
abbrev pub Repositories : Type 0
Repositories = FinMap name_cmp Repository

-- a private view: it holds whole objects, and shares nothing; an open upload is the value of its bytes
pub record View : Type 0 where
  pub repositories : Repositories
  pub made : Offers
  pub objects : Objects
  pub upload : Option UploadValue
  pub limit : ℕ
