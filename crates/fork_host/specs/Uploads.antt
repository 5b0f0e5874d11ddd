-- The uploads that are open (own): whose they are, and what their bytes stand for.
use Rattle.std.specs.Prelude.{ℕ, List, [], ◌∷◌, Option, Some, None, flat_map, is_some, map}
use Rattle.std.specs.FinMap.{entries, get}
use Rattle.std.specs.List.{filter}
use Rattle.std.specs.Option.{option_and_then}
use Rattle.push_stream.specs.Upload.{UploadValue}
use Rattle.fork_model.specs.World.{World}
use Rattle.fork_model.specs.Answer.{without_upload}
use Rattle.git_name.specs.Maps.{map_values}
use Rattle.fork_host.specs.Shown.{Account}

-- a tenant's upload, if one is open
abbrev pub opened : List ℕ → Option UploadValue → List (List ℕ × UploadValue)
opened tenant (Some upload) = (tenant, upload) ∷ []
opened tenant None = []

-- the tenants of these accounts that have an open upload, in the same order
abbrev pub uploading_in : List (List ℕ × Account) → List (List ℕ)
uploading_in accounts = map (λ entry. entry.0) (filter (λ entry. is_some entry.1.upload) accounts)

-- the uploads of a world, in the order of their tenants' names
abbrev pub uploads_of : World → List (List ℕ × UploadValue)
uploads_of world = flat_map (λ entry. opened entry.0 entry.1.upload) (entries world)

-- a tenant's upload, if the tenant exists and has one open
abbrev pub upload_at : World → List ℕ → Option UploadValue
upload_at world tenant = option_and_then (λ view. view.upload) (get world tenant)

-- a world whose views have no open upload
abbrev pub without_uploads : World → World
without_uploads world = map_values without_upload world
