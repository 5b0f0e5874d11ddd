-- What the host reports about each of its tenants (own): numbers, and no name except the tenant's.
use Rattle.std.specs.Prelude.{ℕ, List, [], ◌∷◌, ◌++◌, Option, Some, None, codes, decimal, sum_by}
use Rattle.std.specs.List.{flat_map}
use Rattle.std.specs.FinMap.{FinMap, entries, len, values}
use Rattle.git_name.specs.Name.{name_cmp}
use Rattle.push_stream.specs.Upload.{UploadValue}
use Rattle.fork_reach.specs.Objects.{use_of}
use Rattle.fork_model.specs.View.{View, Repositories}

-- how many references these repositories have
abbrev pub references_in : Repositories → ℕ
references_in repositories = sum_by (λ repository. len repository.references) (values repositories)

-- how many bytes of an open upload were received, and 0 if none is open
abbrev pub uploaded : Option UploadValue → ℕ
uploaded None = 0
uploaded (Some upload) = upload.count

-- what the objects of a tenant use, its limit, how many repositories, references and objects it has, how many bytes of its open
-- upload were received, and how many offers it has made
abbrev pub figures_of : View → List ℕ
figures_of view =
    use_of view.objects ∷ view.limit ∷ len view.repositories ∷ references_in view.repositories ∷ len view.objects ∷ uploaded view.upload ∷ len view.made ∷ []

-- a tenant's line: its name, each figure after SP, LF
abbrev pub figure_line : List ℕ → View → List ℕ
figure_line name view = name ++ flat_map (λ figure. codes " " ++ decimal figure) (figures_of view) ++ codes "\n"

-- a line for each tenant, ascending by name
abbrev pub figure_lines : FinMap name_cmp View → List ℕ
figure_lines world = flat_map (λ entry. figure_line entry.0 entry.1) (entries world)
