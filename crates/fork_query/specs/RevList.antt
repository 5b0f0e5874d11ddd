-- `rev-list ITEM..`: the ancestors of the wanted commits that are not ancestors of the excluded ones, newest first
-- (git-rev-list(1); the order is own).
use Rattle.std.specs.Prelude.{ℕ, List, map, Result, Ok, Err}
use Rattle.std.specs.FinMap.{entries}
use Rattle.git_reftx.specs.Repository.{Repository}
use Rattle.fork_reach.specs.Reach.{parent_names}
use Rattle.fork_reach.specs.Source.{Objects}
use Rattle.fork_request.specs.declared.refusal.Refusal.{Refusal}
use Rattle.fork_query.specs.Dates.{dated, newest_first}
use Rattle.fork_query.specs.Items.{commit_of_item}
use Rattle.fork_query.specs.Objects.{name_lines}
use Rattle.fork_query.specs.Reached.{beyond}
use Rattle.fork_query.specs.Sides.{Selection, selected}

-- the names of these commits; a commit is its own ancestor
unfoldable pub revision_list : Objects → List (List ℕ) → List (List ℕ) → List (List ℕ)
revision_list objects wanted excluded = map (λ date. date.name) (newest_first (map dated (entries (beyond (parent_names objects) objects wanted excluded))))

abbrev pub revisions_of : Objects → Result Selection Refusal → Result (List ℕ) Refusal
revisions_of objects (Ok selection) = Ok (name_lines (revision_list objects selection.wanted selection.excluded))
revisions_of objects (Err refusal) = Err refusal

unfoldable pub revisions_told : Objects → Repository → List (List ℕ) → Result (List ℕ) Refusal
revisions_told objects repository items = revisions_of objects (selected (commit_of_item objects repository) items)
