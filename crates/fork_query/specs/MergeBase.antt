-- `merge-base A B`: the best common ancestors of two commits (git-merge-base(1), `--all`; the order by name is own).
use Rattle.std.specs.Prelude.{◌≡◌, ℕ, ◌&&◌, not, Bool, true, List, Result, Ok, Err}
use Rattle.std.specs.List.{list_any}
use Rattle.std.specs.List.Sorted.{IsStrictlySortedBy}
use Rattle.std.specs.Str.{bytes_eq}
use Rattle.std.specs.FinMap.{contains_key, keys, retain_keys}
use Rattle.git_name.specs.Name.{name_cmp}
use Rattle.git_reftx.specs.Repository.{Repository}
use Rattle.fork_reach.specs.Reach.{is_among}
use Rattle.fork_reach.specs.Source.{Objects}
use Rattle.fork_reach.specs.Bases.{is_ancestor}
use Rattle.fork_request.specs.declared.refusal.Refusal.{Refusal}
use Rattle.fork_query.specs.Items.{commit_of_item}
use Rattle.fork_query.specs.Objects.{name_lines}

abbrev pub is_common : Objects → List ℕ → List ℕ → List ℕ → Bool
is_common objects a b name = is_ancestor objects a name && is_ancestor objects b name

-- it is an ancestor of another common ancestor
abbrev pub is_outdone : Objects → List ℕ → List ℕ → List ℕ → Bool
is_outdone objects a b name = list_any (λ other. is_common objects a b other && not (bytes_eq other name) && is_ancestor objects other name) (keys objects)

-- it is a common ancestor, and not an ancestor of another one
abbrev pub is_base : Objects → List ℕ → List ℕ → List ℕ → Bool
is_base objects a b name = is_common objects a b name && not (is_outdone objects a b name)

-- the best common ancestors, ascending by name
unfoldable pub merge_bases : Objects → List ℕ → List ℕ → List (List ℕ)
merge_bases objects a b = keys (retain_keys objects (is_base objects a b))

abbrev pub bases_of : Objects → Result (List ℕ) Refusal → Result (List ℕ) Refusal → Result (List ℕ) Refusal
bases_of objects (Ok a) (Ok b) = Ok (name_lines (merge_bases objects a b))
bases_of objects (Ok a) (Err refusal) = Err refusal
bases_of objects (Err refusal) b = Err refusal

unfoldable pub bases_told : Objects → Repository → List ℕ → List ℕ → Result (List ℕ) Refusal
bases_told objects repository a b = bases_of objects (commit_of_item objects repository a) (commit_of_item objects repository b)

-- the text has a line for each of some names of these objects, in ascending order
pub record ListsSeen (objects : Objects) (text : List ℕ) : Type 0 where
  pub names : List (List ℕ)
  pub lines : text ≡ name_lines names
  pub ordered : IsStrictlySortedBy name_cmp names
  pub seen : (name : List ℕ) → is_among names name ≡ true → contains_key objects name ≡ true
