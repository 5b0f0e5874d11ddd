-- What an item of a request names (gitrevisions(7); that it may only be an object's or a reference's name is own).
use Rattle.std.specs.Prelude.{ℕ, List, Option, None, Some, Result, Ok, Err, codes, if◌then◌else◌}
use Rattle.std.specs.Option.{option_or}
use Rattle.std.specs.FinMap.{contains_key, get}
use Rattle.std.specs.Str.{bytes_eq}
use Rattle.git_name.specs.Name.{name_in}
use Rattle.git_reftx.specs.Repository.{Repository}
use Rattle.git_reftx.specs.Transaction.{is_commit}
use Rattle.fork_reach.specs.Source.{Objects, kind_in}
use Rattle.fork_request.specs.declared.refusal.Refusal.{Refusal}
use Rattle.fork_request.specs.declared.refusal.Refusal.TheVariants.{Missing, NoRef, NotACommit}
use Rattle.fork_query.specs.declared.want.Want.{Want}
use Rattle.fork_query.specs.declared.want.Want.TheVariants as want
use Rattle.fork_query.specs.Peel.{peeled}

-- `HEAD` means the branch that the repository's HEAD names, and any other item means itself
abbrev pub reference_of : Repository → List ℕ → List ℕ
reference_of repository item = if bytes_eq item (codes "HEAD") then repository.head else item

-- 64 digits are a name; any other item is a reference, and means its target
abbrev pub named_by : Repository → List ℕ → Option (List ℕ)
named_by repository item = option_or (name_in item) (get repository.references (reference_of repository item))

-- the name, if its object exists, or a refusal
abbrev pub found_name : Objects → List ℕ → Option (List ℕ) → Result (List ℕ) Refusal
found_name objects item None = Err (NoRef item)
found_name objects item (Some name) = if contains_key objects name then Ok name else Err (Missing name)

-- the name of an item's object
abbrev pub object_of_item : Objects → Repository → List ℕ → Result (List ℕ) Refusal
object_of_item objects repository item = found_name objects item (named_by repository item)

-- the commit that a name peels to, or a refusal
abbrev pub found_commit : Objects → List ℕ → Option (List ℕ) → Result (List ℕ) Refusal
found_commit objects name None = Err (NotACommit name)
found_commit objects name (Some end) = if is_commit (kind_in objects end) then Ok end else Err (NotACommit name)

abbrev pub commit_behind : Objects → Result (List ℕ) Refusal → Result (List ℕ) Refusal
commit_behind objects (Ok name) = found_commit objects name (peeled objects name)
commit_behind objects (Err refusal) = Err refusal

-- the name of an item's commit; tags are peeled
abbrev pub commit_of_item : Objects → Repository → List ℕ → Result (List ℕ) Refusal
commit_of_item objects repository item = commit_behind objects (object_of_item objects repository item)

-- the name of an item's object or commit, as wanted
abbrev pub named_item : Want → Objects → Repository → List ℕ → Result (List ℕ) Refusal
named_item want.Object objects repository item = object_of_item objects repository item
named_item want.Commit objects repository item = commit_of_item objects repository item
