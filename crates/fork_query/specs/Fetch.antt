-- `fetch ITEM..`: the records of the objects reachable from the wanted ones but not from the excluded ones
-- (git-pack-objects(1), `--revs`; that they are records, not a pack, and ascend by name, is own).
use Rattle.std.specs.Prelude.{ℕ, List, [], Option, None, Some, Result, Ok, Err}
use Rattle.std.specs.List.{flat_map}
use Rattle.std.specs.FinMap.{get, keys}
use Rattle.git_name.specs.Object.{Object}
use Rattle.git_reftx.specs.Repository.{Repository}
use Rattle.push_stream.specs.Record.{record_of}
use Rattle.fork_reach.specs.Reach.{linked_names}
use Rattle.fork_reach.specs.Source.{Objects}
use Rattle.fork_request.specs.declared.refusal.Refusal.{Refusal}
use Rattle.fork_query.specs.Items.{object_of_item}
use Rattle.fork_query.specs.Reached.{beyond}
use Rattle.fork_query.specs.Sides.{Selection, selected}

-- the record of an object, if there is one
abbrev pub record_or_none : Option Object → List ℕ
record_or_none None = []
record_or_none (Some object) = record_of object

abbrev pub record_named : Objects → List ℕ → List ℕ
record_named objects name = record_or_none (get objects name)

-- the records of the objects that are reachable from the wanted names but not from the excluded ones
unfoldable pub fetched : Objects → List (List ℕ) → List (List ℕ) → List ℕ
fetched objects wanted excluded = flat_map (record_named objects) (keys (beyond (linked_names objects) objects wanted excluded))

abbrev pub fetched_of : Objects → Result Selection Refusal → Result (List ℕ) Refusal
fetched_of objects (Ok selection) = Ok (fetched objects selection.wanted selection.excluded)
fetched_of objects (Err refusal) = Err refusal

unfoldable pub fetch_told : Objects → Repository → List (List ℕ) → Result (List ℕ) Refusal
fetch_told objects repository items = fetched_of objects (selected (object_of_item objects repository) items)
