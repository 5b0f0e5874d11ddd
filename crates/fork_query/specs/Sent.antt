-- The records of named objects, ascending by name.
use Rattle.std.specs.Prelude.{◌≡◌, ℕ, Bool, List}
use Rattle.std.specs.List.{flat_map}
use Rattle.std.specs.List.Sorted.{IsStrictlySortedBy}
use Rattle.git_name.specs.Name.{name_cmp}
use Rattle.fork_reach.specs.Reach.{is_among}
use Rattle.fork_reach.specs.Source.{Objects}
use Rattle.fork_query.specs.Fetch.{record_named}

-- the text is the records of the objects whose names pass the test, in ascending order of the names
abbrev pub IsSent : Objects → (List ℕ → Bool) → List ℕ → Type 0
IsSent objects passes text = (names : List (List ℕ)) × IsStrictlySortedBy name_cmp names × ((name : List ℕ) → is_among names name ≡ passes name) × (text ≡ flat_map (record_named objects) names)
