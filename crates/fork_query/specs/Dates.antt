-- Commits by date, as git-rev-list(1) lists them with `--date-order`, regardless of ancestry (own).
use Rattle.std.specs.Prelude.{ℕ, List, [], fold}
use Rattle.std.specs.BTreeSet.{insert_key}
use Rattle.std.specs.declared.cmp.Ordering.{Ordering}
use Rattle.std.specs.declared.cmp.Reverse.{Reverse}
use Rattle.std.specs.Ordering.{nat_cmp, ordering_then}
use Rattle.git_name.specs.Name.{name_cmp}
use Rattle.git_name.specs.Object.{Object}
use Rattle.fork_reach.specs.History.{Note, note_at, seconds_in}
use Rattle.fork_reach.specs.Source.{Objects}
use Rattle.fork_query.specs.declared.dated.Dated.{Dated}

-- a time that sorts in descending order
abbrev pub reverse : ℕ → Reverse ℕ
reverse seconds = record { 0 = seconds }

-- newer commits first; if the times are equal, ascending by name
abbrev pub by_date : Dated → Dated → Ordering
by_date a b = ordering_then (nat_cmp b.seconds.0 a.seconds.0) (name_cmp a.name b.name)

-- dates in this order, by insertion
abbrev pub newest_first : List Dated → List Dated
newest_first dates = fold (insert_key by_date) [] dates

-- the date of a named object
abbrev pub dated : List ℕ × Object → Dated
dated entry = record { seconds = reverse (seconds_in entry.1.kind entry.1.bytes); name = entry.0 }

-- the same from a note
abbrev pub noted_date : List ℕ × Note → Dated
noted_date entry = record { seconds = reverse entry.1.seconds; name = entry.0 }

-- the same for the object of a name
abbrev pub date_at : Objects → List ℕ → Dated
date_at objects name = noted_date (name, note_at objects name)
