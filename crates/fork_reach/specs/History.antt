-- The history of commits: for each commit its parents, and when it was committed (own).
use Rattle.std.specs.Prelude.{ℕ, ◌+◌, List, [], Option, None, Some}
use Rattle.std.specs.List.{zip}
use Rattle.std.specs.FinMap.{FinMap, from_entries, get}
use Rattle.git_name.specs.Name.{name_cmp}
use Rattle.git_name.specs.declared.kind.Kind.{Kind}
use Rattle.git_name.specs.declared.kind.Kind.TheVariants.{Blob, Tree, Commit, Tag}
use Rattle.git_name.specs.Object.{Object}
use Rattle.git_commit.specs.Commit.{CommitValue}
use Rattle.git_commit.specs.CommitIn.{commit_in}
use Rattle.fork_reach.specs.ParentNames.{parents_in}
use Rattle.fork_reach.specs.Source.{Objects}

-- the committer's seconds since 1970, or 0 if there is no commit
abbrev pub seconds_or_zero : Option CommitValue → ℕ
seconds_or_zero None = 0
seconds_or_zero (Some commit) = commit.committer.seconds

-- the seconds of the commit with these bytes, or 0 for any other object
abbrev pub seconds_in : Kind → List ℕ → ℕ
seconds_in Blob bytes = 0
seconds_in Tree bytes = 0
seconds_in Commit bytes = seconds_or_zero (commit_in bytes)
seconds_in Tag bytes = 0

-- the committer's seconds plus 1, or 0 if there is no commit
abbrev pub time_or_zero : Option CommitValue → ℕ
time_or_zero None = 0
time_or_zero (Some commit) = commit.committer.seconds + 1

-- the time of the commit with these bytes, or 0 for any other object
abbrev pub time_in : Kind → List ℕ → ℕ
time_in Blob bytes = 0
time_in Tree bytes = 0
time_in Commit bytes = time_or_zero (commit_in bytes)
time_in Tag bytes = 0

-- what a history keeps of an object
pub record Note : Type 0 where
  pub parents : List (List ℕ)
  pub seconds : ℕ

abbrev pub note_of : Object → Note
note_of object = record { parents = parents_in object.kind object.bytes; seconds = seconds_in object.kind object.bytes }

-- the note of an object, if there is one
abbrev pub note_of_found : Option Object → Note
note_of_found None = record { parents = []; seconds = 0 }
note_of_found (Some object) = note_of object

-- the note of the object of a name
abbrev pub note_at : Objects → List ℕ → Note
note_at objects name = note_of_found (get objects name)

-- notes by name
abbrev pub Notes : Type 0
Notes = FinMap name_cmp Note

-- the notes of these names, each at the same place as its name
abbrev pub notes_under : List (List ℕ) → List Note → Notes
notes_under names notes = from_entries (zip names notes)

-- the parents in a note, or none if there is no note
abbrev pub parents_of_noted : Option Note → List (List ℕ)
parents_of_noted None = []
parents_of_noted (Some note) = note.parents

abbrev pub noted_parents : Notes → List ℕ → List (List ℕ)
noted_parents notes name = parents_of_noted (get notes name)
