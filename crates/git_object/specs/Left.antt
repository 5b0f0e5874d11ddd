-- What each part of the iterator of links has left.
use Rattle.std.specs.Prelude.{List, [], ◌∷◌, map, Option, None, Some}
use Rattle.std.specs.List.{flat_map}
use Rattle.git_tree.specs.Entry.{Entry}
use Rattle.git_commit.specs.declared.parents.Parents.{Parents}
use Rattle.git_commit.specs.Left.{parents_left}
use Rattle.git_object.specs.declared.link.Link.{Link}
use Rattle.git_object.specs.Links.{entry_links, commit_link}

abbrev pub first_left : Option Link → List Link
first_left None = []
first_left (Some link) = link ∷ []

abbrev pub entries_left : Option (List Entry) → List Link
entries_left None = []
entries_left (Some entries) = flat_map entry_links entries

abbrev pub commits_left : Option Parents → List Link
commits_left None = []
commits_left (Some parents) = map commit_link (parents_left parents)
