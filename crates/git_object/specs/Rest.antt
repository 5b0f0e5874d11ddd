-- What the iterator of links has left.
use Rattle.std.specs.Prelude.{◌++◌, List}
use Rattle.git_object.specs.declared.link.Link.{Link}
use Rattle.git_object.specs.declared.walk.Links.{Links}
use Rattle.git_object.specs.Left.{first_left, commits_left, entries_left}

-- what was not yielded yet: the first link, then those to commits, then those of entries
abbrev pub links_left : Links → List Link
links_left links = first_left links.first ++ (commits_left links.parents ++ entries_left links.entries)
