use Rattle.std.proofs.Common.{◌≡◌, length}
use Rattle.std.specs.List.{list_all}
use Rattle.git_name.specs.Text.{words_of}
use Rattle.fork_request.specs.Words.{is_item}
use Rattle.fork_request.proofs.words.are_items.Given as goal

-- all are items exactly if those that are left are
abbrev pub invariant-items : goal.invariant-items
invariant-items l = list_all is_item (words_of l.words) ≡ list_all is_item (words_of l.rest)

abbrev pub decreases-items : goal.decreases-items
decreases-items l = length (words_of l.rest)
