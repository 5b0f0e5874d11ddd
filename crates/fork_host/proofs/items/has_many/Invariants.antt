use Rattle.std.proofs.Common.{◌≡◌, ◌+◌, length}
use Rattle.git_name.specs.Text.{words_of}
use Rattle.fork_host.proofs.items.has_many.Given as goal

-- the items that were passed, and those that are left, are all
abbrev pub invariant-items : goal.invariant-items
invariant-items l = length (words_of l.fn.items) ≡ l.counter + length (words_of l.rest)
