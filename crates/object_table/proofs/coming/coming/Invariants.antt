use Rattle.std.proofs.Common.{◌≡◌, ◌++◌}
use Rattle.std.specs.Option.{option_copied}
use Rattle.object_table.specs.Coming.{coming_in}
use Rattle.object_table.specs.Views.{words_under}
use Rattle.object_table.proofs.coming.coming.Given as goal

-- the entries so far, and then those of what is left
abbrev pub invariant-loop-name : goal.invariant-loop-name
invariant-loop-name l =
    l.entries.items ++ coming_in (words_under l.table.entries (option_copied l.shown)) (words_under l.table.entries (option_copied l.own)) l.name-iterator ≡ coming_in (words_under l.table.entries (option_copied l.shown)) (words_under l.table.entries (option_copied l.own)) l.names.keys
