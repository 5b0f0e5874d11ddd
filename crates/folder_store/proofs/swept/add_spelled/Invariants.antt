use Rattle.std.proofs.Common.{◌≡◌, ◌++◌, drop, map}
use Rattle.folder_store.specs.Listing.{names_spelled}
use Rattle.folder_store.proofs.swept.add_spelled.Given as goal

-- the names so far, and then those of what is left
abbrev pub invariant-loop-called : goal.invariant-loop-called
invariant-loop-called l =
    l.names.items ++ names_spelled (map (λ called. called.items) (drop l.called-index l.listing)) ≡ l.fn.names.items ++ names_spelled (map (λ called. called.items) l.listing)
