use Rattle.std.proofs.Common.{◌≡◌, ◌++◌, option_map}
use Rattle.std.specs.List.{flat_map}
use Rattle.std.specs.FinMap.{entries}
use Rattle.fork_query.specs.References.{row_in}
use Rattle.fork_query.proofs.references.for_each_ref.Given as goal

-- the rows so far, and then those of the references that are left, are those of all
abbrev pub invariant-loop-name : goal.invariant-loop-name
invariant-loop-name g l =
    let row = row_in (g.S.Source.state l.fn.source).objects (option_map (λ word. word.now) l.fn.prefix) in
    l.text.items ++ flat_map row l.name-iterator ≡ flat_map row (entries l.fn.references)
