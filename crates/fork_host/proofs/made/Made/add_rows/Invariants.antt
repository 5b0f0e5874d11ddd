use Rattle.std.proofs.Common.{◌≡◌, ◌++◌, map}
use Rattle.std.specs.Prelude.{codes}
use Rattle.std.specs.List.{flat_map}
use Rattle.std.specs.FinMap.{keys}
use Rattle.fork_model.specs.Answer.{offer_row}
use Rattle.fork_host.proofs.made.Made.add_rows.Given as goal

-- the rows so far, and then those of the offers that are left, are all
abbrev pub invariant-loop-pair : goal.invariant-loop-pair
invariant-loop-pair l = l.rows.items ++ flat_map (offer_row (codes "to ")) (map (λ e. e.0) l.pair-iterator) ≡ l.fn.rows.items ++ flat_map (offer_row (codes "to ")) (keys l.fn.self)
