use Rattle.std.proofs.Common.{◌≡◌, ◌++◌, [], map}
use Rattle.std.specs.Prelude.{codes, if◌then◌else◌}
use Rattle.std.specs.List.{flat_map}
use Rattle.git_name.specs.Same.{same_name}
use Rattle.fork_model.specs.Answer.{offer_row}
use Rattle.fork_host.specs.Made.{rows_from}
use Rattle.fork_host.proofs.made.Made.add_rows_to.Given as goal

-- the rows so far, and then those of the offers that are left, are all
abbrev pub invariant-loop-pair : goal.invariant-loop-pair
invariant-loop-pair l =
    l.rows.items ++ flat_map (λ key. if same_name key.0 l.fn.receiver then offer_row (codes "from ") (l.fn.giver, key.1) else []) (map (λ e. e.0) l.pair-iterator)
    ≡ l.fn.rows.items ++ rows_from l.fn.giver l.fn.receiver l.fn.self
