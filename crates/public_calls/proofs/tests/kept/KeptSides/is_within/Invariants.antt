use Rattle.std.proofs.Common.{◌≡◌, ◌+◌}
use Rattle.std.specs.Prelude.{sum_by}
use Rattle.std.specs.FinMap.{from_entries}
use Rattle.git_name.specs.Name.{name_cmp}
use Rattle.fork_reach.specs.Objects.{use_of, use_of_object}
use Rattle.public_calls.proofs.tests.kept.KeptSides.is_within.Given as goal

-- what was taken from the limit is what the objects so far use
abbrev pub invariant-loop-sealed : goal.invariant-loop-sealed
invariant-loop-sealed l = l.left + use_of (from_entries {R = name_cmp} l.self.objects.entries) ≡ l.limit + sum_by use_of_object l.sealed-iterator
