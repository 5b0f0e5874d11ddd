use Rattle.std.proofs.Common.{◌≡◌}
use Rattle.std.specs.BTreeSet.{contains}
use Rattle.std.specs.List.{find}
use Rattle.git_name.specs.Name.{name_cmp}
use Rattle.fork_sound.specs.Reading.{is_bad_read}
use Rattle.fork_sound.proofs.objects.first_bad_read.Given as goal

-- the first of those that are left is the first of all
abbrev pub invariant-loop-name : goal.invariant-loop-name
invariant-loop-name l =
    let bad = is_bad_read l.fn.readings (contains name_cmp l.fn.seen) in
    find bad l.name-iterator ≡ find bad l.fn.seen.keys
