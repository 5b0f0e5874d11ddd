use Rattle.std.proofs.Common.{◌≡◌, drop}
use Rattle.std.specs.BTreeSet.{contains}
use Rattle.std.specs.List.{list_any}
use Rattle.git_name.specs.Name.{name_cmp}
use Rattle.fork_sound.specs.Reading.{is_unmet_read}
use Rattle.fork_sound.proofs.links.is_unsound.Given as goal

-- some link is unmet if and only if one that is left is
abbrev pub invariant-loop-link : goal.invariant-loop-link
invariant-loop-link l =
    let unmet = is_unmet_read l.fn.readings (contains name_cmp l.fn.seen) in
    list_any unmet (drop l.link-index l.fn.reading.links) ≡ list_any unmet l.fn.reading.links
