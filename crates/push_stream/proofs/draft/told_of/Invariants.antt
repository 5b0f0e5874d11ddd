use Rattle.std.proofs.Common.{◌≡◌, map, take}
use Rattle.push_stream.specs.Reading.{sent_of}
use Rattle.push_stream.proofs.draft.told_of.Given as goal

-- what is known of the objects so far
abbrev pub invariant-loop-sealed : goal.invariant-loop-sealed
invariant-loop-sealed l = l.told.items ≡ map sent_of (take l.sealed-index l.objects)
