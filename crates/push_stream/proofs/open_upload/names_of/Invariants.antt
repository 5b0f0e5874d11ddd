use Rattle.std.proofs.Common.{◌≡◌, map, take}
use Rattle.push_stream.specs.declared.sent.Sent.{Sent}
use Rattle.push_stream.proofs.open_upload.names_of.Given as goal

-- the names so far
abbrev pub invariant-loop-one : goal.invariant-loop-one
invariant-loop-one l = l.names.items ≡ map (λ (one : Sent). one.name) (take l.one-index l.sent)
