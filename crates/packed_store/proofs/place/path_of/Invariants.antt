use Rattle.std.proofs.Common.{◌≡◌, ◌++◌, codes, replicate, string_bytes}
use Rattle.packed_store.proofs.place.path_of.Given as goal

abbrev pub invariant-loop : goal.invariant-loop
invariant-loop l = string_bytes l.path ≡ codes "segments/" ++ replicate l.counter 48
