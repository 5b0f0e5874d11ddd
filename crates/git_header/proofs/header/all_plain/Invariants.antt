use Rattle.std.specs.List.{AllWithin}
use Rattle.git_header.specs.Header.{IsPlain}
use Rattle.git_header.proofs.header.all_plain.Given as goal

abbrev pub invariant-loop-value : goal.invariant-loop-value
invariant-loop-value l = AllWithin (λ value. IsPlain value.now) l.values 0 l.value-index
