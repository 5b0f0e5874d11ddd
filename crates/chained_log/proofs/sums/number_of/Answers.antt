use Rattle.std.proofs.Common.{rules}
use Rattle.std.proofs.lemmas.Nat.{be_bytes_4}
use Rattle.chained_log.specs.Log.{length_bytes}
use Rattle.chained_log.proofs.sums.number_of.Goals as goal

pub returns : goal.returns
unfolding length_bytes
returns c = be_bytes_4 c.args.word _ (search rules) (search rules) c.from_be_bytes.ensures
