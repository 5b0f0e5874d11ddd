use Rattle.push_stream.proofs.RestLemmas.{rest_short}
use Rattle.push_stream.proofs.reading.rests_are_short.Goals as goal

pub returns : goal.returns
returns c = λ bytes. rest_short bytes
