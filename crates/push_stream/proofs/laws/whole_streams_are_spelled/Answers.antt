use Rattle.push_stream.proofs.SpellingLemmas.{whole_is_spelled}
use Rattle.push_stream.proofs.laws.whole_streams_are_spelled.Goals as goal

pub returns : goal.returns
returns c = λ bytes commands objects is. whole_is_spelled bytes commands objects is
