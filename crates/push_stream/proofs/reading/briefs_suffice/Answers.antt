use Rattle.push_stream.proofs.ReadingLemmas.{same_gained, same_reading}
use Rattle.push_stream.proofs.reading.briefs_suffice.Goals as goal

pub returns-clause-brief : goal.returns-clause-brief
returns-clause-brief c = λ xs ys piece same. same_reading xs ys piece same

pub returns-clause-objects : goal.returns-clause-objects
returns-clause-objects c = λ xs ys piece same. same_gained xs ys piece same
