use Rattle.push_stream.proofs.ObjectLemmas.{continued_right, stream_right}
use Rattle.push_stream.proofs.WithinLemmas.{stream_within}
use Rattle.push_stream.proofs.laws.streams_hold_objects.Goals as goal

pub returns-clause-whole : goal.returns-clause-whole
returns-clause-whole c = λ bytes. stream_right bytes

pub returns-clause-within : goal.returns-clause-within
returns-clause-within c = λ bytes. stream_within bytes

pub returns-clause-pieces : goal.returns-clause-pieces
returns-clause-pieces c = λ upload piece are. continued_right upload piece are
