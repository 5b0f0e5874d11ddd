use Rattle.push_stream.specs.Stream.{stream_of}
use Rattle.push_stream.proofs.ReadingLemmas.{finished_is, gained_is, reading_joins}
use Rattle.push_stream.proofs.reading.readings_go_on.Goals as goal

pub returns-clause-brief : goal.returns-clause-brief
returns-clause-brief c = λ bytes piece. reading_joins bytes piece

pub returns-clause-objects : goal.returns-clause-objects
returns-clause-objects c = λ bytes piece. gained_is bytes piece

pub returns-clause-finished : goal.returns-clause-finished
returns-clause-finished c = λ bytes. finished_is (stream_of bytes)
