use Rattle.std.proofs.Common.{ap}
use Rattle.push_stream.specs.Stream.{finished}
use Rattle.push_stream.proofs.WrittenLemmas.{spelled_flows}
use Rattle.push_stream.proofs.laws.spelled_streams_are_whole.Goals as goal

pub returns-clause-stream : goal.returns-clause-stream
returns-clause-stream c = λ bytes commands objects is. spelled_flows bytes commands objects is

pub returns-clause-whole : goal.returns-clause-whole
returns-clause-whole c = λ bytes commands objects is. ap finished (spelled_flows bytes commands objects is)
