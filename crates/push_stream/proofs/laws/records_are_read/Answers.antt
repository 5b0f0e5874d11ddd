use Rattle.std.proofs.Common.{ap}
use Rattle.push_stream.specs.Stream.{finished}
use Rattle.push_stream.proofs.WrittenLemmas.{records_flow}
use Rattle.push_stream.proofs.laws.records_are_read.Goals as goal

pub returns-clause-stream : goal.returns-clause-stream
returns-clause-stream c = λ objects are within. records_flow objects are within

pub returns-clause-whole : goal.returns-clause-whole
returns-clause-whole c = λ objects are within. ap finished (records_flow objects are within)
