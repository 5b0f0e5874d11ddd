use Rattle.std.proofs.Common.{ap}
use Rattle.push_stream.specs.Stream.{finished}
use Rattle.fork_model.proofs.FetchedLemmas.{fetched_flow}
use Rattle.fork_model.proofs.transfer.what_is_fetched_is_a_stream.Goals as goal

pub returns : goal.returns
returns c = λ view wanted excluded right sendable. ap finished (fetched_flow view.objects wanted excluded right.right sendable)
