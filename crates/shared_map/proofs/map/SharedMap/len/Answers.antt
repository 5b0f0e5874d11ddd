use Rattle.std.proofs.Common.{[], unwrap_or}
use Rattle.shared_map.specs.Chunks.{joined}
use Rattle.shared_map.proofs.MapLemmas.{count_is}
use Rattle.shared_map.proofs.map.SharedMap.len.Goals as goal

pub returns : goal.returns
returns c = count_is (joined (unwrap_or c.self.inside.chunks [])) c.self.inside.count c.args.self.now c.self.invariant.order c.self.invariant.len c.self.view_is
