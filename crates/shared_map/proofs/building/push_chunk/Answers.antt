use Rattle.std.proofs.Common.{◌++◌, ap, ◌∙◌, append-nil}
use Rattle.shared_map.specs.Chunks.{joined}
use Rattle.shared_map.proofs.ChunkLemmas.{joined_append}
use Rattle.shared_map.proofs.building.push_chunk.Goals as goal

pub returns-clause-joined : goal.returns-clause-joined
returns-clause-joined c =
    ap joined c.in_ok-push.ensures.items ∙ joined_append c.args.out.now.items _ ∙ ap (λ es. joined c.args.out.now.items ++ es) (append-nil c.in_ok-chunk.chunk ∙ c.in_ok-chunk.ensures)
