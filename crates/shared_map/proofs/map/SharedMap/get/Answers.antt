use Rattle.std.proofs.Common.{sym, ap, subst, ◌∙◌}
use Rattle.std.specs.FinMap as map
use Rattle.git_name.specs.Name.{name_cmp}
use Rattle.shared_map.specs.Chunks.{Rises, joined}
use Rattle.shared_map.specs.Spot.{IsSpot}
use Rattle.shared_map.proofs.ChunkLemmas.{rises_at}
use Rattle.shared_map.proofs.MapLemmas.{get_is}
use Rattle.shared_map.proofs.map.SharedMap.get.Goals as goal

pub spot_of-requires : goal.spot_of-requires
spot_of-requires c =
    let cs = c.slice_of-chunks.result.now in
    subst Rises (sym c.entries_at.ensures) (rises_at cs c.chunk_for-at.result (subst (λ l. Rises (joined l)) (sym c.slice_of-chunks.ensures) c.self.invariant.order))

pub returns : goal.returns
returns c =
    let cs = c.slice_of-chunks.result.now in
    get_is c.args.key.now cs c.chunk_for-at.result c.spot_of.result c.chunk_for-at.ensures.before c.chunk_for-at.ensures.behind (subst (λ es. IsSpot c.args.key.now es c.spot_of.result) c.entries_at.ensures c.spot_of.ensures)
    ∙ ap (λ l. map.get (map.from_entries {R = name_cmp} (joined l)) c.args.key.now) c.slice_of-chunks.ensures ∙ ap (λ m. map.get m c.args.key.now) c.self.view_is
