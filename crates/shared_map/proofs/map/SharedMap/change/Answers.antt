use Rattle.std.proofs.Common.{◌≡◌, [], sym, ap, subst, unwrap_or, ◌∙◌}
use Rattle.std.specs.FinMap as map
use Rattle.git_name.specs.Name.{name_cmp}
use Rattle.shared_map.specs.Building.{set_in}
use Rattle.shared_map.specs.Chunks.{AreChunks, Rises, joined}
use Rattle.shared_map.specs.Spot.{IsSpot}
use Rattle.shared_map.proofs.ChunkLemmas.{rises_at}
use Rattle.shared_map.proofs.MapLemmas.{set_is, are_changed, is_there, count_is}
use Rattle.shared_map.proofs.map.SharedMap.change.Goals as goal

pub spot_of-spot-requires : goal.spot_of-spot-requires
spot_of-spot-requires c =
    let cs = c.slice_of-chunks.result.now in
    subst Rises (sym c.entries_at.ensures) (rises_at cs c.chunk_for-at.result (subst (λ l. Rises (joined l)) (sym c.slice_of-chunks.ensures) c.self.invariant.order))

pub len_without-requires : goal.len_without-requires
len_without-requires c =
    let cs = c.slice_of-chunks.result.now in
    let count : c.self.inside.count ≡ c.len.result = count_is (joined (unwrap_or c.self.inside.chunks [])) c.self.inside.count c.args.self.now c.self.invariant.order c.self.invariant.len c.self.view_is ∙ sym c.len.ensures in
    let are : AreChunks cs c.len.result = subst (λ l. AreChunks l c.len.result) (sym c.slice_of-chunks.ensures) (subst (AreChunks (unwrap_or c.self.inside.chunks [])) count c.self.invariant) in
    let is = subst (λ es. IsSpot c.args.key.now es c.spot_of-spot.result) c.entries_at.ensures c.spot_of-spot.ensures in
    is_there c.args.key.now cs c.len.result c.chunk_for-at.result c.spot_of-spot.result are is

pub invariant_of-self : goal.invariant_of-self
invariant_of-self c =
    let cs = c.slice_of-chunks.result.now in
    let at = c.chunk_for-at.result in
    let count : c.self.inside.count ≡ c.len.result = count_is (joined (unwrap_or c.self.inside.chunks [])) c.self.inside.count c.args.self.now c.self.invariant.order c.self.invariant.len c.self.view_is ∙ sym c.len.ensures in
    let are : AreChunks cs c.len.result = subst (λ l. AreChunks l c.len.result) (sym c.slice_of-chunks.ensures) (subst (AreChunks (unwrap_or c.self.inside.chunks [])) count c.self.invariant) in
    let is = subst (λ es. IsSpot c.args.key.now es c.spot_of-spot.result) c.entries_at.ensures c.spot_of-spot.ensures in
    subst (λ l. AreChunks l c.in_ok-count.count) (sym c.in_ok-new-2.ensures)
    (are_changed c.args.key.now cs c.in_ok-new.new.items c.len.result c.len_without.result c.in_ok-count.count at c.spot_of-spot.result c.args.value.now are c.chunk_for-at.ensures.before c.chunk_for-at.ensures.behind is
    c.in_ok-new.ensures.joined c.in_ok-new.ensures.full c.len_without.ensures c.in_ok-count.ensures)

pub returns-clause-ok : goal.returns-clause-ok
returns-clause-ok c =
    let cs = c.slice_of-chunks.result.now in
    let is = subst (λ es. IsSpot c.args.key.now es c.spot_of-spot.result) c.entries_at.ensures c.spot_of-spot.ensures in
    ap (λ l. map.from_entries {R = name_cmp} (joined l)) c.in_ok-new-2.ensures
    ∙ set_is c.args.key.now cs c.in_ok-new.new.items c.chunk_for-at.result c.spot_of-spot.result c.args.value.now c.chunk_for-at.ensures.before c.chunk_for-at.ensures.behind is c.in_ok-new.ensures.joined
    ∙ ap (λ m. set_in m c.args.key.now c.args.value.now) (ap (λ l. map.from_entries {R = name_cmp} (joined l)) c.slice_of-chunks.ensures ∙ c.self.view_is)
