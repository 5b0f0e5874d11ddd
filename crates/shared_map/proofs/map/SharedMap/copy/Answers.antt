use Rattle.std.proofs.Common.{◌≡◌, [], unwrap_or, sym, ap, subst, ◌∙◌}
use Rattle.shared_map.specs.Chunks.{AreChunks, joined}
use Rattle.shared_map.proofs.MapLemmas.{count_is}
use Rattle.shared_map.proofs.map.SharedMap.copy.Goals as goal

pub invariant_of-result : goal.invariant_of-result
invariant_of-result c =
    let count : c.self.inside.count ≡ c.len.result = count_is (joined (unwrap_or c.self.inside.chunks [])) c.self.inside.count c.args.self.now c.self.invariant.order c.self.invariant.len c.self.view_is ∙ sym c.len.ensures in
    let same : unwrap_or c.self.inside.chunks [] ≡ c.in_ok-chunks.chunks = ap (λ o. unwrap_or o []) c.in-Some.is ∙ sym c.in_ok-chunks.ensures in
    subst (λ l. AreChunks l c.len.result) same (subst (AreChunks (unwrap_or c.self.inside.chunks [])) count c.self.invariant)
