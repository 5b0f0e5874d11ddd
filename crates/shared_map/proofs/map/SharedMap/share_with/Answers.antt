use Rattle.std.proofs.Common.{◌≡◌, [], unwrap_or, sym, ap, subst, ◌∙◌}
use Rattle.shared_map.specs.Chunks.{AreChunks, joined}
use Rattle.shared_map.proofs.MapLemmas.{count_is}
use Rattle.shared_map.proofs.map.SharedMap.share_with.Goals as goal

pub invariant_of-self : goal.invariant_of-self
invariant_of-self c =
    let count : c.self.inside.count ≡ c.len.result = count_is (joined (unwrap_or c.self.inside.chunks [])) c.self.inside.count c.args.self.now c.self.invariant.order c.self.invariant.len c.self.view_is ∙ sym c.len.ensures in
    let same : unwrap_or c.self.inside.chunks [] ≡ c.in_ok-new-2.new = ap (λ o. unwrap_or o []) c.in-Some.is ∙ sym c.as_slice.ensures ∙ sym c.in_ok-new.ensures ∙ sym c.in_ok-new-2.ensures in
    subst (λ l. AreChunks l c.len.result) same (subst (AreChunks (unwrap_or c.self.inside.chunks [])) count c.self.invariant)
