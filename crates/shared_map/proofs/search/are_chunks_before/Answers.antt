use Rattle.std.proofs.Common.{◌≡◌, ◌<◌, ◌-◌, suc, [], length, get_or, sym, subst, ◌∙◌, take_all, arith, rules}
use Rattle.std.proofs.lemmas.List.{get_or_default}
use Rattle.shared_map.specs.Chunks.{AreBefore, Rises, joined}
use Rattle.shared_map.proofs.ChunkLemmas.{chunks_before, rises_at}
use Rattle.shared_map.proofs.search.are_chunks_before.Goals as goal

pub is_before-requires-clause-order : goal.is_before-requires-clause-order
is_before-requires-clause-order c =
    let cs = c.args.chunks.now in
    let some : 0 < length cs = search rules in
    let within : length cs - 1 < length cs = omega (arith, some) in
    let is : c.index-chunks-chunks.result ≡ get_or cs (length cs - 1) [] = c.index-chunks-chunks.is ∙ get_or_default cs (length cs - 1) c.index-chunks-chunks.result [] within in
    subst Rises (sym is) (rises_at cs (length cs - 1) c.requires.order)

pub returns : goal.returns
returns c so =
    let cs = c.args.chunks.now in
    let key = c.args.key.now in
    let some : 0 < length cs = search rules in
    let within : length cs - 1 < length cs = omega (arith, some) in
    let is : c.index-chunks-chunks.result ≡ get_or cs (length cs - 1) [] = c.index-chunks-chunks.is ∙ get_or_default cs (length cs - 1) c.index-chunks-chunks.result [] within in
    subst (λ l. AreBefore key (joined l)) (take_all (suc (length cs - 1)) cs (omega (arith, some)))
    (chunks_before key cs (length cs - 1) c.requires.order c.requires.full within (subst (AreBefore key) is (c.is_before.ensures.before so)))
