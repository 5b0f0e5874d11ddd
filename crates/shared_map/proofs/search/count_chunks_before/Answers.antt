use Rattle.std.proofs.Common.{◌≡◌, ◌<◌, ◌+◌, ◌-◌, ◌/◌, suc, [], length, take, get_or, sym, subst, ◌∙◌, arith}
use Rattle.std.proofs.lemmas.List.{get_or_default}
use Rattle.shared_map.specs.Chunks.{AreBefore, Rises, joined}
use Rattle.shared_map.proofs.ChunkLemmas.{chunks_before, rises_at}
use Rattle.shared_map.proofs.search.count_chunks_before.Goals as goal

pub is_before-requires-clause-order : goal.is_before-requires-clause-order
is_before-requires-clause-order c =
    let middle = c.halves.low + (c.halves.high - c.halves.low) / 2 in
    let more = c.halves-test.true in
    let kept = c.halves.invariant in
    let within : middle < length c.args.chunks.now = omega (arith, more, kept.within) in
    let is : c.index-chunks-middle.result ≡ get_or c.args.chunks.now middle [] = c.index-chunks-middle.is ∙ get_or_default c.args.chunks.now middle c.index-chunks-middle.result [] within in
    subst Rises (sym is) (rises_at c.args.chunks.now middle c.requires.order)

pub halves-preserved-then-is_before : goal.halves-preserved-then-is_before
halves-preserved-then-is_before c =
    let middle = c.halves.low + (c.halves.high - c.halves.low) / 2 in
    let kept = c.halves.invariant in
    let more = c.halves-test.true in
    let within : middle < length c.args.chunks.now = omega (arith, more, kept.within) in
    let is : c.index-chunks-middle.result ≡ get_or c.args.chunks.now middle [] = c.index-chunks-middle.is ∙ get_or_default c.args.chunks.now middle c.index-chunks-middle.result [] within in
    record {
      order = omega (arith, more);
      within = kept.within;
      before = subst (λ n. AreBefore c.args.key.now (joined (take n c.args.chunks.now))) {x = suc middle} {y = middle + 1} (omega arith)
          (chunks_before c.args.key.now c.args.chunks.now middle c.requires.order c.requires.full within (subst (AreBefore c.args.key.now) is (c.is_before.ensures.before c.if-is_before.true)));
      reached = kept.reached;
    }
