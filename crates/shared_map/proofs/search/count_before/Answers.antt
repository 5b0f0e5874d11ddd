use Rattle.std.proofs.Common.{◌+◌, ◌-◌, ◌/◌, suc, take, sym, subst, ◌∙◌, arith}
use Rattle.shared_map.specs.Chunks.{AreBefore}
use Rattle.shared_map.proofs.SearchLemmas.{before_up_to, not_before_from}
use Rattle.shared_map.proofs.search.count_before.Goals as goal

pub halves-preserved-then-is_before : goal.halves-preserved-then-is_before
halves-preserved-then-is_before c =
    let middle = c.halves.low + (c.halves.high - c.halves.low) / 2 in
    let kept = c.halves.invariant in
    let more = c.halves-test.true in
    record {
      order = omega (arith, more);
      within = kept.within;
      before = subst (λ n. AreBefore c.args.key.now (take n c.args.entries.now)) {x = suc middle} {y = middle + 1} (omega arith)
          (before_up_to c.args.key.now c.args.entries.now middle c.index-entries-middle.result c.requires (omega (arith, more, kept.within)) c.index-entries-middle.is (sym c.is_before.ensures ∙ c.if-is_before.true));
      behind = kept.behind;
    }

pub halves-preserved : goal.halves-preserved
halves-preserved c =
    let middle = c.halves.low + (c.halves.high - c.halves.low) / 2 in
    let kept = c.halves.invariant in
    let more = c.halves-test.true in
    record {
      order = omega (arith, more);
      within = omega (arith, more, kept.within);
      before = kept.before;
      behind = not_before_from c.args.key.now c.args.entries.now middle c.index-entries-middle.result c.requires (omega (arith, more, kept.within)) c.index-entries-middle.is (sym c.is_before.ensures ∙ c.if-is_before.false);
    }
