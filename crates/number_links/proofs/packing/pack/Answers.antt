use Rattle.std.proofs.Common.{◌≡◌, ◌∙◌, ◌++◌, ◌+◌, ◌∷◌, [], arith, get_or, length, subst, sym}
use Rattle.std.proofs.lemmas.List.{get_or_default}
use Rattle.number_links.proofs.PackLemmas.{Packs, packs_all, packs_more}
use Rattle.number_links.specs.Records.{IsRecord}
use Rattle.number_links.proofs.packing.pack.Goals as goal

pub copy-requires-clause-place : goal.copy-requires-clause-place
copy-requires-clause-place c one other =
    let at = c.loop-begin.begin-index in
    let same : get_or c.args.begins.now at 0 ≡ get_or c.args.begins.now at 4294967295 = get_or_default c.args.begins.now at 0 4294967295 (omega arith) in
    subst (IsRecord c.args.clock (length c.args.renewed.now) c.args.pool.now) (sym same) (c.requires.records.records at (λ e. one (same ∙ e)) (λ e. other (same ∙ e)))

pub loop-begin-preserved : goal.loop-begin-preserved
loop-begin-preserved c =
    let at = c.loop-begin.begin-index in
    let same : get_or c.args.begins.now at 0 ≡ get_or c.args.begins.now at 4294967295 = get_or_default c.args.begins.now at 0 4294967295 (omega arith) in
    let pushed : c.push.new.self.items ≡ c.loop-begin.now_begins.items ++ c.in_ok-now.now ∷ [] = c.in_ok-push.ensures.items in
    subst (λ places. Packs c.args.clock c.args.renewed.now c.args.begins.now c.args.pool.now (at + 1) places c.copy.new.now_pool.items) (sym pushed)
    (packs_more c.args.clock c.args.renewed.now c.args.begins.now c.args.pool.now at c.loop-begin.now_begins.items c.loop-begin.now_pool.items c.copy.new.now_pool.items (get_or c.args.begins.now at 0) c.in_ok-now.now c.loop-begin.invariant same c.in_ok-now.ensures)

pub returns-clause-told : goal.returns-clause-told
returns-clause-told c = packs_all c.args.clock c.args.renewed.now c.args.begins.now c.args.pool.now c.loop-begin.begin-index c.loop-begin.now_begins.items c.loop-begin.now_pool.items c.loop-begin.invariant (omega arith)
