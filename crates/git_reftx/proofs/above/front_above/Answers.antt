use Rattle.std.proofs.Common.{◌≡◌, true, get_or, take, sym, arith}
use Rattle.std.specs.FinMap as map
use Rattle.git_reftx.proofs.FrontLemmas.{first_front}
use Rattle.git_reftx.proofs.PushLemmas.{above_at, and_here, key_has, has_key, slash_false, slash_true}
use Rattle.git_reftx.proofs.above.front_above.Goals as goal

pub returns-then-is_above-clause-found : goal.returns-then-is_above-clause-found
returns-then-is_above-clause-found c =
    let text = c.args.name.now in
    let references = c.args.references.now in
    let found = slash_true (get_or text c.loop-at.at 0) (map.contains_key references (take c.loop-at.at text)) c.is_above.result c.is_above.ensures c.if-is_above.true in
    first_front (map.keys references) text c.loop-at.at c.loop-at-test.true found.0 (has_key references (take c.loop-at.at text) found.1)
    (λ j less slash inside. c.loop-at.invariant j less slash (key_has references (take j text) inside))

pub loop-at-preserved : goal.loop-at-preserved
loop-at-preserved c =
    let text = c.args.name.now in
    let references = c.args.references.now in
    and_here (λ j. get_or text j 0 ≡ 47 → map.contains_key references (take j text) ≡ true → ⊥) c.loop-at.at c.loop-at.invariant
    (slash_false (get_or text c.loop-at.at 0) (map.contains_key references (take c.loop-at.at text)) c.is_above.result c.is_above.ensures c.if-is_above.false)

pub returns-clause-none : goal.returns-clause-none
returns-clause-none c =
    let text = c.args.name.now in
    let references = c.args.references.now in
    sym (above_at (map.keys references) text
    (λ j short slash inside. (let past = c.loop-at-test.false in c.loop-at.invariant j (omega arith) slash (key_has references (take j text) inside))))
