use Rattle.std.proofs.Common.{◌≡◌, ◌≢◌, sym, ◌∙◌, rules}
use Rattle.shared_map.proofs.SpotLemmas.{spot_none, spot_some}
use Rattle.shared_map.proofs.spot.spot_of.Goals as goal

pub returns-then-ne : goal.returns-then-ne
returns-then-ne c =
    let apart : c.key.result.now ≢ c.args.key.now = search rules in
    spot_none c.args.key.now c.args.entries.now c.count_before-at.result c.index-entries-at.result c.requires c.if-at-entries.false c.index-entries-at.is c.count_before-at.ensures.before c.count_before-at.ensures.behind
    (λ own. apart (c.key.ensures ∙ own))

pub returns : goal.returns
returns c =
    let own : c.key.result.now ≡ c.args.key.now = search rules in
    rw c.value.ensures (spot_some c.args.key.now c.args.entries.now c.count_before-at.result c.index-entries-at.result c.requires c.if-at-entries.false c.index-entries-at.is c.count_before-at.ensures.before (sym c.key.ensures ∙ own))
