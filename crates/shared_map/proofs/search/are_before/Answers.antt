use Rattle.std.proofs.Common.{◌<◌, ◌-◌, suc, length, sym, subst, ◌∙◌, take_all, arith, rules}
use Rattle.shared_map.specs.Chunks.{AreBefore}
use Rattle.shared_map.proofs.SearchLemmas.{before_up_to}
use Rattle.shared_map.proofs.search.are_before.Goals as goal

pub returns : goal.returns
returns c so =
    let es = c.args.entries.now in
    let key = c.args.key.now in
    let some : 0 < length es = search rules in
    subst (AreBefore key) (take_all (suc (length es - 1)) es (omega (arith, some)))
    (before_up_to key es (length es - 1) c.index-entries-entries.result c.requires (omega (arith, some)) c.index-entries-entries.is (sym c.is_before.ensures ∙ so))
