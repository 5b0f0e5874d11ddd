use Rattle.std.proofs.Common.{◌≡◌, ◌<◌, ◌-◌, suc, length, sym, subst, ◌∙◌, take_all, arith}
use Rattle.shared_map.specs.Chunks.{Entries, AreBefore, Reaches, Rises}
use Rattle.shared_map.proofs.SearchLemmas.{before_up_to, reaches_at}
use Rattle.shared_map.proofs.chunk.Chunk.is_before.Goals as goal

pub returns-clause-before : goal.returns-clause-before
returns-clause-before c so =
    let es = c.entries-entries.result.now in
    let key = c.args.key.now in
    let same : es ≡ c.args.self.now = c.entries-entries.ensures in
    let some : 0 < length es = subst (λ (l : Entries). 0 < length l) (sym same) c.requires.some in
    subst (AreBefore key) (take_all (suc (length es - 1)) es (omega (arith, some)) ∙ same)
    (before_up_to key es (length es - 1) c.index-entries-entries.result (subst Rises (sym same) c.requires.order) (omega (arith, some)) c.index-entries-entries.is (sym c.is_before.ensures ∙ so))

pub returns-clause-reaches : goal.returns-clause-reaches
returns-clause-reaches c not_so =
    let es = c.entries-entries.result.now in
    let same : es ≡ c.args.self.now = c.entries-entries.ensures in
    let some : 0 < length es = subst (λ (l : Entries). 0 < length l) (sym same) c.requires.some in
    subst (Reaches c.args.key.now) same (reaches_at c.args.key.now es (length es - 1) c.index-entries-entries.result (omega (arith, some)) c.index-entries-entries.is (sym c.is_before.ensures ∙ not_so))
