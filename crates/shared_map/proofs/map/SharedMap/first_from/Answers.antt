use Rattle.std.proofs.Common.{◌≡◌, ◌≤◌, ◌<◌, not, is_lt, length, take, drop, get_or, sym, ap, subst, ◌∙◌, [], unwrap_or, Some, map as mapped}
use Rattle.std.specs.FinMap as map
use Rattle.std.specs.List.{find}
use Rattle.git_name.specs.Name.{name_cmp}
use Rattle.shared_map.specs.Chunks.{Entries, AreBefore, AreNotBefore, Rises, joined}
use Rattle.shared_map.proofs.ChangeLemmas.{entries_risen}
use Rattle.shared_map.proofs.ChunkLemmas.{rises_at}
use Rattle.shared_map.proofs.MapLemmas.{first_none, first_some}
use Rattle.shared_map.proofs.map.SharedMap.first_from.Goals as goal

pub count_before-at-requires : goal.count_before-at-requires
count_before-at-requires c =
    let cs = c.slice_of-chunks.result.now in
    subst Rises (sym c.entries_at-entries.ensures) (rises_at cs c.chunk_for.result (subst (λ l. Rises (joined l)) (sym c.slice_of-chunks.ensures) c.self.invariant.order))

pub returns-then-at-entries : goal.returns-then-at-entries
returns-then-at-entries c =
    let cs = c.slice_of-chunks.result.now in
    let key = c.args.key.now in
    let at = c.chunk_for.result in
    let k = c.count_before-at.result in
    let same = c.entries_at-entries.ensures in
    let shown : joined cs ≡ map.entries c.args.self.now = ap joined c.slice_of-chunks.ensures ∙ sym (entries_risen (joined (unwrap_or c.self.inside.chunks [])) c.self.invariant.order) ∙ ap map.entries c.self.view_is in
    sym (ap (λ l. find (λ other. not (is_lt (name_cmp other key))) (mapped (λ e. e.0) l)) (sym shown)
    ∙ first_none key cs at k c.chunk_for.ensures.before c.chunk_for.ensures.last (subst (λ (es : Entries). length es ≤ k) same c.if-at-entries.true) (subst (λ es. AreBefore key (take k es)) same c.count_before-at.ensures.before))

pub returns : goal.returns
returns c =
    let cs = c.slice_of-chunks.result.now in
    let key = c.args.key.now in
    let at = c.chunk_for.result in
    let k = c.count_before-at.result in
    let same = c.entries_at-entries.ensures in
    let x = c.index-entries-at.result in
    let shown : joined cs ≡ map.entries c.args.self.now = ap joined c.slice_of-chunks.ensures ∙ sym (entries_risen (joined (unwrap_or c.self.inside.chunks [])) c.self.invariant.order) ∙ ap map.entries c.self.view_is in
    ap (λ t. Some t) c.key.ensures
    ∙ sym (ap (λ l. find (λ other. not (is_lt (name_cmp other key))) (mapped (λ e. e.0) l)) (sym shown)
    ∙ first_some key cs at k x c.chunk_for.ensures.before (subst (λ (es : Entries). k < length es) same c.if-at-entries.false) (subst (λ es. x ≡ get_or es k x) same c.index-entries-at.is)
    (subst (λ es. AreBefore key (take k es)) same c.count_before-at.ensures.before) (subst (λ es. AreNotBefore key (drop k es)) same c.count_before-at.ensures.behind))
