use Rattle.std.proofs.Common.{◌≡◌, ◌+◌, [], ap, subst, unwrap_or, ◌∙◌, rules}
use Rattle.std.specs.FinMap as map
use Rattle.shared_map.specs.Building.{appended}
use Rattle.shared_map.specs.Chunks.{AreBefore, joined}
use Rattle.shared_map.proofs.MapLemmas.{appended_is, chunks_appended}
use Rattle.shared_map.proofs.map.SharedMap.append.Goals as goal

pub invariant_of-self-2 : goal.invariant_of-self-2
invariant_of-self-2 c =
    let cs = unwrap_or c.self.inside.chunks [] in
    let key = c.args.key.now in
    let before = subst (λ l. AreBefore key (joined l)) c.slice_of.ensures (c.are_chunks_before.ensures c.if-not-are_chunks_before.false) in
    let count : c.in-Some.count ≡ c.self.inside.count + 1 = search rules in
    chunks_appended key c.args.value cs (unwrap_or c.push_to.new.chunks []) c.self.inside.count c.in-Some.count c.self.invariant before
    (c.push_to.ensures.joined ∙ ap (λ d. appended d (joined cs) (key, c.args.value)) c.if-not-push_to.false) (c.push_to.ensures.full c.self.invariant.full) count

pub returns-clause-done : goal.returns-clause-done
returns-clause-done c done =
    let cs = unwrap_or c.self.inside.chunks [] in
    let key = c.args.key.now in
    let before = subst (λ l. AreBefore key (joined l)) c.slice_of.ensures (c.are_chunks_before.ensures c.if-not-are_chunks_before.false) in
    appended_is key c.args.value cs (unwrap_or c.push_to.new.chunks []) before (c.push_to.ensures.joined ∙ ap (λ d. appended d (joined cs) (key, c.args.value)) c.if-not-push_to.false)
    ∙ ap (λ m. map.insert m key c.args.value) c.self.view_is
