use Rattle.std.proofs.Common.{◌≡◌, ◌+◌, ◌++◌, [], ◌∷◌, take, subst, sym, ◌∙◌, ap, arith}
use Rattle.std.specs.HashSet.{contains}
use Rattle.std.proofs.lemmas.List.{take_more}
use Rattle.git_name.specs.Same.{same_name}
use Rattle.fork_reach.specs.Seeing.{Sees}
use Rattle.fork_reach.proofs.SeeingLemmas.{sees_both}
use Rattle.fork_reach.proofs.noting.note_all.Goals as goal

pub loop-name-preserved : goal.loop-name-preserved
loop-name-preserved g c =
    let there = g.N.Names.names c.args.there.now in
    let name = c.name-item.result in
    let names = c.args.names.now in
    let front = take c.loop-name.name-index names in
    let more : take (c.loop-name.name-index + 1) names ≡ front ++ name ∷ [] = take_more names c.loop-name.name-index name (omega arith) ∙ ap (λ n. front ++ n ∷ []) (sym c.name-item.is) in
    subst (λ ns. Sees there (g.N.Names.ends c.args.there.now) ns (contains same_name c.args.seen.now) c.args.waiting.now.items (contains same_name c.note.new.seen) c.note.new.waiting.items) (sym more)
    (sees_both there (g.N.Names.ends c.args.there.now) front (name ∷ []) (contains same_name c.args.seen.now) c.args.waiting.now.items (contains same_name c.loop-name.seen) c.loop-name.waiting.items (contains same_name c.note.new.seen) c.note.new.waiting.items c.loop-name.invariant c.in_ok-note.ensures)
