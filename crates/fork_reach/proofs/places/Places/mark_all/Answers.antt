use Rattle.std.proofs.Common.{◌≡◌, ◌+◌, ◌++◌, [], ◌∷◌, take, subst, sym, ◌∙◌, ap, arith}
use Rattle.std.proofs.lemmas.List.{take_more}
use Rattle.fork_reach.specs.Marks.{SeesPlaces}
use Rattle.fork_reach.proofs.MarkLemmas.{places_both}
use Rattle.fork_reach.proofs.places.Places.mark_all.Goals as goal

pub loop-name-preserved : goal.loop-name-preserved
loop-name-preserved c =
    let all = c.args.self.now.names.now.keys in
    let notes = c.args.self.now.notes.now in
    let name = c.name-item.result in
    let names = c.args.names.now in
    let front = take c.loop-name.name-index names in
    let more : take (c.loop-name.name-index + 1) names ≡ front ++ name ∷ [] = take_more names c.loop-name.name-index name (omega arith) ∙ ap (λ n. front ++ n ∷ []) (sym c.name-item.is) in
    subst (λ ns. SeesPlaces all notes ns c.args.marks.now c.args.waiting.now.items c.mark.new.marks c.mark.new.waiting.items) (sym more)
    (places_both all notes front (name ∷ []) c.args.marks.now c.args.waiting.now.items c.loop-name.marks c.loop-name.waiting.items c.mark.new.marks c.mark.new.waiting.items c.loop-name.invariant c.in_ok-mark.ensures)
