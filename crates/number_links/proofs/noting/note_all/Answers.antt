use Rattle.std.proofs.Common.{◌≡◌, ◌++◌, ◌+◌, ◌∷◌, [], take, get_or, subst, sym, arith}
use Rattle.std.proofs.lemmas.List.{take_more}
use Rattle.number_links.specs.Numbers.{has}
use Rattle.number_links.specs.Reach.{past}
use Rattle.number_links.specs.Seeing.{Sees}
use Rattle.number_links.proofs.SeeingLemmas.{sees_both}
use Rattle.number_links.proofs.noting.note_all.Goals as goal

pub loop-n-preserved : goal.loop-n-preserved
loop-n-preserved c =
    let allowed = past (has c.args.allowed.now) (has c.args.hidden.now) in
    let numbers = c.args.numbers.now in
    let n = get_or numbers c.loop-n.n-index 0 in
    let front = take c.loop-n.n-index numbers in
    let more : take (c.loop-n.n-index + 1) numbers ≡ front ++ n ∷ [] = take_more numbers c.loop-n.n-index 0 (omega arith) in
    subst (λ ns. Sees 4294967296 allowed ns (has c.args.seen.now) c.args.waiting.now.items (has c.note.new.seen) c.note.new.waiting.items) (sym more)
    (sees_both 4294967296 allowed front (n ∷ []) (has c.args.seen.now) c.args.waiting.now.items (has c.loop-n.seen) c.loop-n.waiting.items (has c.note.new.seen) c.note.new.waiting.items c.loop-n.invariant c.in_ok-note.ensures)
