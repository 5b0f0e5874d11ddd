use Rattle.std.proofs.Common.{◌≡◌, ◌++◌, ◌+◌, ◌∷◌, [], take, get_or, subst, sym, arith, ◌∙◌}
use Rattle.std.proofs.lemmas.List.{take_more}
use Rattle.number_links.specs.Numbers.{has}
use Rattle.number_links.specs.Seeing.{Enters}
use Rattle.number_links.proofs.EnterLemmas.{enters_both, enters_known, enters_none}
use Rattle.number_links.proofs.gathering.enter_all.Goals as goal

pub loop-n-init : goal.loop-n-init
loop-n-init c = enters_none 4294967296 (has c.args.ends.now) (has c.args.seen.now) c.args.waiting.now.items

pub loop-n-preserved-then-contains : goal.loop-n-preserved-then-contains
loop-n-preserved-then-contains c =
    let ends = has c.args.ends.now in
    let numbers = c.args.numbers.now in
    let n = get_or numbers c.loop-n.n-index 0 in
    let front = take c.loop-n.n-index numbers in
    let more : take (c.loop-n.n-index + 1) numbers ≡ front ++ n ∷ [] = take_more numbers c.loop-n.n-index 0 (omega arith) in
    subst (λ ns. Enters 4294967296 ends ns (has c.args.seen.now) c.args.waiting.now.items (has c.loop-n.seen) c.loop-n.waiting.items) (sym more)
    (enters_both 4294967296 ends front (n ∷ []) (has c.args.seen.now) c.args.waiting.now.items (has c.loop-n.seen) c.loop-n.waiting.items (has c.loop-n.seen) c.loop-n.waiting.items c.loop-n.invariant
    (enters_known 4294967296 ends n (has c.loop-n.seen) c.loop-n.waiting.items (sym c.contains.ensures ∙ c.if-contains.true)))

pub loop-n-preserved : goal.loop-n-preserved
loop-n-preserved c =
    let ends = has c.args.ends.now in
    let numbers = c.args.numbers.now in
    let n = get_or numbers c.loop-n.n-index 0 in
    let front = take c.loop-n.n-index numbers in
    let more : take (c.loop-n.n-index + 1) numbers ≡ front ++ n ∷ [] = take_more numbers c.loop-n.n-index 0 (omega arith) in
    subst (λ ns. Enters 4294967296 ends ns (has c.args.seen.now) c.args.waiting.now.items (has c.enter.new.seen) c.enter.new.waiting.items) (sym more)
    (enters_both 4294967296 ends front (n ∷ []) (has c.args.seen.now) c.args.waiting.now.items (has c.loop-n.seen) c.loop-n.waiting.items (has c.enter.new.seen) c.enter.new.waiting.items c.loop-n.invariant c.in_ok-enter.ensures)
