use Rattle.std.proofs.Common.{◌≡◌, ◌++◌, ◌+◌, ◌∷◌, [], take, get_or, subst, sym, arith}
use Rattle.std.proofs.lemmas.List.{take_more}
use Rattle.number_links.specs.Numbers.{has}
use Rattle.number_links.specs.Descent.{Puts, waits}
use Rattle.number_links.proofs.KeyLemmas.{puts_both}
use Rattle.number_links.proofs.waiting.put_all.Goals as goal

pub loop-n-preserved : goal.loop-n-preserved
loop-n-preserved c =
    let allowed = has c.args.ground.now.allowed.now in
    let gs = c.args.ground.now.generations.now in
    let numbers = c.args.numbers.now in
    let n = get_or numbers c.loop-n.n-index 0 in
    let front = take c.loop-n.n-index numbers in
    let more : take (c.loop-n.n-index + 1) numbers ≡ front ++ n ∷ [] = take_more numbers c.loop-n.n-index 0 (omega arith) in
    subst (λ ns. Puts ns allowed gs (waits c.args.keys.now) (waits c.put.new.keys)) (sym more) (puts_both allowed gs front (n ∷ []) (waits c.args.keys.now) (waits c.loop-n.keys) (waits c.put.new.keys) c.loop-n.invariant c.in_ok-put.ensures)
