use Rattle.std.proofs.Common.{◌≤◌, All, take, arith, subst}
use Rattle.std.proofs.lemmas.List.{take_all}
use Rattle.std.proofs.lemmas.List.Elements.{All-more, All-weaker}
use Rattle.number_links.proofs.lists.greatest.Goals as goal

pub loop-n-preserved : goal.loop-n-preserved
loop-n-preserved c =
    let numbers = c.args.numbers.now in
    let most = c.larger-most.result in
    let more : c.loop-n.most ≤ most = c.larger-most.ensures.0 in
    All-more (λ n. n ≤ most) numbers c.loop-n.n-index 0 (omega arith) (All-weaker (λ n. n ≤ c.loop-n.most) (λ n. n ≤ most) (λ n below. omega arith) (take c.loop-n.n-index numbers) c.loop-n.invariant) c.larger-most.ensures.1

pub returns : goal.returns
returns c = subst (All (λ n. n ≤ c.loop-n.most)) (take_all c.loop-n.n-index c.args.numbers.now (omega arith)) c.loop-n.invariant
