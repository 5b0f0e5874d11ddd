use Rattle.std.proofs.Common.{◌≡◌, ◌+◌, ◌++◌, [], ◌∷◌, take, subst, sym, ◌∙◌, ap, arith}
use Rattle.std.proofs.lemmas.List.{take_more}
use Rattle.fork_reach.specs.Queuing.{Queues}
use Rattle.fork_reach.proofs.QueueLemmas.{queues_both, queues_none}
use Rattle.fork_reach.proofs.queuing.queue_all.Goals as goal

pub loop-name-init : goal.loop-name-init
loop-name-init g c = queues_none (g.N.Names.names c.args.there.now) c.args.names.now.keys

pub loop-name-preserved : goal.loop-name-preserved
loop-name-preserved g c =
    let there = g.N.Names.names c.args.there.now in
    let name = c.name-item.result in
    let more = c.args.more.now in
    let queue = c.args.names.now.keys in
    let front = take c.loop-name.name-index more in
    let longer : take (c.loop-name.name-index + 1) more ≡ front ++ name ∷ [] = take_more more c.loop-name.name-index name (omega arith) ∙ ap (λ n. front ++ n ∷ []) (sym c.name-item.is) in
    subst (λ ns. Queues there ns queue c.queue.new.names.keys) (sym longer)
    (queues_both there front (name ∷ []) queue c.loop-name.names.keys c.queue.new.names.keys c.loop-name.invariant c.in_ok-queue.ensures)
