use Rattle.number_links.proofs.PackLemmas.{Packs}
use Rattle.number_links.proofs.packing.pack.Given as goal

-- the records so far were copied
abbrev pub invariant-loop-begin : goal.invariant-loop-begin
invariant-loop-begin l = Packs l.clock l.renewed l.begins l.pool l.begin-index l.now_begins.items l.now_pool.items
