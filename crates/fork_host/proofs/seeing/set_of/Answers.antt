use Rattle.std.proofs.Common.{arith, ◌∙◌}
use Rattle.std.proofs.lemmas.List.{take_all}
use Rattle.fork_host.proofs.GatherLemmas.{set_more}
use Rattle.fork_host.proofs.seeing.set_of.Goals as goal

pub loop-name-preserved : goal.loop-name-preserved
loop-name-preserved c =
    set_more c.args.names.now c.loop-name.name-index c.name-item.result c.loop-name.set.keys c.insert.new.self.keys c.requires c.loop-name-test.true c.name-item.is c.in_ok-insert.ensures.keys c.loop-name.invariant

pub returns : goal.returns
returns c = c.loop-name.invariant ∙ take_all c.loop-name.name-index c.args.names.now (omega arith)
