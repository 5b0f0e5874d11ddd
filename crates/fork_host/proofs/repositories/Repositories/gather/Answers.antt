use Rattle.std.proofs.Common.{ap, arith, ◌∙◌}
use Rattle.std.proofs.lemmas.List.{take_all}
use Rattle.std.specs.FinMap.{entries}
use Rattle.fork_model.specs.View.{Repositories}
use Rattle.fork_host.proofs.GatherLemmas.{gathered_more, none_gathered}
use Rattle.fork_host.proofs.repositories.Repositories.gather.Goals as goal

pub loop-name-preserved : goal.loop-name-preserved
loop-name-preserved c =
    gathered_more c.args.list.now c.loop-name.repositories c.insert.new.self c.loop-name.name-index c.loop-name-item.result c.copy-in-loop-name.result c.in_ok-copy.copy c.requires c.loop-name-test.true c.loop-name-item.is
    c.copy-in-loop-name.ensures c.in_ok-copy.ensures c.in_ok-insert.ensures.ok c.loop-name.invariant

pub loop-name-init : goal.loop-name-init
loop-name-init c = ap (λ (m : Repositories). entries m) c.new-repositories.ensures ∙ none_gathered

pub returns : goal.returns
returns c = c.loop-name.invariant ∙ take_all c.loop-name.name-index c.args.list.now (omega arith)
