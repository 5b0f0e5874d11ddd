use Rattle.std.proofs.lemmas.Result.{IfOk-weaker}
use Rattle.number_links.proofs.PackLemmas.{copied_none, copied_some}
use Rattle.number_links.proofs.packing.copy.Goals as goal

pub returns-in_default : goal.returns-in_default
returns-in_default c = copied_none c.args.clock c.args.renewed.now c.args.pool.now c.args.begin c.args.now_pool.now.items c.requires.few c.in_default.ensures.none

pub returns : goal.returns
returns c =
    IfOk-weaker c.write.result _ _ (λ now written. copied_some c.args.clock c.args.renewed.now c.args.pool.now c.args.begin c.in-Some.to.now c.args.now_pool.now.items c.write.new.pool.items now c.requires.by_now c.requires.place c.in-Some.ensures.some written) c.write.ensures.ok
