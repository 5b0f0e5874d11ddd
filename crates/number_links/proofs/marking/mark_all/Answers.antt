use Rattle.std.proofs.Common.{◌<◌, All, arith, subst, take}
use Rattle.std.proofs.lemmas.List.{take_all}
use Rattle.std.proofs.lemmas.List.Elements.{All-more, All-weaker}
use Rattle.number_links.specs.Generations.{generation}
use Rattle.number_links.proofs.GenerationLemmas.{mark_still, marks_then}
use Rattle.number_links.proofs.marking.mark_all.Goals as goal

pub loop-n-preserved : goal.loop-n-preserved
loop-n-preserved c =
    let old = c.loop-n.generations in
    let new = c.mark.new.generations in
    let numbers = c.args.numbers.now in
    let at = c.loop-n.n-index in (
      marks_then c.args.generations.now old new c.loop-n.invariant.0 c.mark.ensures.only,
      All-more (λ n. 0 < generation new n) numbers at 0 (omega arith) (All-weaker (λ n. 0 < generation old n) (λ n. 0 < generation new n) (mark_still old new c.mark.ensures.only) (take at numbers) c.loop-n.invariant.1) c.in_ok-mark.ensures.ok,
    )

pub returns-clause-ok : goal.returns-clause-ok
returns-clause-ok c = subst (All (λ n. 0 < generation c.loop-n.generations n)) (take_all c.loop-n.n-index c.args.numbers.now (omega arith)) c.loop-n.invariant.1
