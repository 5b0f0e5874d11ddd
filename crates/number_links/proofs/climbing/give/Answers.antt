use Rattle.std.proofs.Common.{ap, get_or, sym, ◌∙◌}
use Rattle.number_links.specs.Facts.{goes_from}
use Rattle.number_links.specs.declared.along.Along.TheVariants.{Parents}
use Rattle.number_links.proofs.GenerationLemmas.{linked_known}
use Rattle.number_links.proofs.climbing.give.Goals as goal

pub returns : goal.returns
returns c =
    let n = c.args.n in
    c.raise.ensures (record { links = c.args.links.now; times = c.args.times.now }) c.in-Some.ensures.some
    (ap (λ to. goes_from Parents to (get_or c.args.times.now n 0)) (linked_known c.args.links.now n c.in-Some.to.now c.in-Some.ensures.some) ∙ sym c.goes_from.ensures) c.requires
