use Rattle.std.proofs.Common.{refl}
use Rattle.number_links.specs.Facts.{told}
use Rattle.object_table.specs.Links.{numbered_name}
use Rattle.object_table.proofs.LinkLemmas.{either_known, learned_links, learned_named, stays_named, told_mapped}
use Rattle.object_table.proofs.holdings.learn_row.Goals as goal

pub returns-clause-links : goal.returns-clause-links
returns-clause-links c q one is =
    let rows = c.args.table.now.entries in
    either_known refl (told_mapped (numbered_name rows) c.args.to.now c.args.time) (learned_named rows c.args.links.now c.learn-learned.new.self c.args.name c.args.row (told c.args.to.now c.args.time) c.invariant.ensures.rows c.requires.here c.learn-learned.ensures.only q one is)

pub returns-clause-linked : goal.returns-clause-linked
returns-clause-linked c = learned_links c.args.table.now.entries c.args.links.now c.learn-learned.new.self c.args.name c.args.row (told c.args.to.now c.args.time) c.requires.linked c.requires.here c.requires.used c.learn-learned.ensures.only

pub returns-clause-stays : goal.returns-clause-stays
returns-clause-stays c = stays_named c.args.table.now.entries c.args.links.now c.learn-learned.new.self c.invariant.ensures.rows c.learn-learned.ensures.stays
