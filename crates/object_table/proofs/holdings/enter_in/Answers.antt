use Rattle.object_table.proofs.LinkLemmas.{keeps_entered, same_links, still_links}
use Rattle.object_table.proofs.ChangeLemmas.{came_all, came_held}
use Rattle.object_table.proofs.holdings.enter_in.Goals as goal

pub returns-clause-held : goal.returns-clause-held
returns-clause-held c =
    came_held c.args.table.now.entries c.enter-entered.new.self.entries c.args.ledgers.now c.invariant.ensures.rows c.invariant-2.ensures.rows.distinct c.requires.held c.enter-entered.ensures.kept c.enter-entered.ensures.fresh

pub returns-clause-words : goal.returns-clause-words
returns-clause-words c =
    came_all c.args.table.now.entries c.enter-entered.new.self.entries c.args.ledgers.now c.invariant.ensures.rows c.invariant-2.ensures.rows.distinct c.requires.held c.enter-entered.ensures.kept c.enter-entered.ensures.fresh

pub returns-clause-linked : goal.returns-clause-linked
returns-clause-linked c =
    let old = c.args.table.now.entries in
    let new = c.enter-entered.new.self.entries in
    still_links old new c.args.links.now c.invariant.ensures.rows c.invariant-2.ensures.rows c.requires.linked (keeps_entered old new c.enter-entered.ensures.kept c.enter-entered.ensures.fresh)

pub returns-clause-links : goal.returns-clause-links
returns-clause-links c =
    let old = c.args.table.now.entries in
    let new = c.enter-entered.new.self.entries in
    same_links old new c.args.links.now c.invariant.ensures.rows c.invariant-2.ensures.rows c.requires.linked (keeps_entered old new c.enter-entered.ensures.kept c.enter-entered.ensures.fresh)
