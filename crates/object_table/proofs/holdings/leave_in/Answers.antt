use Rattle.std.proofs.Common.{length, cond, None, ap, ◌∙◌}
use Rattle.object_table.specs.Rows.{row_in}
use Rattle.object_table.proofs.LinkLemmas.{left_known, left_links, none_known}
use Rattle.object_table.proofs.PlaceLemmas.{entry_there, own_name}
use Rattle.object_table.proofs.RowLemmas.{row_at}
use Rattle.object_table.proofs.ChangeLemmas.{gone_all, gone_held}
use Rattle.object_table.proofs.holdings.leave_in.Goals as goal

pub returns-clause-held : goal.returns-clause-held
returns-clause-held c =
    gone_held c.args.table.now.entries c.leave.new.self.entries c.args.ledgers.now c.args.name c.invariant.ensures.rows c.invariant-2.ensures.rows.distinct c.requires.held c.requires.free c.leave.ensures.rows

pub returns-clause-words : goal.returns-clause-words
returns-clause-words c =
    gone_all c.args.table.now.entries c.leave.new.self.entries c.args.ledgers.now c.args.name c.invariant.ensures.rows c.invariant-2.ensures.rows.distinct c.requires.held c.requires.free c.leave.ensures.rows

pub returns-clause-linked : goal.returns-clause-linked
returns-clause-linked c =
    let rows = c.args.table.now.entries in
    let there = entry_there rows c.requires.next.front c.requires.next.back c.args.name c.requires.next.whole in
    let here = row_at rows (length c.requires.next.front) c.args.name there.0 c.invariant.ensures.rows.distinct there.1 in
    left_links rows c.leave.new.self.entries c.args.links.now c.renew.new.links c.args.name there.0 c.invariant.ensures.rows c.invariant-2.ensures.rows c.requires.linked here c.leave.ensures.rows (c.renew.ensures there.0 here)

pub returns-clause-links : goal.returns-clause-links
returns-clause-links c =
    let rows = c.args.table.now.entries in
    let there = entry_there rows c.requires.next.front c.requires.next.back c.args.name c.requires.next.whole in
    let here = row_at rows (length c.requires.next.front) c.args.name there.0 c.invariant.ensures.rows.distinct there.1 in
    left_known rows c.leave.new.self.entries c.args.links.now c.renew.new.links c.args.name there.0 c.invariant.ensures.rows c.invariant-2.ensures.rows c.requires.linked here c.leave.ensures.rows (c.renew.ensures there.0 here)

pub returns-clause-away : goal.returns-clause-away
returns-clause-away c =
    none_known c.leave.new.self.entries c.renew.new.links c.args.name c.invariant-2.ensures.rows (c.leave.ensures.rows c.args.name ∙ ap (λ b. cond b None (row_in c.args.table.now.entries c.args.name)) (own_name c.args.name))
