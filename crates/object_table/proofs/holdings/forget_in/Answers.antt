use Rattle.std.proofs.Common.{sym, refl}
use Rattle.object_table.proofs.LinkLemmas.{away_known, fewer_known, fewer_links, none_known}
use Rattle.object_table.proofs.holdings.forget_in.Goals as goal

pub returns-in_default-clause-away : goal.returns-in_default-clause-away
returns-in_default-clause-away c = none_known c.args.table.now.entries c.args.links.now c.args.name c.invariant.ensures.rows (sym c.in_default.ensures)

pub returns-clause-linked : goal.returns-clause-linked
returns-clause-linked c = fewer_links c.args.table.now.entries c.args.links.now c.renew-all.new.self c.invariant.ensures.rows (λ n to is. (c.renew-all.ensures.gone n to is).0) c.requires.linked

pub returns-clause-links : goal.returns-clause-links
returns-clause-links c = fewer_known c.args.table.now.entries c.args.links.now c.renew-all.new.self c.invariant.ensures.rows (λ n to is. (c.renew-all.ensures.gone n to is).0)

pub returns-clause-away : goal.returns-clause-away
returns-clause-away c = away_known c.args.table.now.entries c.renew-all.new.self c.args.name c.in-Some.row c.invariant.ensures.rows (sym c.in-Some.ensures) (λ to is. (c.renew-all.ensures.gone c.in-Some.row.number to is).1 refl)
