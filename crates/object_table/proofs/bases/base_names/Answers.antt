use Rattle.std.proofs.Common.{sym, ◌∙◌, rules}
use Rattle.number_links.specs.Numbers.{has}
use Rattle.number_links.specs.declared.along.Along.TheVariants.{Parents}
use Rattle.object_table.proofs.WalkedLemmas.{best_all, best_known, best_only}
use Rattle.object_table.proofs.bases.base_names.Goals as goal

pub returns-clause-only : goal.returns-clause-only
returns-clause-only c name is =
    best_only c.args.table.now.entries c.args.own.now c.args.links.now c.invariant.ensures.rows c.requires.own c.requires.linked Parents c.args.a c.args.b c.in-Some.first c.in-Some-row.second (sym c.in-Some.ensures) (sym c.in-Some-row.ensures)
    (has c.in-Some-2.numbers) (search rules) name (sym (c.in_ok-names.ensures name) ∙ is)

pub returns-clause-all : goal.returns-clause-all
returns-clause-all c name best =
    c.in_ok-names.ensures name
    ∙ best_all c.args.table.now.entries c.args.own.now c.args.links.now c.invariant.ensures.rows c.requires.own c.requires.linked Parents c.args.a c.args.b c.in-Some.first c.in-Some-row.second (sym c.in-Some.ensures) (sym c.in-Some-row.ensures)
    (has c.in-Some-2.numbers) (search rules) name best

pub returns-clause-known : goal.returns-clause-known
returns-clause-known c =
    best_known c.args.table.now.entries c.args.own.now c.args.links.now c.invariant.ensures.rows c.requires.own c.requires.linked Parents c.args.a c.args.b c.in-Some.first c.in-Some-row.second (sym c.in-Some.ensures) (sym c.in-Some-row.ensures)
    (search rules)
