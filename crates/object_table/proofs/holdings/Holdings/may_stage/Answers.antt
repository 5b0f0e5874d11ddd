use Rattle.std.proofs.Common.{sym, subst, ◌∙◌, arith}
use Rattle.object_table.specs.Clashes.{AreAs}
use Rattle.object_table.specs.Holders.{HoldingsState}
use Rattle.object_table.specs.Views.{all_words}
use Rattle.object_table.proofs.ChangeLemmas.{none_allows, row_allows, row_refuses, unheld_allows}
use Rattle.object_table.proofs.holdings.Holdings.may_stage.Goals as goal

pub returns-in_default-clause-may : goal.returns-in_default-clause-may
returns-in_default-clause-may c is_true =
    subst (λ (s : HoldingsState). AreAs s.ledgers c.args.name c.args.kind c.args.length) c.self.view_is
    (none_allows c.self.inside.table.entries c.self.inside.ledgers c.args.name c.args.kind c.args.length c.invariant.ensures.rows (sym c.row.ensures ∙ c.in_default.is))

pub returns-then-row-eq0-clause-may : goal.returns-then-row-eq0-clause-may
returns-then-row-eq0-clause-may c is_true =
    subst (λ (s : HoldingsState). AreAs s.ledgers c.args.name c.args.kind c.args.length) c.self.view_is
    (unheld_allows c.self.inside.table.entries c.self.inside.ledgers c.args.name c.in-Some.row c.args.kind c.args.length c.invariant.ensures.rows c.self.invariant.0 (sym c.in-Some.ensures) c.if-row-eq0.true)

pub returns-clause-may : goal.returns-clause-may
returns-clause-may c is_true =
    let alike = c.is_as.ensures.alike is_true in
    subst (λ (s : HoldingsState). AreAs s.ledgers c.args.name c.args.kind c.args.length) c.self.view_is
    (subst (λ k. AreAs (all_words c.self.inside.table.entries c.self.inside.ledgers) c.args.name k c.args.length) alike.0
    (subst (λ n. AreAs (all_words c.self.inside.table.entries c.self.inside.ledgers) c.args.name c.in-Some.row.kind n) alike.1
    (row_allows c.self.inside.table.entries c.self.inside.ledgers c.args.name c.in-Some.row c.invariant.ensures.rows (sym c.in-Some.ensures))))

pub returns-clause-clash : goal.returns-clause-clash
returns-clause-clash c is_false as_told =
    row_refuses c.self.inside.table.entries c.self.inside.ledgers c.args.name c.in-Some.row c.args.kind c.args.length c.invariant.ensures.rows c.self.invariant.0 (sym c.in-Some.ensures)
    (let some = c.if-row-eq0.false in omega (arith, some)) (c.is_as.ensures.apart is_false)
    (subst (λ (s : HoldingsState). AreAs s.ledgers c.args.name c.args.kind c.args.length) (sym c.self.view_is) as_told)
