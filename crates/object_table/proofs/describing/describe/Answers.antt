use Rattle.std.proofs.Common.{Some, sym, ap, refl, ◌∙◌, arith, cond}
use Rattle.object_table.specs.declared.row.Row.{Row}
use Rattle.object_table.specs.Rows.{row_in}
use Rattle.object_table.proofs.DescribeLemmas.{described_one}
use Rattle.object_table.proofs.PlaceLemmas.{own_name}
use Rattle.object_table.proofs.describing.describe.Goals as goal

pub returns-clause-describes : goal.returns-clause-describes
returns-clause-describes c =
    let row = c.in-Some.row in
    let here = sym c.in-Some.ensures in
    described_one c.args.table.now.entries c.write.new.self.entries c.args.entry.name row (record { length = c.args.entry.length; holders = 0; number = row.number; kind = c.args.entry.kind }) here
    (let some = c.if-row-gt0.false in omega (arith, some)) refl refl (c.write.ensures.rows c.args.entry.name row here refl)

pub returns-clause-row : goal.returns-clause-row
returns-clause-row c row stands none =
    let now : Row = record { length = c.args.entry.length; holders = 0; number = c.in-Some.row.number; kind = c.args.entry.kind } in
    record {
      row = now;
      here = c.write.ensures.rows c.args.entry.name c.in-Some.row (sym c.in-Some.ensures) refl c.args.entry.name ∙ ap (λ b. cond b (Some now) (row_in c.args.table.now.entries c.args.entry.name)) (own_name c.args.entry.name);
      kinds = refl;
      lengths = refl;
    }

pub returns-clause-others : goal.returns-clause-others
returns-clause-others c q apart =
    let now : Row = record { length = c.args.entry.length; holders = 0; number = c.in-Some.row.number; kind = c.args.entry.kind } in
    c.write.ensures.rows c.args.entry.name c.in-Some.row (sym c.in-Some.ensures) refl q ∙ ap (λ b. cond b (Some now) (row_in c.args.table.now.entries q)) apart
