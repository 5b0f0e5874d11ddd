use Rattle.std.proofs.Common.{◌≡◌, ◌∙◌, Some, sym, ap}
use Rattle.number_links.specs.Numbers.{has}
use Rattle.object_table.specs.Rows.{row_in}
use Rattle.object_table.specs.Views.{word_by}
use Rattle.object_table.proofs.SettlingLemmas.{word_before}
use Rattle.object_table.proofs.StepLemmas.{same_row, staged_is}
use Rattle.object_table.proofs.staging.stage_one.Goals as goal

pub returns-clause-words : goal.returns-clause-words
returns-clause-words c =
    let rows = c.args.table.now.entries in
    let own = c.args.own.now in
    let row = c.in-Some.row in
    let here : row_in rows c.args.entry.name ≡ Some row = sym c.in-Some.ensures in
    let one = same_row rows c.args.entry row c.requires.row here in
    staged_is _ _ row c.args.entry c.sees-seen.result (has own.staged row.number) one.0 one.1
    (word_before rows own c.args.entry.name row c.invariant.ensures.rows here c.requires.one ∙ ap (λ b. word_by row b (has own.staged row.number)) (sym c.sees-seen.ensures))
    (c.settle.ensures.words c.args.entry.name here)
