use Rattle.object_table.proofs.LinkLemmas.{keeps_described, keeps_then}
use Rattle.std.proofs.Common.{ap, ◌∙◌}
use Rattle.std.proofs.lemmas.Result.{err_from_is_err_and}
use Rattle.object_table.specs.AllStaged.{all_staged_words}
use Rattle.object_table.specs.Ledgers.{at_ledger}
use Rattle.object_table.proofs.ChangeLemmas.{clashes, described_all, described_held}
use Rattle.object_table.proofs.holdings.stage_in.Goals as goal

pub returns-in_err-described-clause-held : goal.returns-in_err-described-clause-held
returns-in_err-described-clause-held c =
    described_held c.args.table.now.entries c.describe_all-described.new.table.entries c.args.ledgers.now c.invariant.ensures.rows c.invariant-2.ensures.rows.distinct c.requires.held c.describe_all-described.ensures.describes

pub returns-in_err-described-clause-err : goal.returns-in_err-described-clause-err
returns-in_err-described-clause-err c =
    let told = err_from_is_err_and c.from_residual.result c.from_residual.ensures.1 in
    rw told.1
    (described_all c.args.table.now.entries c.describe_all-described.new.table.entries c.args.ledgers.now c.invariant.ensures.rows c.invariant-2.ensures.rows.distinct c.requires.held c.describe_all-described.ensures.describes)

pub returns-in_err-described-clause-clash : goal.returns-in_err-described-clause-clash
returns-in_err-described-clause-clash c =
    let told = err_from_is_err_and c.from_residual.result c.from_residual.ensures.1 in
    rw (told.1, told.2) (λ is. clashes c.args.table.now.entries c.args.ledgers.now c.args.entries.now c.invariant.ensures.rows c.requires.held (c.in_err-described.ensures.clash is))

pub stage-requires-clause-held : goal.stage-requires-clause-held
stage-requires-clause-held c =
    described_held c.args.table.now.entries c.describe_all-described.new.table.entries c.args.ledgers.now c.invariant.ensures.rows c.invariant-2.ensures.rows.distinct c.requires.held c.describe_all-described.ensures.describes

pub returns-in_default-clause-err : goal.returns-in_default-clause-err
returns-in_default-clause-err c =
    c.in_default.ensures.err ∙ described_all c.args.table.now.entries c.describe_all-described.new.table.entries c.args.ledgers.now c.invariant.ensures.rows c.invariant-2.ensures.rows.distinct c.requires.held c.describe_all-described.ensures.describes

pub returns-clause-ok : goal.returns-clause-ok
returns-clause-ok c =
    c.in-Ok.ensures.ok ∙ ap (λ m. at_ledger m c.args.tenant.now (all_staged_words c.args.entries.now)) (described_all c.args.table.now.entries c.describe_all-described.new.table.entries c.args.ledgers.now c.invariant.ensures.rows c.invariant-2.ensures.rows.distinct c.requires.held c.describe_all-described.ensures.describes)

pub returns-in_default-clause-numbers : goal.returns-in_default-clause-numbers
returns-in_default-clause-numbers c =
    keeps_then c.args.table.now.entries c.describe_all-described.new.table.entries c.stage.new.table.entries (keeps_described c.args.table.now.entries c.describe_all-described.new.table.entries c.describe_all-described.ensures.describes) c.in_default.ensures.numbers

pub returns-clause-numbers : goal.returns-clause-numbers
returns-clause-numbers c =
    keeps_then c.args.table.now.entries c.describe_all-described.new.table.entries c.stage.new.table.entries (keeps_described c.args.table.now.entries c.describe_all-described.new.table.entries c.describe_all-described.ensures.describes) c.in-Ok.ensures.numbers
