use Rattle.std.proofs.Common.{sym, ◌∙◌}
use Rattle.push_stream.specs.Record.{record_at}
use Rattle.push_stream.proofs.GainingLemmas.{cut_open, not_cut}
use Rattle.push_stream.proofs.gaining.next_record.Goals as goal

pub returns-then-is_cut-clause-unfinished : goal.returns-then-is_cut-clause-unfinished
returns-then-is_cut-clause-unfinished c = cut_open c.args.text.now c.in-Err.error c.in-Err.ensures.exact (sym c.is_cut.ensures ∙ c.if-is_cut.true)

pub returns-else-is_cut-clause-exact : goal.returns-else-is_cut-clause-exact
returns-else-is_cut-clause-exact c = not_cut (record_at c.args.text.now) c.in-Err.error c.in-Err.ensures.exact (sym c.is_cut.ensures ∙ c.if-is_cut.false)
