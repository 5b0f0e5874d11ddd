use Rattle.std.proofs.Common.{Bool, subst, sym, ◌∙◌}
use Rattle.host_folder.specs.Journal.{IsCleared}
use Rattle.host_folder.proofs.JournalLemmas.{cleared}
use Rattle.host_folder.proofs.journal_clearing.is_journal.Goals as goal

pub returns-clause-other : goal.returns-clause-other
returns-clause-other c none =
    subst (λ (b : Bool). IsCleared b c.args.name c.args.called.now) (sym c.if-is_there.false)
    (cleared c.args.called.now c.args.name c.name_called.result c.parse_hex.result c.as_bytes-bytes.ensures.name c.name_called.ensures.named (sym c.if-eq.ensures) c.parse_hex.ensures.value (sym c.eq-2.ensures ∙ none))
