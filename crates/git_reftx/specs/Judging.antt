-- The checks of a transaction, part by part.
use Rattle.std.specs.Prelude.{◌≡◌, [], List, Option, Some, Result, Err, ⊤}
use Rattle.std.specs.Option.{option_or}
use Rattle.git_reftx.specs.declared.command.Command.{Command}
use Rattle.git_reftx.specs.declared.fault.ApplyError.{ApplyError}
use Rattle.git_reftx.specs.declared.fault.ApplyError.TheVariants.{Refused, Memory}
use Rattle.git_reftx.specs.declared.fault.TxRefusal.{TxRefusal}
use Rattle.git_reftx.specs.Known.{Kinds}
use Rattle.git_reftx.specs.Transaction.{References, first_refusal, repeated_ref, missing_object, not_a_commit, is_branch, stale, ref_conflict, too_many}

-- the checks on the references before, for commands whose references have valid names
abbrev pub refused_before : References → List Command → Kinds → Option TxRefusal
refused_before old commands known =
    option_or (repeated_ref [] commands)
    (option_or (first_refusal (λ command. missing_object known command.change) commands)
    (option_or (first_refusal (λ command. not_a_commit known (is_branch command.reference) command.change) commands)
    (first_refusal (stale old) commands)))

-- the checks on the references afterwards
abbrev pub refused_after : References → Option TxRefusal
refused_after new = option_or (ref_conflict new) (too_many new)

-- the error reports the refusal; running out of memory reports nothing
abbrev pub TellsRefusal : Option TxRefusal → ApplyError → Type 0
TellsRefusal refusal (Refused told) = refusal ≡ Some told
TellsRefusal refusal Memory = ⊤

abbrev pub TellsTransacted : Result References TxRefusal → ApplyError → Type 0
TellsTransacted transacted (Refused told) = transacted ≡ Err told
TellsTransacted transacted Memory = ⊤
