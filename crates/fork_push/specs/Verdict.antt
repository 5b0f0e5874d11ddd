-- What a verdict reports.
use Rattle.std.specs.Prelude.{◌≡◌, ℕ, ◌≤◌, List, Option, None, Some, Result, Ok, Err, ⊤}
use Rattle.git_reftx.specs.declared.command.Command.{Command}
use Rattle.git_reftx.specs.Transaction.{References, transacted}
use Rattle.fork_reach.specs.Objects.{use_of}
use Rattle.fork_reach.specs.Source.{Objects, kind_in}
use Rattle.fork_reach.specs.declared.source.SourceFault.{SourceFault}
use Rattle.fork_push.specs.declared.refusal.PushRefusal.{PushRefusal}
use Rattle.fork_push.specs.declared.verdict.Verdict.{Verdict}
use Rattle.fork_push.specs.declared.verdict.Verdict.TheVariants.{Accepted, Refused, Failed}

-- the verdict reports what was judged; a fault reports nothing
abbrev pub TellsJudged : Result References PushRefusal → Verdict → Type 0
TellsJudged judged (Accepted new) = judged ≡ Ok new
TellsJudged judged (Refused refusal) = judged ≡ Err refusal
TellsJudged judged (Failed fault) = ⊤

-- the fault that a verdict reports
abbrev pub fault_of_verdict : Verdict → Option SourceFault
fault_of_verdict (Accepted new) = None
fault_of_verdict (Refused refusal) = None
fault_of_verdict (Failed fault) = Some fault

-- what is accepted passed its transaction and the limit
pub record IsAcceptable (both : Objects) (old : References) (limit : ℕ) (new : References) : Type 0 where
  pub commands : List Command
  pub carried : transacted old commands (kind_in both) ≡ Ok new
  pub within : use_of both ≤ limit

abbrev pub IfAccepted : Verdict → (References → Type 0) → Type 0
IfAccepted (Accepted new) P = P new
IfAccepted (Refused refusal) P = ⊤
IfAccepted (Failed fault) P = ⊤
