-- An accepted push passed its transaction and the limit, also over other objects of the same measures.
use Rattle.std.proofs.Common.{◌≡◌, ℕ, ◌≤◌, Bool, true, false, cond, List, refl, sym, ap, subst, ◌∙◌, arith}
use Rattle.std.specs.Prelude.{nat_lt, Result, Ok, Err}
use Rattle.std.proofs.lemmas.Bool.Decides.{nat_tests}
use Rattle.git_reftx.specs.declared.command.Command.{Command}
use Rattle.git_reftx.specs.declared.fault.TxRefusal.{TxRefusal}
use Rattle.git_reftx.specs.Transaction.{References, transacted}
use Rattle.fork_reach.specs.Objects.{measures_of, use_of}
use Rattle.fork_reach.specs.Source.{Objects, kind_in}
use Rattle.fork_reach.proofs.MeasureLemmas.{same_kinds, same_use}
use Rattle.fork_push.specs.declared.refusal.PushRefusal.{PushRefusal}
use Rattle.fork_push.specs.declared.refusal.PushRefusal.TheVariants.{OverQuota}
use Rattle.fork_push.specs.declared.verdict.Verdict.{Verdict}
use Rattle.fork_push.specs.declared.verdict.Verdict.TheVariants.{Accepted, Refused, Failed}
use Rattle.fork_push.specs.Push.{within_limit}
use Rattle.fork_push.specs.Verdict.{IfAccepted, IsAcceptable, TellsJudged}

fits : (limit used : ℕ) → nat_lt limit used ≡ false → used ≤ limit
fits limit used is = grind (arith, nat_tests)

accepted_within : (both : Objects) (limit : ℕ) (done : Result References TxRefusal) (new : References) → within_limit both limit done ≡ Ok new → (done ≡ Ok new) × (use_of both ≤ limit)
accepted_within both limit (Ok given) new is = by (nat_lt limit (use_of both)) refl is
  where
    by : (b : Bool) → nat_lt limit (use_of both) ≡ b → ◌≡◌ {A = Result References PushRefusal} (cond b (Err OverQuota) (Ok given)) (Ok new) → (◌≡◌ {A = Result References TxRefusal} (Ok given) (Ok new)) × (use_of both ≤ limit)
    by true over told = (let differs : ⊥ = cc in absurd differs)
    by false low told = (let same : given ≡ new = cc in ap Ok same, fits limit (use_of both) low)
accepted_within both limit (Err refusal) new is = (let differs : ⊥ = cc in absurd differs)

-- a verdict on objects of the same measures
pub orderly : (both others : Objects) (old : References) (limit : ℕ) (commands : List Command) (verdict : Verdict) → measures_of both ≡ measures_of others
    → TellsJudged (within_limit both limit (transacted old commands (kind_in both))) verdict → IfAccepted verdict (IsAcceptable others old limit)
orderly both others old limit commands (Accepted new) same told =
    let found = accepted_within both limit (transacted old commands (kind_in both)) new told in
    record {
      commands = commands;
      carried = ap (transacted old commands) (λ i name. same_kinds others both name (sym same) i) ∙ found.0;
      within = subst (λ n. n ≤ limit) (same_use both others same) found.1;
    }
orderly both others old limit commands (Refused refusal) same told = tt
orderly both others old limit commands (Failed fault) same told = tt
