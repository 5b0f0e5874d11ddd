use Rattle.std.proofs.Common.{inl, inr, subst}
use Rattle.std.proofs.lemmas.Result.{err_from_is_err_and, on_ok_weaker}
use Rattle.state_text.specs.Kept.{states_of}
use Rattle.state_text.specs.Text.{IsStateText2}
use Rattle.fork_program.proofs.ChangingLemmas.{unsaved_told}
use Rattle.fork_program.proofs.HostingLemmas.{if_err_more}
use Rattle.fork_program.proofs.tenants.save_added.Goals as goal

pub returns-in_err-add-clause-err : goal.returns-in_err-add-clause-err
returns-in_err-add-clause-err g c =
    let told = err_from_is_err_and c.from_residual.result c.from_residual.ensures.1 in
    rw (told.1, told.2) (inr (c.args.host.now, c.in_err-add.ensures.err))

pub returns-clause-ok : goal.returns-clause-ok
returns-clause-ok g c =
    on_ok_weaker c.save.result (λ saved. record {
      host = c.args.host.now;
      free = c.in_ok-add.ensures.free;
      text = saved.0;
      saved = subst (λ world. IsStateText2 (states_of world) saved.0) c.in_ok-add.ensures.ok saved.1;
    }) c.save.ensures.text

pub returns-clause-err : goal.returns-clause-err
returns-clause-err g c = if_err_more c.save.result (λ fault is. inl (unsaved_told fault is)) c.save.ensures.cause
