use Rattle.std.proofs.Common.{inl, inr, refl, rules}
use Rattle.std.proofs.lemmas.Result.{err_from_is_err_and}
use Rattle.state_text.specs.Text.{state_text}
use Rattle.state_text.specs.declared.version.Version.TheVariants.{Two}
use Rattle.fork_program.proofs.ChangingLemmas.{unkept, unsaved_told}
use Rattle.fork_program.proofs.HostingLemmas.{if_err_more, on_ok_always}
use Rattle.fork_program.proofs.tenants.save_without_tenant.Goals as goal

pub returns-in-Ok-None-clause-err : goal.returns-in-Ok-None-clause-err
returns-in-Ok-None-clause-err g c = inr (c.args.host.now, (refl, search rules))

pub returns-in_err-drop_upload-clause-err : goal.returns-in_err-drop_upload-clause-err
returns-in_err-drop_upload-clause-err g c =
    let told = err_from_is_err_and c.from_residual.result c.from_residual.ensures.1 in
    rw (told.1, told.2) (inl (unkept _ c.in_err-drop_upload.ensures))

pub returns-clause-ok : goal.returns-clause-ok
returns-clause-ok g c =
    on_ok_always c.save_as.result (record {
      host = c.args.host.now;
      there = search rules;
      text = state_text Two c.in-Ok-Some.states;
      saved = search rules;
    })

pub returns-clause-err : goal.returns-clause-err
returns-clause-err g c = if_err_more c.save_as.result (λ fault is. inl (unsaved_told fault is)) c.save_as.ensures.cause
