use Rattle.std.proofs.Common.{subst, sym}
use Rattle.push_stream.specs.Stream.{finished, sent_in}
use Rattle.fork_model.specs.Answer.{pushed}
use Rattle.fork_host.specs.Handle.{visible_by}
use Rattle.fork_host.specs.Own.{visible_in}
use Rattle.fork_host.specs.Pushed.{TellsBrief, view_of}
use Rattle.fork_host.specs.Rows.{Yields}
use Rattle.fork_host.proofs.PushLemmas.{held_by}
use Rattle.fork_host.proofs.taking.settle_upload.Goals as goal

pub returns-in-Ok-clause-row : goal.returns-in-Ok-clause-row
returns-in-Ok-clause-row g c rest stream was tells here honest beside =
    let old = view_of rest c.args.repositories.now (visible_by c.args.own.now) c.args.limit in
    let new = view_of rest c.settle.new.repositories (visible_in c.settle.new.own.vault.now c.args.own.now.tenant.now) c.args.limit in
    let held = held_by stream c.in-Ok.brief.commands.items c.in-Ok.brief.names.items (subst (TellsBrief (finished stream)) c.in-Ok.is tells) in
    subst (λ h. Yields (pushed old c.args.name was h) old c.settle.result new) (sym held.0) (c.settle.ensures.row rest (sent_in stream) was here honest held.1 beside)
