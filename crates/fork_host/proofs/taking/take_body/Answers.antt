use Rattle.std.proofs.Common.{subst, sym}
use Rattle.fork_model.specs.Answer.{pushed}
use Rattle.fork_host.specs.Bounds.{IsBounded}
use Rattle.fork_host.specs.Handle.{Uses, visible_by}
use Rattle.fork_host.specs.Own.{visible_in}
use Rattle.fork_host.specs.Pushed.{Sends, TellsHeld, view_of}
use Rattle.fork_host.specs.Rows.{Yields}
use Rattle.fork_host.specs.Safe.{IsSafe}
use Rattle.fork_host.specs.Sent.{sent_names}
use Rattle.fork_host.proofs.taking.take_body.Goals as goal

pub returns-in-Ok-clause-row : goal.returns-in-Ok-clause-row
returns-in-Ok-clause-row g c rest held was tells here honest =
    let old = view_of rest c.args.repositories.now (visible_by c.args.own.now) c.args.limit in
    let new = view_of rest c.take.new.repositories (visible_in c.take.new.own.vault.now c.args.own.now.tenant.now) c.args.limit in
    subst (λ h. Yields (pushed old c.args.name was h) old c.take.result new) (sym (subst (TellsHeld held) c.in-Ok.is tells)) (c.take.ensures.row rest was here honest)

pub returns-in-Ok-clause-safe : goal.returns-in-Ok-clause-safe
returns-in-Ok-clause-safe g c rest sent sends =
    let old = view_of rest c.args.repositories.now (visible_by c.args.own.now) c.args.limit in
    let new = view_of rest c.take.new.repositories (visible_in c.take.new.own.vault.now c.args.own.now.tenant.now) c.args.limit in
    subst (λ objects. IsSafe (IsBounded objects c.args.own.now.vault.now c.take.new.own.vault.now) old c.take.result new) (subst (Sends sent) c.in-Ok.is sends) (c.take.ensures.safe rest)

pub returns-in-Ok-clause-own : goal.returns-in-Ok-clause-own
returns-in-Ok-clause-own g c sent sends = subst (λ objects. Uses (sent_names objects) c.args.own.now c.take.new.own) (subst (Sends sent) c.in-Ok.is sends) c.take.ensures.own
