use Rattle.std.proofs.Common.{ap, inl, refl, rules, subst, sym, ◌∙◌}
use Rattle.std.specs.Prelude.{◌++◌}
use Rattle.push_stream.specs.OpenUpload.{is_broken}
use Rattle.push_stream.specs.Reading.{Reading}
use Rattle.push_stream.specs.Stream.{sent_in, stream_of}
use Rattle.fork_request.specs.Told.{is_host_fault}
use Rattle.fork_request.specs.declared.host_fault.HostFault.TheVariants.{Memory}
use Rattle.fork_request.specs.declared.reply.Reply.TheVariants.{Failed}
use Rattle.fork_ledger.specs.AllStaged.{with_all_staged}
use Rattle.fork_ledger.specs.Private.{Private}
use Rattle.fork_ledger.proofs.AllStagedLemmas.{all_staged_seen}
use Rattle.looks.specs.Growth.{GrowsAmong}
use Rattle.looks.proofs.GrowthLemmas.{grows_same}
use Rattle.fork_host.specs.Bounds.{IsBounded}
use Rattle.fork_host.specs.Fed.{Fed, Unfed}
use Rattle.fork_host.specs.Handle.{staged_by}
use Rattle.fork_host.specs.Own.{staged_in}
use Rattle.fork_host.specs.Rows.{vault_told}
use Rattle.fork_host.specs.Sent.{sent_names}
use Rattle.fork_host.proofs.BoundLemmas.{bounded_gains, bounded_more, gains_more}
use Rattle.fork_host.proofs.OwnLemmas.{seen_kept, staged_kept, staged_same}
use Rattle.fork_host.proofs.StagedLemmas.{came_broken, came_more, gained_among}
use Rattle.fork_host.proofs.uploading.feed.Goals as goal

pub returns-in_default-clause-fed : goal.returns-in_default-clause-fed
returns-in_default-clause-fed g c = Unfed Memory refl c.in_default.ensures.brief (staged_same c.args.own.now.vault.now c.args.own.now.tenant.now)

pub returns-then-step-clause-fed : goal.returns-then-step-clause-fed
returns-then-step-clause-fed g c =
    Fed c.done.ensures (search rules) (λ bytes came.
    came_broken c.args.own.now.vault.now.honest bytes c.args.piece.now c.args.upload.now.brief c.take.new.self.brief (staged_by c.args.own.now) (staged_in c.discard.new.own.vault.now c.args.own.now.tenant.now)
    (c.take.ensures.brief ∙ c.in-Ok.ensures.looked) (ap (λ (reading : Reading). is_broken reading.flow) c.take.ensures.brief ∙ sym c.in-Ok.ensures.fault ∙ c.if-step.true) c.discard.ensures.none came)

pub returns-in-Err-clause-fed : goal.returns-in-Err-clause-fed
returns-in-Err-clause-fed g c =
    Unfed (vault_told c.in-Err.fault) (ap (λ f. Failed f) c.vault_fault.ensures) (c.leave.ensures.brief ∙ c.in-Ok.ensures.brief)
    (staged_kept c.args.own.now.vault.now c.stage_all.new.own.vault.now c.args.own.now.tenant.now c.in-Err.ensures.err (λ p is. ap (λ (p : Private). p.staged) is))

pub returns-in-Err-clause-bounds : goal.returns-in-Err-clause-bounds
returns-in-Err-clause-bounds g c bytes came =
    let old = c.args.own.now.vault.now in
    let new = c.stage_all.new.own.vault.now in
    let sent = sent_in (stream_of (bytes ++ c.args.piece.now)) in
    subst (λ fault. IsBounded sent old new (Failed fault)) (sym c.vault_fault.ensures)
    (bounded_more c.in-Ok.step.objects.items sent old new _ (gained_among bytes c.args.piece.now c.args.upload.now.brief c.in-Ok.step.objects.items came.read c.in-Ok.ensures.gained) c.in-Err.ensures.bounds)

pub returns-clause-fed : goal.returns-clause-fed
returns-clause-fed g c =
    let old = c.args.own.now.vault.now in
    let new = c.stage_all.new.own.vault.now in
    Fed c.done-2.ensures (search rules) (λ bytes came.
    came_more c.args.own.now.tenant.now bytes c.args.piece.now c.args.upload.now.brief c.take-2.new.self.brief c.in-Ok.step.objects.items old new
    (c.take-2.ensures.brief ∙ c.in-Ok.ensures.looked) (ap (λ (reading : Reading). is_broken reading.flow) c.take-2.ensures.brief ∙ sym c.in-Ok.ensures.fault ∙ c.if-step.false) c.in-Ok.ensures.gained
    c.in_default-stage_all.ensures.ok c.in_default-stage_all.ensures.came came)

pub returns-clause-bounds : goal.returns-clause-bounds
returns-clause-bounds g c bytes came =
    let old = c.args.own.now.vault.now in
    let new = c.stage_all.new.own.vault.now in
    let sent = sent_in (stream_of (bytes ++ c.args.piece.now)) in
    bounded_gains sent old new c.done-2.result
    (gains_more c.in-Ok.step.objects.items sent old new (gained_among bytes c.args.piece.now c.args.upload.now.brief c.in-Ok.step.objects.items came.read c.in-Ok.ensures.gained) c.in_default-stage_all.ensures.gains)
    (inl (ap is_host_fault c.done-2.ensures))

pub returns-in-Err-clause-seen : goal.returns-in-Err-clause-seen
returns-in-Err-clause-seen g c = seen_kept c.args.own.now.vault.now c.stage_all.new.own.vault.now c.args.own.now.tenant.now (λ p. p) (λ p. refl) c.in-Err.ensures.err

pub returns-clause-seen : goal.returns-clause-seen
returns-clause-seen g c =
    seen_kept c.args.own.now.vault.now c.stage_all.new.own.vault.now c.args.own.now.tenant.now (with_all_staged c.in-Ok.step.objects.items) (all_staged_seen c.in-Ok.step.objects.items) c.in_default-stage_all.ensures.ok

pub returns-then-step-clause-grows : goal.returns-then-step-clause-grows
returns-then-step-clause-grows g c = grows_same _ c.args.own.now.vault.now.places c.discard.new.own.vault.now.places c.discard.ensures.store.places

pub returns-in-Err-clause-grows : goal.returns-in-Err-clause-grows
returns-in-Err-clause-grows g c =
    subst (λ objects. GrowsAmong (sent_names objects) c.args.own.now.vault.now.places c.stage_all.new.own.vault.now.places) c.in-Ok.ensures.gained c.stage_all.ensures.grows

pub returns-clause-grows : goal.returns-clause-grows
returns-clause-grows g c =
    subst (λ objects. GrowsAmong (sent_names objects) c.args.own.now.vault.now.places c.stage_all.new.own.vault.now.places) c.in-Ok.ensures.gained c.stage_all.ensures.grows
