use Rattle.std.proofs.Common.{◌≡◌, Ok, ap, map as map_list, refl, subst, sym, ◌∙◌}
use Rattle.std.specs.FinMap.{contains_key, empty}
use Rattle.git_name.specs.Object.{object_name}
use Rattle.fork_reach.specs.Objects.{measures_of}
use Rattle.fork_request.specs.declared.reply.Reply.TheVariants.{Failed}
use Rattle.fork_ledger.specs.AllStaged.{with_all_staged}
use Rattle.fork_ledger.specs.Private.{Private}
use Rattle.fork_ledger.proofs.AllStagedLemmas.{all_staged_seen}
use Rattle.looks.proofs.GrowthLemmas.{grows_same, grows_then}
use Rattle.fork_host.specs.Bounds.{IsBounded}
use Rattle.fork_push.specs.Here.{AreThere}
use Rattle.fork_host.specs.Handle.{both_by, visible_by}
use Rattle.fork_host.specs.Own.{IsOwn, staged_in, visible_in}
use Rattle.fork_host.specs.Pushed.{view_of}
use Rattle.fork_host.specs.Rows.{vault_told}
use Rattle.fork_host.specs.Safe.{IsSafe}
use Rattle.fork_host.specs.Sent.{sent_names}
use Rattle.fork_host.proofs.BoundLemmas.{bounded_after, bounded_left}
use Rattle.fork_host.proofs.HandleLemmas.{of_first, ready_still, same_then, sent_beside}
use Rattle.fork_host.proofs.OwnLemmas.{own_then, seen_kept, staged_kept, still_none}
use Rattle.fork_host.proofs.SafeLemmas.{alike_itself, safe_from, safe_left}
use Rattle.fork_host.proofs.TakingLemmas.{gives_nothing, yields_from}
use Rattle.fork_host.proofs.taking.take.Goals as goal

pub returns-in-Err-clause-row : goal.returns-in-Err-clause-row
returns-in-Err-clause-row g c rest was here honest =
    let first = c.args.own.now in
    let new = c.stage_all.new.own in
    gives_nothing _ c.args.repositories.now (visible_by first) (visible_in new.vault.now first.tenant.now) rest c.args.limit (vault_told c.in-Err.fault) _
    (ap (λ f. Failed f) c.vault_fault.ensures) ((seen_kept first.vault.now new.vault.now first.tenant.now (λ p. p) (λ p. refl) c.in-Err.ensures.err).exact honest)

pub returns-in-Err-clause-safe : goal.returns-in-Err-clause-safe
returns-in-Err-clause-safe g c rest =
    let first = c.args.own.now in
    let new = c.stage_all.new.own in
    let sent = c.args.body.objects.items in
    safe_left (IsBounded sent first.vault.now new.vault.now) c.args.repositories.now c.args.repositories.now (visible_by first) (visible_in new.vault.now first.tenant.now) rest rest c.args.limit _ refl
    (seen_kept first.vault.now new.vault.now first.tenant.now (λ p. p) (λ p. refl) c.in-Err.ensures.err).shape (alike_itself rest)
    (subst (λ fault. IsBounded sent first.vault.now new.vault.now (Failed fault)) (sym c.vault_fault.ensures) c.in-Err.ensures.bounds)

pub returns-in-Err-clause-own : goal.returns-in-Err-clause-own
returns-in-Err-clause-own g c =
    let first = c.args.own.now in
    let new = c.stage_all.new.own in
    record { same = c.in-Err.ensures.same; own = c.stage_all.ensures.own; grows = c.stage_all.ensures.grows; staged = staged_kept first.vault.now new.vault.now first.tenant.now c.in-Err.ensures.err (λ p is. ap (λ (p : Private). p.staged) is) }

pub settle-reply-requires : goal.settle-reply-requires
settle-reply-requires g c =
    let first = c.args.own.now in
    let staged = c.stage_all.new.own in
    let sent = c.args.body.objects.items in
    let seen = seen_kept first.vault.now staged.vault.now first.tenant.now (with_all_staged sent) (all_staged_seen sent) c.in-Ok-stage_all.ensures.ok in
    record {
      ready = ready_still first staged c.args.limit c.in-Ok-stage_all.ensures.same c.stage_all.ensures.own seen c.requires.ready;
      here = λ h. subst (AreThere (both_by staged)) (sym c.as_slice-2.ensures.value) (c.in-Ok-stage_all.ensures.back (sym c.in-Ok-stage_all.ensures.ok.honest ∙ h));
      there = c.requires.there;
    }

pub discard-requires : goal.discard-requires
discard-requires g c =
    let first = c.args.own.now in
    let staged = c.stage_all.new.own in
    let mid = c.settle-reply.new.own in
    let same = same_then first staged mid c.in-Ok-stage_all.ensures.same c.settle-reply.ensures.same in
    record {
      there = ap (λ r. contains_key mid.vault.now.tenants r.now) same.tenant ∙ c.settle-reply.ensures.own.there first.tenant.now ∙ c.stage_all.ensures.own.there first.tenant.now ∙ c.requires.ready.there;
    }

pub returns-clause-row : goal.returns-clause-row
returns-clause-row g c rest was here honest =
    let first = c.args.own.now in
    let staged = c.stage_all.new.own in
    let mid = c.settle-reply.new.own in
    let new = c.discard.new.own in
    let sent = c.args.body.objects.items in
    let changes = c.in-Ok-stage_all.ensures.ok in
    let same = c.in-Ok-stage_all.ensures.same in
    let seen = seen_kept first.vault.now staged.vault.now first.tenant.now (with_all_staged sent) (all_staged_seen sent) changes in
    let named = c.in-Ok.ensures ∙ ap (map_list object_name) c.as_slice.ensures.value in
    let still : visible_in new.vault.now first.tenant.now ≡ visible_in mid.vault.now first.tenant.now =
    of_first first mid (λ t. visible_in new.vault.now t ≡ visible_in mid.vault.now t) (same_then first staged mid same c.settle-reply.ensures.same) c.discard.ensures.still in
    yields_from c.args.repositories.now c.settle-reply.new.repositories (visible_by staged) (visible_by first) (visible_in mid.vault.now staged.tenant.now) (visible_in new.vault.now first.tenant.now) rest c.args.limit c.args.name was
    (Ok (c.args.body.commands.items, sent)) c.settle-reply.result
    (ap (λ r. visible_in staged.vault.now r.now) same.tenant ∙ seen.exact honest) (ap (λ r. visible_in mid.vault.now r.now) same.tenant ∙ sym still)
    (c.settle-reply.ensures.row rest sent was here (changes.honest ∙ honest) named (sent_beside first staged sent same honest c.requires.quiet changes))

pub returns-clause-safe : goal.returns-clause-safe
returns-clause-safe g c rest =
    let first = c.args.own.now in
    let staged = c.stage_all.new.own in
    let mid = c.settle-reply.new.own in
    let new = c.discard.new.own in
    let sent = c.args.body.objects.items in
    let repositories = c.args.repositories.now in
    let changes = c.in-Ok-stage_all.ensures.ok in
    let same = c.in-Ok-stage_all.ensures.same in
    let seen = seen_kept first.vault.now staged.vault.now first.tenant.now (with_all_staged sent) (all_staged_seen sent) changes in
    let still : visible_in new.vault.now first.tenant.now ≡ visible_in mid.vault.now first.tenant.now =
    of_first first mid (λ t. visible_in new.vault.now t ≡ visible_in mid.vault.now t) (same_then first staged mid same c.settle-reply.ensures.same) c.discard.ensures.still in
    let reply = c.settle-reply.result in
    subst (λ objects. IsSafe (IsBounded sent first.vault.now new.vault.now) (view_of rest repositories (visible_by first) c.args.limit) reply (view_of rest c.settle-reply.new.repositories objects c.args.limit))
    (ap (λ r. visible_in mid.vault.now r.now) same.tenant ∙ sym still)
    (safe_from (IsBounded sent first.vault.now new.vault.now) (IsBounded sent staged.vault.now mid.vault.now) repositories (visible_by first) (visible_by staged) rest c.args.limit reply _
    (ap (λ r. measures_of (visible_in staged.vault.now r.now)) same.tenant ∙ seen.shape)
    (λ bounded. bounded_left sent first.vault.now mid.vault.now new.vault.now reply (bounded_after sent first.vault.now staged.vault.now mid.vault.now reply c.in-Ok-stage_all.ensures.gains bounded) c.discard.ensures.store)
    (c.settle-reply.ensures.safe rest sent))

pub returns-clause-own : goal.returns-clause-own
returns-clause-own g c =
    let first = c.args.own.now in
    let staged = c.stage_all.new.own in
    let mid = c.settle-reply.new.own in
    let new = c.discard.new.own in
    let same = c.in-Ok-stage_all.ensures.same in
    let both = same_then first staged mid same c.settle-reply.ensures.same in
    let t = first.tenant.now in
    let names = sent_names c.args.body.objects.items in
    record {
      same = same_then first mid new both c.discard.ensures.same;
      own = own_then t first.vault.now staged.vault.now new.vault.now c.stage_all.ensures.own
          (own_then t staged.vault.now mid.vault.now new.vault.now (of_first first staged (λ t. IsOwn t staged.vault.now mid.vault.now) same c.settle-reply.ensures.own)
          (of_first first mid (λ t. IsOwn t mid.vault.now new.vault.now) both c.discard.ensures.own));
      grows = grows_then names first.vault.now.places staged.vault.now.places new.vault.now.places c.stage_all.ensures.grows (grows_same names staged.vault.now.places new.vault.now.places (c.discard.ensures.store.places ∙ c.settle-reply.ensures.places));
      staged = still_none first.vault.now new.vault.now t c.requires.quiet (of_first first mid (λ t. staged_in new.vault.now t ≡ empty) both c.discard.ensures.none);
    }

pub returns-then-is_done-clause-row : goal.returns-then-is_done-clause-row
returns-then-is_done-clause-row g c rest was here honest =
    let first = c.args.own.now in
    let staged = c.stage_all.new.own in
    let mid = c.settle-reply.new.own in
    let sent = c.args.body.objects.items in
    let changes = c.in-Ok-stage_all.ensures.ok in
    let same = c.in-Ok-stage_all.ensures.same in
    let seen = seen_kept first.vault.now staged.vault.now first.tenant.now (with_all_staged sent) (all_staged_seen sent) changes in
    let named = c.in-Ok.ensures ∙ ap (map_list object_name) c.as_slice.ensures.value in
    yields_from c.args.repositories.now c.settle-reply.new.repositories (visible_by staged) (visible_by first) (visible_in mid.vault.now staged.tenant.now) (visible_in mid.vault.now first.tenant.now) rest c.args.limit c.args.name was
    (Ok (c.args.body.commands.items, sent)) c.settle-reply.result
    (ap (λ r. visible_in staged.vault.now r.now) same.tenant ∙ seen.exact honest) (ap (λ r. visible_in mid.vault.now r.now) same.tenant)
    (c.settle-reply.ensures.row rest sent was here (changes.honest ∙ honest) named (sent_beside first staged sent same honest c.requires.quiet changes))

pub returns-then-is_done-clause-safe : goal.returns-then-is_done-clause-safe
returns-then-is_done-clause-safe g c rest =
    let first = c.args.own.now in
    let staged = c.stage_all.new.own in
    let mid = c.settle-reply.new.own in
    let sent = c.args.body.objects.items in
    let repositories = c.args.repositories.now in
    let same = c.in-Ok-stage_all.ensures.same in
    let seen = seen_kept first.vault.now staged.vault.now first.tenant.now (with_all_staged sent) (all_staged_seen sent) c.in-Ok-stage_all.ensures.ok in
    let reply = c.settle-reply.result in
    subst (λ objects. IsSafe (IsBounded sent first.vault.now mid.vault.now) (view_of rest repositories (visible_by first) c.args.limit) reply (view_of rest c.settle-reply.new.repositories objects c.args.limit))
    (ap (λ r. visible_in mid.vault.now r.now) same.tenant)
    (safe_from (IsBounded sent first.vault.now mid.vault.now) (IsBounded sent staged.vault.now mid.vault.now) repositories (visible_by first) (visible_by staged) rest c.args.limit reply _
    (ap (λ r. measures_of (visible_in staged.vault.now r.now)) same.tenant ∙ seen.shape)
    (bounded_after sent first.vault.now staged.vault.now mid.vault.now reply c.in-Ok-stage_all.ensures.gains)
    (c.settle-reply.ensures.safe rest sent))

pub returns-then-is_done-clause-own : goal.returns-then-is_done-clause-own
returns-then-is_done-clause-own g c =
    let first = c.args.own.now in
    let staged = c.stage_all.new.own in
    let mid = c.settle-reply.new.own in
    let same = c.in-Ok-stage_all.ensures.same in
    let t = first.tenant.now in
    let names = sent_names c.args.body.objects.items in
    record {
      same = same_then first staged mid same c.settle-reply.ensures.same;
      own = own_then t first.vault.now staged.vault.now mid.vault.now c.stage_all.ensures.own (of_first first staged (λ t. IsOwn t staged.vault.now mid.vault.now) same c.settle-reply.ensures.own);
      grows = grows_then names first.vault.now.places staged.vault.now.places mid.vault.now.places c.stage_all.ensures.grows (grows_same names staged.vault.now.places mid.vault.now.places c.settle-reply.ensures.places);
      staged = still_none first.vault.now mid.vault.now t c.requires.quiet (of_first first staged (λ t. staged_in mid.vault.now t ≡ empty) same (c.settle-reply.ensures.none (sym c.is_done.ensures ∙ c.if-is_done.true)));
    }
