use Rattle.std.proofs.Common.{inl, ap, refl, subst, sym, ◌∙◌}
use Rattle.std.specs.FinMap.{contains_key, get, insert}
use Rattle.fork_reach.specs.Objects.{Measures, with_objects}
use Rattle.fork_request.specs.declared.reply.Reply.TheVariants.{Failed, Refused}
use Rattle.fork_ledger.specs.Private.{both_of}
use Rattle.fork_ledger.specs.Tenants.{private_of}
use Rattle.fork_ledger.proofs.BothLemmas.{same_measures, same_tenants_there}
use Rattle.fork_host.specs.Bounds.{IsBounded}
use Rattle.fork_host.specs.Handle.{both_by, visible_by}
use Rattle.fork_host.specs.Own.{IsOwn, visible_in}
use Rattle.fork_host.specs.Pushed.{IsTaken}
use Rattle.fork_host.specs.Rows.{fault_told}
use Rattle.fork_host.proofs.BoundLemmas.{bounded_gains, bounded_read, gains_left, gains_read, gains_then}
use Rattle.fork_host.proofs.HandleLemmas.{of_first, same_then}
use Rattle.fork_host.proofs.OwnLemmas.{own_read, own_then, staged_read, staged_then}
use Rattle.fork_host.proofs.SafeLemmas.{alike_itself, safe_left}
use Rattle.fork_host.proofs.TakingLemmas.{gives_nothing, gives_refused, gives_taken, judged_by, quiet_taken, staged_taken, taken_safe}
use Rattle.fork_host.proofs.UpdateLemmas.{found}
use Rattle.fork_host.proofs.taking.settle.Goals as goal

pub accept-requires : goal.accept-requires
accept-requires g c =
    let first = c.args.own.now in
    let mid = c.verdict.new.own in
    record { there = ap (λ r. contains_key mid.vault.now.tenants r.now) c.verdict.ensures.same.tenant ∙ same_tenants_there first.vault.now.tenants mid.vault.now.tenants first.tenant.now c.verdict.ensures.shape ∙ c.requires.ready.there; repository = c.requires.there }

pub returns-in-Accepted-clause-row : goal.returns-in-Accepted-clause-row
returns-in-Accepted-clause-row g c rest sent was here honest named beside =
    let first = c.args.own.now in
    let mid = c.verdict.new.own in
    let new = c.accept.new.own in
    let repositories = c.args.repositories.now in
    let kept = c.verdict.ensures.kept honest in
    let taken = of_first first mid (λ t. IsTaken t (insert repositories c.args.name (record was { references = c.in-Accepted.new })) mid.vault.now c.accept.result c.accept.new.repositories new.vault.now) c.verdict.ensures.same (c.accept.ensures.taken was here) in
    gives_taken mid.vault.now new.vault.now first.tenant.now repositories c.accept.new.repositories (visible_by first) (with_objects (visible_by first) sent) rest c.args.limit c.args.name was c.in-Accepted.new _ c.accept.result
    (ap (λ m. both_of (private_of m first.tenant.now)) kept ∙ beside)
    (judged_by (visible_by first) (both_by first) sent c.args.brief.names.items was.references c.args.limit c.args.brief.commands.items named beside ∙ c.in-Accepted.ensures.judged was here honest) taken

pub returns-in-Accepted-clause-safe : goal.returns-in-Accepted-clause-safe
returns-in-Accepted-clause-safe g c rest sent =
    let first = c.args.own.now in
    let mid = c.verdict.new.own in
    let new = c.accept.new.own in
    let repositories = c.args.repositories.now in
    let here = found (get repositories c.args.name) c.requires.there in
    let set = insert repositories c.args.name (record here.0 { references = c.in-Accepted.new }) in
    let taken = of_first first mid (λ t. IsTaken t set mid.vault.now c.accept.result c.accept.new.repositories new.vault.now) c.verdict.ensures.same (c.accept.ensures.taken here.0 here.1) in
    let gains = gains_then sent first.vault.now mid.vault.now new.vault.now (gains_read sent first.vault.now mid.vault.now c.in-Accepted.ensures.read) (gains_left sent mid.vault.now new.vault.now c.accept.ensures.store) in
    taken_safe (IsBounded sent first.vault.now new.vault.now) first.vault.now mid.vault.now new.vault.now first.tenant.now repositories c.accept.new.repositories rest c.args.limit c.args.name here.0 c.in-Accepted.new c.accept.result
    (bounded_gains sent first.vault.now new.vault.now c.accept.result gains (quiet_taken mid.vault.now new.vault.now first.tenant.now set c.accept.new.repositories c.accept.result taken)) here.1 c.verdict.ensures.shape
    (c.in-Accepted.ensures.accepted here.0 here.1) taken

pub returns-in-Accepted-clause-own : goal.returns-in-Accepted-clause-own
returns-in-Accepted-clause-own g c =
    let first = c.args.own.now in
    let mid = c.verdict.new.own in
    let new = c.accept.new.own in
    own_then first.tenant.now first.vault.now mid.vault.now new.vault.now (own_read first.vault.now mid.vault.now first.tenant.now c.verdict.ensures.shape c.verdict.ensures.kept c.verdict.ensures.read.honest)
    (of_first first mid (λ t. IsOwn t mid.vault.now new.vault.now) c.verdict.ensures.same c.accept.ensures.own)

pub returns-in-Accepted-clause-kept : goal.returns-in-Accepted-clause-kept
returns-in-Accepted-clause-kept g c not_done =
    let first = c.args.own.now in
    let mid = c.verdict.new.own in
    let new = c.accept.new.own in
    let repositories = c.args.repositories.now in
    let here = found (get repositories c.args.name) c.requires.there in
    let set = insert repositories c.args.name (record here.0 { references = c.in-Accepted.new }) in
    let taken = of_first first mid (λ t. IsTaken t set mid.vault.now c.accept.result c.accept.new.repositories new.vault.now) c.verdict.ensures.same (c.accept.ensures.taken here.0 here.1) in
    staged_then first.tenant.now first.vault.now mid.vault.now new.vault.now c.verdict.ensures.read.honest (staged_read first.vault.now mid.vault.now first.tenant.now c.verdict.ensures.shape c.verdict.ensures.kept)
    (staged_taken mid.vault.now new.vault.now first.tenant.now set c.accept.new.repositories c.accept.result not_done taken)

pub returns-in-Accepted-clause-same : goal.returns-in-Accepted-clause-same
returns-in-Accepted-clause-same g c = same_then c.args.own.now c.verdict.new.own c.accept.new.own c.verdict.ensures.same c.accept.ensures.same

pub returns-in-Refused-clause-row : goal.returns-in-Refused-clause-row
returns-in-Refused-clause-row g c rest sent was here honest named beside =
    let first = c.args.own.now in
    let mid = c.verdict.new.own in
    gives_refused c.args.repositories.now (visible_by first) (with_objects (visible_by first) sent) (visible_in mid.vault.now first.tenant.now) rest c.args.limit c.args.name was c.in-Refused.refusal _ _
    (judged_by (visible_by first) (both_by first) sent c.args.brief.names.items was.references c.args.limit c.args.brief.commands.items named beside ∙ c.in-Refused.ensures.judged was here honest)
    (ap (λ r. Refused r) c.push_refusal.ensures) (ap (λ m. (private_of m first.tenant.now).visible) (c.verdict.ensures.kept honest))

pub returns-in-Refused-clause-safe : goal.returns-in-Refused-clause-safe
returns-in-Refused-clause-safe g c rest sent =
    let first = c.args.own.now in
    let mid = c.verdict.new.own in
    safe_left (IsBounded sent first.vault.now mid.vault.now) c.args.repositories.now c.args.repositories.now (visible_by first) (visible_in mid.vault.now first.tenant.now) rest rest c.args.limit _ refl
    (ap (λ (p : Measures × Measures). p.0) (same_measures first.vault.now.tenants mid.vault.now.tenants first.tenant.now c.verdict.ensures.shape)) (alike_itself rest)
    (bounded_gains sent first.vault.now mid.vault.now _ (gains_read sent first.vault.now mid.vault.now c.in-Refused.ensures.read) (inl refl))

pub returns-in-Refused-clause-own : goal.returns-in-Refused-clause-own
returns-in-Refused-clause-own g c = own_read c.args.own.now.vault.now c.verdict.new.own.vault.now c.args.own.now.tenant.now c.verdict.ensures.shape c.verdict.ensures.kept c.verdict.ensures.read.honest

pub returns-in-Refused-clause-kept : goal.returns-in-Refused-clause-kept
returns-in-Refused-clause-kept g c not_done = staged_read c.args.own.now.vault.now c.verdict.new.own.vault.now c.args.own.now.tenant.now c.verdict.ensures.shape c.verdict.ensures.kept

pub returns-in-Refused-clause-same : goal.returns-in-Refused-clause-same
returns-in-Refused-clause-same g c = c.verdict.ensures.same

pub returns-clause-row : goal.returns-clause-row
returns-clause-row g c rest sent was here honest named beside =
    let first = c.args.own.now in
    let mid = c.verdict.new.own in
    gives_nothing _ c.args.repositories.now (visible_by first) (visible_in mid.vault.now first.tenant.now) rest c.args.limit (fault_told c.in-Failed.fault) _
    (ap (λ f. Failed f) c.host_fault.ensures) (ap (λ m. (private_of m first.tenant.now).visible) (c.verdict.ensures.kept honest))

pub returns-clause-safe : goal.returns-clause-safe
returns-clause-safe g c rest sent =
    let first = c.args.own.now in
    let mid = c.verdict.new.own in
    safe_left (IsBounded sent first.vault.now mid.vault.now) c.args.repositories.now c.args.repositories.now (visible_by first) (visible_in mid.vault.now first.tenant.now) rest rest c.args.limit _ refl
    (ap (λ (p : Measures × Measures). p.0) (same_measures first.vault.now.tenants mid.vault.now.tenants first.tenant.now c.verdict.ensures.shape)) (alike_itself rest)
    (subst (λ fault. IsBounded sent first.vault.now mid.vault.now (Failed fault)) (sym c.host_fault.ensures) (bounded_read sent first.vault.now mid.vault.now c.in-Failed.fault c.in-Failed.ensures.read))

pub returns-clause-own : goal.returns-clause-own
returns-clause-own g c = own_read c.args.own.now.vault.now c.verdict.new.own.vault.now c.args.own.now.tenant.now c.verdict.ensures.shape c.verdict.ensures.kept c.verdict.ensures.read.honest

pub returns-clause-kept : goal.returns-clause-kept
returns-clause-kept g c not_done = staged_read c.args.own.now.vault.now c.verdict.new.own.vault.now c.args.own.now.tenant.now c.verdict.ensures.shape c.verdict.ensures.kept

pub returns-clause-same : goal.returns-clause-same
returns-clause-same g c = c.verdict.ensures.same

pub returns-in-Accepted-clause-places : goal.returns-in-Accepted-clause-places
returns-in-Accepted-clause-places g c = c.accept.ensures.store.places ∙ c.in-Accepted.ensures.read.places
