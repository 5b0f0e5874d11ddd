use Rattle.std.proofs.Common.{[], cond, inl, nat_eq, ap, ap₂, subst, sym, ◌∙◌}
use Rattle.std.specs.HashSet.{contains}
use Rattle.std.specs.FinMap.{retain_keys}
use Rattle.git_name.specs.Same.{same_name}
use Rattle.fork_reach.specs.Objects.{Measures, measures_of}
use Rattle.fork_request.specs.Told.{is_host_fault}
use Rattle.fork_request.specs.declared.reply.Reply.TheVariants.{Done, Unchanged, Failed}
use Rattle.fork_ledger.specs.Private.{with_kept}
use Rattle.fork_ledger.specs.Tenants.{at_tenant, private_of}
use Rattle.fork_ledger.proofs.BothLemmas.{same_measures}
use Rattle.looks.proofs.GrowthLemmas.{grows_same}
use Rattle.fork_model.proofs.KeptLemmas.{use_of-kept}
use Rattle.fork_model.specs.Answer.{pruned_reply}
use Rattle.fork_host.specs.Bounds.{IsBounded}
use Rattle.fork_host.specs.Handle.{visible_by}
use Rattle.fork_host.specs.Own.{visible_in}
use Rattle.fork_host.specs.Rows.{Kept, Unkept, Pruned, Unpruned, fault_told}
use Rattle.fork_host.proofs.BoundLemmas.{bounded_gains, bounded_read, gains_left, gains_read, gains_then}
use Rattle.fork_host.proofs.HandleLemmas.{same_then}
use Rattle.fork_host.proofs.OwnLemmas.{kept, own_of, staged_kept, seen_itself, seen_measures}
use Rattle.fork_host.proofs.PruneLemmas.{either_fine, pruned_told}
use Rattle.fork_host.proofs.SafeLemmas.{read_uses}
use Rattle.fork_host.proofs.pruning.walk_and_keep.Goals as goal

pub returns-in-Ok-clause-kept : goal.returns-in-Ok-clause-kept
returns-in-Ok-clause-kept g c honest =
    let first = c.args.own.now in
    let mid = c.reached.new.self in
    let new = c.keep_only.new.self in
    let names = contains same_name c.in-Ok.names in
    let told = c.in-Ok.ensures in
    let set = c.keep_only.ensures.tenants ∙ ap (λ r. at_tenant mid.vault.now.tenants r.now (with_kept names)) told.same.tenant in
    let changes = kept first.vault.now mid.vault.now new.vault.now first.tenant.now names c.requires.there told.shape told.kept told.read.honest set c.keep_only.ensures.store.honest in
    let left = retain_keys (visible_by first) names in
    let same = ap (λ r. measures_of (visible_in mid.vault.now r.now)) told.same.tenant ∙ ap (λ (p : Measures × Measures). p.0) (same_measures first.vault.now.tenants mid.vault.now.tenants first.tenant.now told.shape) in
    let stays = same_then first mid new told.same c.keep_only.ensures.same in
    let reply = c.done_or_unchanged.ensures ∙ ap₂ (λ a b. cond (nat_eq a b) Unchanged (Done [])) c.used.ensures c.used-before.ensures
    ∙ pruned_told (visible_by first) (visible_by mid) left (visible_by new) same (ap (λ r. measures_of (visible_in new.vault.now r.now)) stays.tenant ∙ seen_measures first.vault.now new.vault.now first.tenant.now left changes) (use_of-kept (visible_by first) names) c.requires.within in
    let reached = ap (retain_keys (visible_by first)) (λ i name. told.found honest name i) in
    Kept
    (reply ∙ ap (pruned_reply (visible_by first)) reached)
    (seen_itself first.vault.now new.vault.now first.tenant.now left changes honest ∙ reached)

pub returns-in-Ok-clause-pruned : goal.returns-in-Ok-clause-pruned
returns-in-Ok-clause-pruned g c =
    let first = c.args.own.now in
    let mid = c.reached.new.self in
    let new = c.keep_only.new.self in
    let names = contains same_name c.in-Ok.names in
    let told = c.in-Ok.ensures in
    let set = c.keep_only.ensures.tenants ∙ ap (λ r. at_tenant mid.vault.now.tenants r.now (with_kept names)) told.same.tenant in
    let changes = kept first.vault.now mid.vault.now new.vault.now first.tenant.now names c.requires.there told.shape told.kept told.read.honest set c.keep_only.ensures.store.honest in
    let left = retain_keys (visible_by first) names in
    let same = ap (λ r. measures_of (visible_in mid.vault.now r.now)) told.same.tenant ∙ ap (λ (p : Measures × Measures). p.0) (same_measures first.vault.now.tenants mid.vault.now.tenants first.tenant.now told.shape) in
    let stays = same_then first mid new told.same c.keep_only.ensures.same in
    let reply = c.done_or_unchanged.ensures ∙ ap₂ (λ a b. cond (nat_eq a b) Unchanged (Done [])) c.used.ensures c.used-before.ensures
    ∙ pruned_told (visible_by first) (visible_by mid) left (visible_by new) same (ap (λ r. measures_of (visible_in new.vault.now r.now)) stays.tenant ∙ seen_measures first.vault.now new.vault.now first.tenant.now left changes) (use_of-kept (visible_by first) names) c.requires.within in
    Pruned names reply (seen_measures first.vault.now new.vault.now first.tenant.now left changes) told.rooted

pub returns-in-Ok-clause-own : goal.returns-in-Ok-clause-own
returns-in-Ok-clause-own g c =
    let first = c.args.own.now in
    let mid = c.reached.new.self in
    let new = c.keep_only.new.self in
    let names = contains same_name c.in-Ok.names in
    let told = c.in-Ok.ensures in
    let set = c.keep_only.ensures.tenants ∙ ap (λ r. at_tenant mid.vault.now.tenants r.now (with_kept names)) told.same.tenant in
    let changes = kept first.vault.now mid.vault.now new.vault.now first.tenant.now names c.requires.there told.shape told.kept told.read.honest set c.keep_only.ensures.store.honest in
    record {
      same = same_then first mid new told.same c.keep_only.ensures.same;
      own = own_of first.vault.now new.vault.now first.tenant.now changes;
      grows = grows_same [] first.vault.now.places new.vault.now.places (c.keep_only.ensures.store.places ∙ told.read.places);
      staged = staged_kept first.vault.now new.vault.now first.tenant.now changes (λ p has. has.stages);
    }

pub returns-in-Err-clause-pruned : goal.returns-in-Err-clause-pruned
returns-in-Err-clause-pruned g c =
    let first = c.args.own.now in
    let mid = c.reached.new.self in
    Unpruned (fault_told c.in-Err.fault) (ap (λ f. Failed f) c.host_fault.ensures)
    (ap (λ (p : Measures × Measures). p.0) (same_measures first.vault.now.tenants mid.vault.now.tenants first.tenant.now c.in-Err.ensures.shape))

pub returns-in-Err-clause-own : goal.returns-in-Err-clause-own
returns-in-Err-clause-own g c = (let told = c.in-Err.ensures in read_uses c.args.own.now c.reached.new.self told.shape told.kept told.read.honest told.read.places told.same)

pub returns-in-Ok-clause-bounds : goal.returns-in-Ok-clause-bounds
returns-in-Ok-clause-bounds g c =
    let first = c.args.own.now.vault.now in
    let mid = c.reached.new.self.vault.now in
    let new = c.keep_only.new.self.vault.now in
    let gains = gains_then [] first mid new (gains_read [] first mid c.in-Ok.ensures.read) (gains_left [] mid new c.keep_only.ensures.store) in
    bounded_gains [] first new c.done_or_unchanged.result gains (inl (ap is_host_fault c.done_or_unchanged.ensures ∙ either_fine (nat_eq c.used.result c.used-before.result)))

pub returns-in-Err-clause-bounds : goal.returns-in-Err-clause-bounds
returns-in-Err-clause-bounds g c =
    let first = c.args.own.now.vault.now in
    let new = c.reached.new.self.vault.now in
    subst (λ fault. IsBounded [] first new (Failed fault)) (sym c.host_fault.ensures) (bounded_read [] first new c.in-Err.fault c.in-Err.ensures.read)

pub returns-in-Err-clause-kept : goal.returns-in-Err-clause-kept
returns-in-Err-clause-kept g c honest =
    Unkept (fault_told c.in-Err.fault) (ap (λ f. Failed f) c.host_fault.ensures) (ap (λ m. (private_of m c.args.own.now.tenant.now).visible) (c.in-Err.ensures.kept honest))
