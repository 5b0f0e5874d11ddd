use Rattle.std.proofs.Common.{IsTrue, List, ℕ, [], cond, inl, nat_eq, refl, rules, ap, ap₂, subst, ◌∙◌}
use Rattle.std.specs.FinMap.{retain_keys}
use Rattle.fork_reach.specs.Objects.{measures_of}
use Rattle.fork_reach.specs.Reach.{is_reached, linked_names}
use Rattle.fork_request.specs.Told.{is_host_fault}
use Rattle.fork_request.specs.declared.host_fault.HostFault.TheVariants.{Memory}
use Rattle.fork_request.specs.declared.reply.Reply.TheVariants.{Done, Unchanged}
use Rattle.fork_ledger.specs.Tenants.{VaultState}
use Rattle.fork_model.proofs.KeptLemmas.{use_of-kept}
use Rattle.fork_model.specs.Answer.{pruned_reply}
use Rattle.looks.proofs.GrowthLemmas.{grows_same}
use Rattle.fork_host.specs.Handle.{visible_by}
use Rattle.fork_host.specs.Own.{visible_in}
use Rattle.fork_host.specs.Rows.{IsPruned, KeepsObjects, Kept, Pruned, Unkept, Unpruned}
use Rattle.fork_host.proofs.BoundLemmas.{bounded_gains, gains_left}
use Rattle.fork_host.proofs.OwnLemmas.{kept, own_of, staged_kept, seen_itself, seen_measures}
use Rattle.fork_host.proofs.PruneLemmas.{either_fine, pruned_told}
use Rattle.fork_host.proofs.pruning.keep_reached.Goals as goal

pub returns-then-is_done-clause-kept : goal.returns-then-is_done-clause-kept
returns-then-is_done-clause-kept g c honest =
    let first = c.args.own.now in
    let new = c.retain_reached.new.self in
    let is = c.in-Ok.ensures.retained (search rules) in
    let names = is.reached in
    let changes = kept first.vault.now first.vault.now new.vault.now first.tenant.now names c.requires.there refl (λ h. refl) refl is.tenants c.retain_reached.ensures.store.honest in
    let left = retain_keys (visible_by first) names in
    let reply = c.done_or_unchanged.ensures ∙ ap₂ (λ a b. cond (nat_eq a b) Unchanged (Done [])) c.used.ensures c.used-before.ensures
    ∙ pruned_told (visible_by first) (visible_by first) left (visible_by new) refl (ap (λ r. measures_of (visible_in new.vault.now r.now)) c.retain_reached.ensures.same.tenant ∙ seen_measures first.vault.now new.vault.now first.tenant.now left changes) (use_of-kept (visible_by first) names) c.requires.within in
    let reached = ap (retain_keys (visible_by first)) (λ i name. is.all honest name i) in
    Kept
    (reply ∙ ap (pruned_reply (visible_by first)) reached)
    (seen_itself first.vault.now new.vault.now first.tenant.now left changes honest ∙ reached)

pub returns-then-is_done-clause-pruned : goal.returns-then-is_done-clause-pruned
returns-then-is_done-clause-pruned g c =
    let first = c.args.own.now in
    let new = c.retain_reached.new.self in
    let is = c.in-Ok.ensures.retained (search rules) in
    let names = is.reached in
    let changes = kept first.vault.now first.vault.now new.vault.now first.tenant.now names c.requires.there refl (λ h. refl) refl is.tenants c.retain_reached.ensures.store.honest in
    let left = retain_keys (visible_by first) names in
    let reply = c.done_or_unchanged.ensures ∙ ap₂ (λ a b. cond (nat_eq a b) Unchanged (Done [])) c.used.ensures c.used-before.ensures
    ∙ pruned_told (visible_by first) (visible_by first) left (visible_by new) refl (ap (λ r. measures_of (visible_in new.vault.now r.now)) c.retain_reached.ensures.same.tenant ∙ seen_measures first.vault.now new.vault.now first.tenant.now left changes) (use_of-kept (visible_by first) names) c.requires.within in
    Pruned names reply (seen_measures first.vault.now new.vault.now first.tenant.now left changes) is.rooted

pub returns-then-is_done-clause-bounds : goal.returns-then-is_done-clause-bounds
returns-then-is_done-clause-bounds g c =
    let first = c.args.own.now.vault.now in
    let new = c.retain_reached.new.self.vault.now in
    bounded_gains [] first new c.done_or_unchanged.result (gains_left [] first new c.retain_reached.ensures.store) (inl (ap is_host_fault c.done_or_unchanged.ensures ∙ either_fine (nat_eq c.used.result c.used-before.result)))

pub returns-then-is_done-clause-own : goal.returns-then-is_done-clause-own
returns-then-is_done-clause-own g c =
    let first = c.args.own.now in
    let new = c.retain_reached.new.self in
    let is = c.in-Ok.ensures.retained (search rules) in
    let names = is.reached in
    let changes = kept first.vault.now first.vault.now new.vault.now first.tenant.now names c.requires.there refl (λ h. refl) refl is.tenants c.retain_reached.ensures.store.honest in
    record {
      same = c.retain_reached.ensures.same;
      own = own_of first.vault.now new.vault.now first.tenant.now changes;
      grows = grows_same [] first.vault.now.places new.vault.now.places c.retain_reached.ensures.store.places;
      staged = staged_kept first.vault.now new.vault.now first.tenant.now changes (λ p has. has.stages);
    }

pub returns-in_default-clause-kept : goal.returns-in_default-clause-kept
returns-in_default-clause-kept g c honest = Unkept Memory refl (ap (λ (v : VaultState). visible_in v c.args.own.now.tenant.now) c.in_default.ensures.err)

pub returns-in_default-clause-pruned : goal.returns-in_default-clause-pruned
returns-in_default-clause-pruned g c = Unpruned Memory refl (ap (λ (v : VaultState). measures_of (visible_in v c.args.own.now.tenant.now)) c.in_default.ensures.err)

pub returns-clause-kept : goal.returns-clause-kept
returns-clause-kept g c =
    let same = c.in-Ok.ensures.kept (search rules) in
    let for = c.retain_reached.ensures.same.tenant in
    subst (λ (p : VaultState × List ℕ). IsTrue p.0.honest
    → KeepsObjects (retain_keys (visible_in p.0 p.1) (is_reached (linked_names (visible_in p.0 p.1)) (visible_in p.0 p.1) c.args.roots.now)) (visible_in p.0 p.1) c.walk_and_keep.result (visible_in c.walk_and_keep.new.own.vault.now p.1))
    (λ i. (same i, (for i).now)) c.walk_and_keep.ensures.kept

pub returns-clause-pruned : goal.returns-clause-pruned
returns-clause-pruned g c =
    let same = c.in-Ok.ensures.kept (search rules) in
    let for = c.retain_reached.ensures.same.tenant in
    subst (λ (p : VaultState × List ℕ). IsPruned c.args.roots.now (visible_in p.0 p.1) c.walk_and_keep.result (visible_in c.walk_and_keep.new.own.vault.now p.1)) (λ i. (same i, (for i).now)) c.walk_and_keep.ensures.pruned
