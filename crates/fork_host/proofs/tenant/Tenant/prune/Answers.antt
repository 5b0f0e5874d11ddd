use Rattle.std.proofs.Common.{◌++◌, [], ap, subst, sym, ◌∙◌}
use Rattle.std.specs.Option.{option_map}
use Rattle.std.specs.FinMap.{retain_keys}
use Rattle.fork_ledger.specs.Tenants.{private_of}
use Rattle.fork_reach.specs.Reach.{is_reached, linked_names}
use Rattle.fork_model.specs.Answer.{prune_answer, roots_of, targets_of}
use Rattle.fork_model.specs.Uploads.{upload_among}
use Rattle.fork_host.specs.Bounds.{IsBounded}
use Rattle.fork_host.specs.Handle.{shown_by, visible_by}
use Rattle.fork_host.specs.Own.{visible_in}
use Rattle.fork_host.specs.Rows.{KeepsObjects, IsPruned}
use Rattle.fork_host.specs.Shown.{shown}
use Rattle.fork_host.proofs.MadeLemmas.{plain_as, same_made, targets_shown}
use Rattle.fork_host.proofs.RowLemmas.{yields_kept, yields_plain}
use Rattle.fork_host.proofs.SafeLemmas.{alike_shown, safe_pruned}
use Rattle.fork_host.proofs.tenant.Tenant.prune.Goals as goal

pub returns-clause-safe : goal.returns-clause-safe
returns-clause-safe g c =
    let account = c.args.self.now in
    let first = c.args.own.now in
    let new = c.keep_reached.new.own in
    safe_pruned (IsBounded [] first.vault.now new.vault.now) (shown_by account first) (visible_in new.vault.now first.tenant.now) (shown account new.vault.now first.tenant.now) c.keep_reached.result
    (alike_shown account (private_of first.vault.now.tenants first.tenant.now) (private_of new.vault.now.tenants first.tenant.now)) c.keep_reached.ensures.bounds
    (subst (λ roots. IsPruned roots (visible_by first) c.keep_reached.result (visible_in new.vault.now first.tenant.now)) (c.as_slice.ensures.value ∙ c.in-Ok.ensures ∙ ap (λ targets. targets_of account.repositories ++ targets) (sym (targets_shown (visible_by first) account.made))) c.keep_reached.ensures.pruned)

pub returns-clause-row : goal.returns-clause-row
unfolding prune_answer
returns-clause-row g c honest =
    let account = c.args.self.now in
    let first = c.args.own.now in
    let seen = visible_by first in
    let new = c.keep_reached.new.own in
    let view = shown_by account first in
    let now = shown account new.vault.now first.tenant.now in
    let objects = visible_in new.vault.now first.tenant.now in
    yields_plain (prune_answer view) view (record view { objects = objects }) now c.keep_reached.result
    (plain_as view now (ap (λ staged. option_map (upload_among staged) account.upload) (c.keep_reached.ensures.own.staged.exact honest)) (same_made account.made seen objects))
    (yields_kept view (retain_keys seen (is_reached (linked_names seen) seen (roots_of view))) objects c.keep_reached.result
    (subst (λ roots. KeepsObjects (retain_keys seen (is_reached (linked_names seen) seen roots)) seen c.keep_reached.result objects) (c.as_slice.ensures.value ∙ c.in-Ok.ensures ∙ ap (λ targets. targets_of account.repositories ++ targets) (sym (targets_shown (visible_by first) account.made))) (c.keep_reached.ensures.kept honest)))
