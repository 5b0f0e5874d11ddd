use Rattle.fork_request.specs.Asked.{ask_of}
use Rattle.std.proofs.Common.{◌≡◌, [], ap, false, refl, subst, sym, true, ◌∙◌}
use Rattle.fork_model.specs.Context.{nothing_offered}
use Rattle.fork_model.specs.Disclosure.{changes_offers}
use Rattle.fork_model.specs.Answer.{answer, cat_file_answer, ls_tree_answer, offer_answer, withdraw_answer}
use Rattle.fork_ledger.specs.Tenants.{private_of}
use Rattle.fork_host.proofs.WholeLemmas.{others_gives, others_made}
use Rattle.fork_host.specs.Handle.{private_by, shown_by, staged_by}
use Rattle.fork_host.specs.Own.{staged_in}
use Rattle.fork_host.specs.Rows.{Gives, Yields}
use Rattle.fork_host.specs.Sent.{sent_by}
use Rattle.fork_host.specs.Shown.{shown}
use Rattle.fork_host.specs.Staged.{IsStaged}
use Rattle.fork_host.proofs.BoundLemmas.{bounded_left, bounded_still, quiet_row}
use Rattle.fork_host.proofs.HandleLemmas.{touched, touched_none, used}
use Rattle.fork_host.proofs.RowLemmas.{yields_of}
use Rattle.fork_host.proofs.SafeLemmas.{safe_gives}
use Rattle.fork_host.proofs.StagedLemmas.{staged_kept_still}
use Rattle.fork_host.proofs.tenant.Tenant.answer.Goals as goal

pub returns-in-Init-clause-row : goal.returns-in-Init-clause-row
unfolding answer
returns-in-Init-clause-row g c = record { yields = λ honest. yields_of _ _ _ _ (rw c.in-Init.is (c.init.ensures.row (private_by c.args.own.now))) }

pub returns-in-Init-clause-safe : goal.returns-in-Init-clause-safe
unfolding answer
returns-in-Init-clause-safe g c =
    let view = shown_by c.args.self.now c.args.own.now in
    let new = shown c.init.new.self c.args.own.now.vault.now c.args.own.now.tenant.now in
    let gives : Gives (answer (nothing_offered c.args.own.now.tenant.now) view (ask_of c.args.request)) view c.init.result new = rw c.in-Init.is (c.init.ensures.row (private_by c.args.own.now)) in
    safe_gives _ c.args.own.now.tenant.now view new (ask_of c.args.request) c.init.result (bounded_still (sent_by view (ask_of c.args.request)) c.args.own.now.vault.now c.init.result (quiet_row (nothing_offered c.args.own.now.tenant.now) view new (ask_of c.args.request) c.init.result gives)) gives

pub returns-in-Drop-clause-row : goal.returns-in-Drop-clause-row
unfolding answer
returns-in-Drop-clause-row g c = record { yields = λ honest. yields_of _ _ _ _ (rw c.in-Drop.is (c.drop_repository.ensures.row (private_by c.args.own.now))) }

pub returns-in-Drop-clause-safe : goal.returns-in-Drop-clause-safe
unfolding answer
returns-in-Drop-clause-safe g c =
    let view = shown_by c.args.self.now c.args.own.now in
    let new = shown c.drop_repository.new.self c.args.own.now.vault.now c.args.own.now.tenant.now in
    let gives : Gives (answer (nothing_offered c.args.own.now.tenant.now) view (ask_of c.args.request)) view c.drop_repository.result new = rw c.in-Drop.is (c.drop_repository.ensures.row (private_by c.args.own.now)) in
    safe_gives _ c.args.own.now.tenant.now view new (ask_of c.args.request) c.drop_repository.result (bounded_still (sent_by view (ask_of c.args.request)) c.args.own.now.vault.now c.drop_repository.result (quiet_row (nothing_offered c.args.own.now.tenant.now) view new (ask_of c.args.request) c.drop_repository.result gives)) gives

pub returns-in-Fork-clause-row : goal.returns-in-Fork-clause-row
unfolding answer
returns-in-Fork-clause-row g c = record { yields = λ honest. yields_of _ _ _ _ (rw c.in-Fork.is (c.fork.ensures.row (private_by c.args.own.now))) }

pub returns-in-Fork-clause-safe : goal.returns-in-Fork-clause-safe
unfolding answer
returns-in-Fork-clause-safe g c =
    let view = shown_by c.args.self.now c.args.own.now in
    let new = shown c.fork.new.self c.args.own.now.vault.now c.args.own.now.tenant.now in
    let gives : Gives (answer (nothing_offered c.args.own.now.tenant.now) view (ask_of c.args.request)) view c.fork.result new = rw c.in-Fork.is (c.fork.ensures.row (private_by c.args.own.now)) in
    safe_gives _ c.args.own.now.tenant.now view new (ask_of c.args.request) c.fork.result (bounded_still (sent_by view (ask_of c.args.request)) c.args.own.now.vault.now c.fork.result (quiet_row (nothing_offered c.args.own.now.tenant.now) view new (ask_of c.args.request) c.fork.result gives)) gives

pub returns-in-Part-clause-row : goal.returns-in-Part-clause-row
unfolding answer
returns-in-Part-clause-row g c = record { yields = λ honest. rw c.in-Part.is (c.part.ensures.row honest) }

pub returns-in-PartDrop-clause-row : goal.returns-in-PartDrop-clause-row
unfolding answer
returns-in-PartDrop-clause-row g c = record { yields = λ honest. yields_of _ _ _ _ (rw c.in-PartDrop.is c.part_drop.ensures.row) }

pub returns-in-PartDrop-clause-safe : goal.returns-in-PartDrop-clause-safe
unfolding answer
returns-in-PartDrop-clause-safe g c =
    let view = shown_by c.args.self.now c.args.own.now in
    let old = c.args.own.now.vault.now in
    let now = c.part_drop.new.own.vault.now in
    let new = shown c.part_drop.new.self now c.args.own.now.tenant.now in
    let sent = sent_by view (ask_of c.args.request) in
    let gives : Gives (answer (nothing_offered c.args.own.now.tenant.now) view (ask_of c.args.request)) view c.part_drop.result new = rw c.in-PartDrop.is c.part_drop.ensures.row in
    safe_gives _ c.args.own.now.tenant.now view new (ask_of c.args.request) c.part_drop.result
    (bounded_left sent old old now c.part_drop.result (bounded_still sent old c.part_drop.result (quiet_row (nothing_offered c.args.own.now.tenant.now) view new (ask_of c.args.request) c.part_drop.result gives)) c.part_drop.ensures.store) gives

pub returns-in-UpdateRefs-clause-row : goal.returns-in-UpdateRefs-clause-row
unfolding answer
returns-in-UpdateRefs-clause-row g c = record { yields = λ honest. yields_of _ _ _ _ (rw c.in-UpdateRefs.is c.update_refs.ensures.row) }

pub returns-in-UpdateRefs-clause-safe : goal.returns-in-UpdateRefs-clause-safe
unfolding answer
returns-in-UpdateRefs-clause-safe g c =
    let view = shown_by c.args.self.now c.args.own.now in
    let new = shown c.update_refs.new.self c.args.own.now.vault.now c.args.own.now.tenant.now in
    let gives : Gives (answer (nothing_offered c.args.own.now.tenant.now) view (ask_of c.args.request)) view c.update_refs.result new = rw c.in-UpdateRefs.is c.update_refs.ensures.row in
    safe_gives _ c.args.own.now.tenant.now view new (ask_of c.args.request) c.update_refs.result (bounded_still (sent_by view (ask_of c.args.request)) c.args.own.now.vault.now c.update_refs.result (quiet_row (nothing_offered c.args.own.now.tenant.now) view new (ask_of c.args.request) c.update_refs.result gives)) gives

pub returns-in-ForEachRef-clause-row : goal.returns-in-ForEachRef-clause-row
unfolding answer
returns-in-ForEachRef-clause-row g c = record { yields = λ honest. yields_of _ _ _ _ (rw c.in-ForEachRef.is c.for_each_ref.ensures) }

pub returns-in-ForEachRef-clause-safe : goal.returns-in-ForEachRef-clause-safe
unfolding answer
returns-in-ForEachRef-clause-safe g c =
    let view = shown_by c.args.self.now c.args.own.now in
    let new = shown c.args.self.now c.args.own.now.vault.now c.args.own.now.tenant.now in
    let gives : Gives (answer (nothing_offered c.args.own.now.tenant.now) view (ask_of c.args.request)) view c.for_each_ref.result new = rw c.in-ForEachRef.is c.for_each_ref.ensures in
    safe_gives _ c.args.own.now.tenant.now view new (ask_of c.args.request) c.for_each_ref.result (bounded_still (sent_by view (ask_of c.args.request)) c.args.own.now.vault.now c.for_each_ref.result (quiet_row (nothing_offered c.args.own.now.tenant.now) view new (ask_of c.args.request) c.for_each_ref.result gives)) gives

pub returns-in-SetHead-clause-row : goal.returns-in-SetHead-clause-row
unfolding answer
returns-in-SetHead-clause-row g c = record { yields = λ honest. yields_of _ _ _ _ (rw c.in-SetHead.is (c.set_head.ensures.row (private_by c.args.own.now))) }

pub returns-in-SetHead-clause-safe : goal.returns-in-SetHead-clause-safe
unfolding answer
returns-in-SetHead-clause-safe g c =
    let view = shown_by c.args.self.now c.args.own.now in
    let new = shown c.set_head.new.self c.args.own.now.vault.now c.args.own.now.tenant.now in
    let gives : Gives (answer (nothing_offered c.args.own.now.tenant.now) view (ask_of c.args.request)) view c.set_head.result new = rw c.in-SetHead.is (c.set_head.ensures.row (private_by c.args.own.now)) in
    safe_gives _ c.args.own.now.tenant.now view new (ask_of c.args.request) c.set_head.result (bounded_still (sent_by view (ask_of c.args.request)) c.args.own.now.vault.now c.set_head.result (quiet_row (nothing_offered c.args.own.now.tenant.now) view new (ask_of c.args.request) c.set_head.result gives)) gives

pub returns-in-Head-clause-row : goal.returns-in-Head-clause-row
unfolding answer
returns-in-Head-clause-row g c = record { yields = λ honest. yields_of _ _ _ _ (rw c.in-Head.is (c.head.ensures (private_by c.args.own.now))) }

pub returns-in-Repositories-clause-row : goal.returns-in-Repositories-clause-row
unfolding answer
returns-in-Repositories-clause-row g c = record { yields = λ honest. yields_of _ _ _ _ (rw c.in-Repositories.is (c.list_repositories.ensures (private_by c.args.own.now))) }

pub returns-in-Head-clause-safe : goal.returns-in-Head-clause-safe
unfolding answer
returns-in-Head-clause-safe g c =
    let view = shown_by c.args.self.now c.args.own.now in
    let new = shown c.args.self.now c.args.own.now.vault.now c.args.own.now.tenant.now in
    let gives : Gives (answer (nothing_offered c.args.own.now.tenant.now) view (ask_of c.args.request)) view c.head.result new = rw c.in-Head.is (c.head.ensures (private_by c.args.own.now)) in
    safe_gives _ c.args.own.now.tenant.now view new (ask_of c.args.request) c.head.result (bounded_still (sent_by view (ask_of c.args.request)) c.args.own.now.vault.now c.head.result (quiet_row (nothing_offered c.args.own.now.tenant.now) view new (ask_of c.args.request) c.head.result gives)) gives

pub returns-in-Repositories-clause-safe : goal.returns-in-Repositories-clause-safe
unfolding answer
returns-in-Repositories-clause-safe g c =
    let view = shown_by c.args.self.now c.args.own.now in
    let new = shown c.args.self.now c.args.own.now.vault.now c.args.own.now.tenant.now in
    let gives : Gives (answer (nothing_offered c.args.own.now.tenant.now) view (ask_of c.args.request)) view c.list_repositories.result new = rw c.in-Repositories.is (c.list_repositories.ensures (private_by c.args.own.now)) in
    safe_gives _ c.args.own.now.tenant.now view new (ask_of c.args.request) c.list_repositories.result (bounded_still (sent_by view (ask_of c.args.request)) c.args.own.now.vault.now c.list_repositories.result (quiet_row (nothing_offered c.args.own.now.tenant.now) view new (ask_of c.args.request) c.list_repositories.result gives)) gives

pub returns-in-Quota-clause-row : goal.returns-in-Quota-clause-row
unfolding answer
returns-in-Quota-clause-row g c = record { yields = λ honest. yields_of _ _ _ _ (rw c.in-Quota.is c.quota.ensures) }

pub returns-in-Quota-clause-safe : goal.returns-in-Quota-clause-safe
unfolding answer
returns-in-Quota-clause-safe g c =
    let view = shown_by c.args.self.now c.args.own.now in
    let new = shown c.args.self.now c.args.own.now.vault.now c.args.own.now.tenant.now in
    let gives : Gives (answer (nothing_offered c.args.own.now.tenant.now) view (ask_of c.args.request)) view c.quota.result new = rw c.in-Quota.is c.quota.ensures in
    safe_gives _ c.args.own.now.tenant.now view new (ask_of c.args.request) c.quota.result (bounded_still (sent_by view (ask_of c.args.request)) c.args.own.now.vault.now c.quota.result (quiet_row (nothing_offered c.args.own.now.tenant.now) view new (ask_of c.args.request) c.quota.result gives)) gives

pub returns-in-Push-clause-row : goal.returns-in-Push-clause-row
unfolding answer
returns-in-Push-clause-row g c = record { yields = λ honest. rw c.in-Push.is (c.push.ensures.row honest) }

pub returns-in-PartEnd-clause-row : goal.returns-in-PartEnd-clause-row
unfolding answer
returns-in-PartEnd-clause-row g c = record { yields = λ honest. rw c.in-PartEnd.is (c.part_end.ensures.row honest) }

pub returns-in-CatFile-clause-row : goal.returns-in-CatFile-clause-row
unfolding answer
returns-in-CatFile-clause-row g c = record { yields = λ honest. rw c.in-CatFile.is (subst (λ name. Yields (cat_file_answer (shown_by c.args.self.now c.args.own.now) name) (shown_by c.args.self.now c.args.own.now) c.cat_file.result (shown c.args.self.now c.cat_file.new.own.vault.now c.args.own.now.tenant.now)) c.new.ensures (c.cat_file.ensures.row honest)) }

pub returns-in-LsTree-clause-row : goal.returns-in-LsTree-clause-row
unfolding answer
returns-in-LsTree-clause-row g c = record { yields = λ honest. rw c.in-LsTree.is (subst (λ name. Yields (ls_tree_answer (shown_by c.args.self.now c.args.own.now) name) (shown_by c.args.self.now c.args.own.now) c.ls_tree.result (shown c.args.self.now c.ls_tree.new.own.vault.now c.args.own.now.tenant.now)) c.new-in-LsTree.ensures (c.ls_tree.ensures.row honest)) }

pub returns-in-RevList-clause-row : goal.returns-in-RevList-clause-row
unfolding answer
returns-in-RevList-clause-row g c = record { yields = λ honest. rw c.in-RevList.is (c.rev_list.ensures.row honest) }

pub returns-in-MergeBase-clause-row : goal.returns-in-MergeBase-clause-row
unfolding answer
returns-in-MergeBase-clause-row g c = record { yields = λ honest. rw c.in-MergeBase.is (c.merge_base.ensures.row honest) }

pub returns-in-Fetch-clause-row : goal.returns-in-Fetch-clause-row
unfolding answer
returns-in-Fetch-clause-row g c = record { yields = λ honest. rw c.in-Fetch.is (c.fetch.ensures.row honest) }

pub returns-in-Prune-clause-row : goal.returns-in-Prune-clause-row
unfolding answer
returns-in-Prune-clause-row g c = record { yields = λ honest. rw c.in-Prune.is (c.prune.ensures.row honest) }

pub returns-in-Init-clause-own : goal.returns-in-Init-clause-own
returns-in-Init-clause-own g c = touched_none _ c.args.own.now

pub returns-in-Init-clause-staged : goal.returns-in-Init-clause-staged
returns-in-Init-clause-staged g c = subst (λ upload. IsStaged c.args.own.now.vault.now.honest upload (staged_by c.args.own.now)) (sym c.init.ensures.upload) c.requires.staged

pub returns-in-Drop-clause-own : goal.returns-in-Drop-clause-own
returns-in-Drop-clause-own g c = touched_none _ c.args.own.now

pub returns-in-Drop-clause-staged : goal.returns-in-Drop-clause-staged
returns-in-Drop-clause-staged g c = subst (λ upload. IsStaged c.args.own.now.vault.now.honest upload (staged_by c.args.own.now)) (sym c.drop_repository.ensures.upload) c.requires.staged

pub returns-in-Fork-clause-own : goal.returns-in-Fork-clause-own
returns-in-Fork-clause-own g c = touched_none _ c.args.own.now

pub returns-in-Fork-clause-staged : goal.returns-in-Fork-clause-staged
returns-in-Fork-clause-staged g c = subst (λ upload. IsStaged c.args.own.now.vault.now.honest upload (staged_by c.args.own.now)) (sym c.fork.ensures.upload) c.requires.staged

pub returns-in-UpdateRefs-clause-own : goal.returns-in-UpdateRefs-clause-own
returns-in-UpdateRefs-clause-own g c = touched_none _ c.args.own.now

pub returns-in-UpdateRefs-clause-staged : goal.returns-in-UpdateRefs-clause-staged
returns-in-UpdateRefs-clause-staged g c = subst (λ upload. IsStaged c.args.own.now.vault.now.honest upload (staged_by c.args.own.now)) (sym c.update_refs.ensures.upload) c.requires.staged

pub returns-in-ForEachRef-clause-own : goal.returns-in-ForEachRef-clause-own
returns-in-ForEachRef-clause-own g c = touched_none _ c.args.own.now

pub returns-in-ForEachRef-clause-staged : goal.returns-in-ForEachRef-clause-staged
returns-in-ForEachRef-clause-staged g c = c.requires.staged

pub returns-in-SetHead-clause-own : goal.returns-in-SetHead-clause-own
returns-in-SetHead-clause-own g c = touched_none _ c.args.own.now

pub returns-in-SetHead-clause-staged : goal.returns-in-SetHead-clause-staged
returns-in-SetHead-clause-staged g c = subst (λ upload. IsStaged c.args.own.now.vault.now.honest upload (staged_by c.args.own.now)) (sym c.set_head.ensures.upload) c.requires.staged

pub returns-in-Head-clause-own : goal.returns-in-Head-clause-own
returns-in-Head-clause-own g c = touched_none _ c.args.own.now

pub returns-in-Repositories-clause-own : goal.returns-in-Repositories-clause-own
returns-in-Repositories-clause-own g c = touched_none _ c.args.own.now

pub returns-in-Head-clause-staged : goal.returns-in-Head-clause-staged
returns-in-Head-clause-staged g c = c.requires.staged

pub returns-in-Repositories-clause-staged : goal.returns-in-Repositories-clause-staged
returns-in-Repositories-clause-staged g c = c.requires.staged

pub returns-in-Quota-clause-own : goal.returns-in-Quota-clause-own
returns-in-Quota-clause-own g c = touched_none _ c.args.own.now

pub returns-in-Quota-clause-staged : goal.returns-in-Quota-clause-staged
returns-in-Quota-clause-staged g c = c.requires.staged

pub returns-in-CatFile-clause-own : goal.returns-in-CatFile-clause-own
returns-in-CatFile-clause-own g c = touched _ c.args.own.now c.cat_file.new.own (used [] c.args.own.now c.cat_file.new.own c.cat_file.ensures.own)

pub returns-in-CatFile-clause-staged : goal.returns-in-CatFile-clause-staged
returns-in-CatFile-clause-staged g c = staged_kept_still c.args.own.now.vault.now c.cat_file.new.own.vault.now c.args.own.now.tenant.now c.args.self.now.upload c.cat_file.ensures.own.staged c.requires.staged

pub returns-in-LsTree-clause-own : goal.returns-in-LsTree-clause-own
returns-in-LsTree-clause-own g c = touched _ c.args.own.now c.ls_tree.new.own (used [] c.args.own.now c.ls_tree.new.own c.ls_tree.ensures.own)

pub returns-in-LsTree-clause-staged : goal.returns-in-LsTree-clause-staged
returns-in-LsTree-clause-staged g c = staged_kept_still c.args.own.now.vault.now c.ls_tree.new.own.vault.now c.args.own.now.tenant.now c.args.self.now.upload c.ls_tree.ensures.own.staged c.requires.staged

pub returns-in-RevList-clause-own : goal.returns-in-RevList-clause-own
returns-in-RevList-clause-own g c = touched _ c.args.own.now c.rev_list.new.own (used [] c.args.own.now c.rev_list.new.own c.rev_list.ensures.own)

pub returns-in-RevList-clause-staged : goal.returns-in-RevList-clause-staged
returns-in-RevList-clause-staged g c = staged_kept_still c.args.own.now.vault.now c.rev_list.new.own.vault.now c.args.own.now.tenant.now c.args.self.now.upload c.rev_list.ensures.own.staged c.requires.staged

pub returns-in-MergeBase-clause-own : goal.returns-in-MergeBase-clause-own
returns-in-MergeBase-clause-own g c = touched _ c.args.own.now c.merge_base.new.own (used [] c.args.own.now c.merge_base.new.own c.merge_base.ensures.own)

pub returns-in-MergeBase-clause-staged : goal.returns-in-MergeBase-clause-staged
returns-in-MergeBase-clause-staged g c = staged_kept_still c.args.own.now.vault.now c.merge_base.new.own.vault.now c.args.own.now.tenant.now c.args.self.now.upload c.merge_base.ensures.own.staged c.requires.staged

pub returns-in-Fetch-clause-own : goal.returns-in-Fetch-clause-own
returns-in-Fetch-clause-own g c = touched _ c.args.own.now c.fetch.new.own (used [] c.args.own.now c.fetch.new.own c.fetch.ensures.own)

pub returns-in-Fetch-clause-staged : goal.returns-in-Fetch-clause-staged
returns-in-Fetch-clause-staged g c = staged_kept_still c.args.own.now.vault.now c.fetch.new.own.vault.now c.args.own.now.tenant.now c.args.self.now.upload c.fetch.ensures.own.staged c.requires.staged

pub returns-in-Prune-clause-own : goal.returns-in-Prune-clause-own
returns-in-Prune-clause-own g c = touched _ c.args.own.now c.prune.new.own (used [] c.args.own.now c.prune.new.own c.prune.ensures.own)

pub returns-in-Prune-clause-staged : goal.returns-in-Prune-clause-staged
returns-in-Prune-clause-staged g c = staged_kept_still c.args.own.now.vault.now c.prune.new.own.vault.now c.args.own.now.tenant.now c.args.self.now.upload c.prune.ensures.own.staged c.requires.staged

pub returns-in-Push-clause-own : goal.returns-in-Push-clause-own
returns-in-Push-clause-own g c = rw c.in-Push.is (used _ c.args.own.now c.push.new.own c.push.ensures.own)

pub returns-in-Push-clause-staged : goal.returns-in-Push-clause-staged
returns-in-Push-clause-staged g c =
    subst (λ upload. IsStaged c.args.own.now.vault.now.honest upload (staged_in c.push.new.own.vault.now c.args.own.now.tenant.now)) (sym c.push.ensures.upload)
    (staged_kept_still c.args.own.now.vault.now c.push.new.own.vault.now c.args.own.now.tenant.now c.args.self.now.upload c.push.ensures.own.staged c.requires.staged)

pub returns-in-Part-clause-own : goal.returns-in-Part-clause-own
returns-in-Part-clause-own g c = rw c.in-Part.is c.part.ensures.own

pub returns-in-PartEnd-clause-own : goal.returns-in-PartEnd-clause-own
returns-in-PartEnd-clause-own g c = touched _ c.args.own.now c.part_end.new.own c.part_end.ensures.own

pub returns-in-PartDrop-clause-own : goal.returns-in-PartDrop-clause-own
returns-in-PartDrop-clause-own g c = touched _ c.args.own.now c.part_drop.new.own c.part_drop.ensures.own

pub returns-in-Init-clause-others : goal.returns-in-Init-clause-others
unfolding answer
returns-in-Init-clause-others g c =
    let view = shown_by c.args.self.now c.args.own.now in
    let gives : Gives (answer (nothing_offered c.args.own.now.tenant.now) view (ask_of c.args.request)) view c.init.result (shown c.init.new.self c.args.own.now.vault.now c.args.own.now.tenant.now) = rw c.in-Init.is (c.init.ensures.row (private_by c.args.own.now)) in
    others_gives c.args.own.now.tenant.now view _ (ask_of c.args.request) c.init.result gives

pub returns-in-Drop-clause-others : goal.returns-in-Drop-clause-others
unfolding answer
returns-in-Drop-clause-others g c =
    let view = shown_by c.args.self.now c.args.own.now in
    let gives : Gives (answer (nothing_offered c.args.own.now.tenant.now) view (ask_of c.args.request)) view c.drop_repository.result (shown c.drop_repository.new.self c.args.own.now.vault.now c.args.own.now.tenant.now) = rw c.in-Drop.is (c.drop_repository.ensures.row (private_by c.args.own.now)) in
    others_gives c.args.own.now.tenant.now view _ (ask_of c.args.request) c.drop_repository.result gives

pub returns-in-Fork-clause-others : goal.returns-in-Fork-clause-others
unfolding answer
returns-in-Fork-clause-others g c =
    let view = shown_by c.args.self.now c.args.own.now in
    let gives : Gives (answer (nothing_offered c.args.own.now.tenant.now) view (ask_of c.args.request)) view c.fork.result (shown c.fork.new.self c.args.own.now.vault.now c.args.own.now.tenant.now) = rw c.in-Fork.is (c.fork.ensures.row (private_by c.args.own.now)) in
    others_gives c.args.own.now.tenant.now view _ (ask_of c.args.request) c.fork.result gives

pub returns-in-SetHead-clause-others : goal.returns-in-SetHead-clause-others
unfolding answer
returns-in-SetHead-clause-others g c =
    let view = shown_by c.args.self.now c.args.own.now in
    let gives : Gives (answer (nothing_offered c.args.own.now.tenant.now) view (ask_of c.args.request)) view c.set_head.result (shown c.set_head.new.self c.args.own.now.vault.now c.args.own.now.tenant.now) = rw c.in-SetHead.is (c.set_head.ensures.row (private_by c.args.own.now)) in
    others_gives c.args.own.now.tenant.now view _ (ask_of c.args.request) c.set_head.result gives

pub returns-in-PartDrop-clause-others : goal.returns-in-PartDrop-clause-others
unfolding answer
returns-in-PartDrop-clause-others g c =
    let view = shown_by c.args.self.now c.args.own.now in
    let gives : Gives (answer (nothing_offered c.args.own.now.tenant.now) view (ask_of c.args.request)) view c.part_drop.result (shown c.part_drop.new.self c.part_drop.new.own.vault.now c.args.own.now.tenant.now) = rw c.in-PartDrop.is c.part_drop.ensures.row in
    others_gives c.args.own.now.tenant.now view _ (ask_of c.args.request) c.part_drop.result gives

pub returns-in-UpdateRefs-clause-others : goal.returns-in-UpdateRefs-clause-others
unfolding answer
returns-in-UpdateRefs-clause-others g c =
    let view = shown_by c.args.self.now c.args.own.now in
    let gives : Gives (answer (nothing_offered c.args.own.now.tenant.now) view (ask_of c.args.request)) view c.update_refs.result (shown c.update_refs.new.self c.args.own.now.vault.now c.args.own.now.tenant.now) = rw c.in-UpdateRefs.is c.update_refs.ensures.row in
    others_gives c.args.own.now.tenant.now view _ (ask_of c.args.request) c.update_refs.result gives

pub returns-in-CatFile-clause-others : goal.returns-in-CatFile-clause-others
returns-in-CatFile-clause-others g c = others_made c.args.own.now.tenant.now c.args.self.now c.args.self.now (private_by c.args.own.now) (private_of c.cat_file.new.own.vault.now.tenants c.args.own.now.tenant.now) refl

pub returns-in-LsTree-clause-others : goal.returns-in-LsTree-clause-others
returns-in-LsTree-clause-others g c = others_made c.args.own.now.tenant.now c.args.self.now c.args.self.now (private_by c.args.own.now) (private_of c.ls_tree.new.own.vault.now.tenants c.args.own.now.tenant.now) refl

pub returns-in-RevList-clause-others : goal.returns-in-RevList-clause-others
returns-in-RevList-clause-others g c = others_made c.args.own.now.tenant.now c.args.self.now c.args.self.now (private_by c.args.own.now) (private_of c.rev_list.new.own.vault.now.tenants c.args.own.now.tenant.now) refl

pub returns-in-MergeBase-clause-others : goal.returns-in-MergeBase-clause-others
returns-in-MergeBase-clause-others g c = others_made c.args.own.now.tenant.now c.args.self.now c.args.self.now (private_by c.args.own.now) (private_of c.merge_base.new.own.vault.now.tenants c.args.own.now.tenant.now) refl

pub returns-in-Fetch-clause-others : goal.returns-in-Fetch-clause-others
returns-in-Fetch-clause-others g c = others_made c.args.own.now.tenant.now c.args.self.now c.args.self.now (private_by c.args.own.now) (private_of c.fetch.new.own.vault.now.tenants c.args.own.now.tenant.now) refl

pub returns-in-Prune-clause-others : goal.returns-in-Prune-clause-others
returns-in-Prune-clause-others g c = others_made c.args.own.now.tenant.now c.args.self.now c.args.self.now (private_by c.args.own.now) (private_of c.prune.new.own.vault.now.tenants c.args.own.now.tenant.now) refl

pub returns-in-Push-clause-others : goal.returns-in-Push-clause-others
returns-in-Push-clause-others g c = others_made c.args.own.now.tenant.now c.args.self.now c.push.new.self (private_by c.args.own.now) (private_of c.push.new.own.vault.now.tenants c.args.own.now.tenant.now) c.push.ensures.made

pub returns-in-Part-clause-others : goal.returns-in-Part-clause-others
returns-in-Part-clause-others g c = others_made c.args.own.now.tenant.now c.args.self.now c.part.new.self (private_by c.args.own.now) (private_of c.part.new.own.vault.now.tenants c.args.own.now.tenant.now) c.part.ensures.made

pub returns-in-PartEnd-clause-others : goal.returns-in-PartEnd-clause-others
returns-in-PartEnd-clause-others g c = others_made c.args.own.now.tenant.now c.args.self.now c.part_end.new.self (private_by c.args.own.now) (private_of c.part_end.new.own.vault.now.tenants c.args.own.now.tenant.now) c.part_end.ensures.made

pub returns-in-Offer-clause-row : goal.returns-in-Offer-clause-row
unfolding answer
returns-in-Offer-clause-row g c = record { yields = λ honest. yields_of _ _ _ _ (rw c.in-Offer.is (subst (λ t. Gives (offer_answer (nothing_offered t) (shown_by c.args.self.now c.args.own.now) c.in-Offer.word.now c.in-Offer.receiver.now) (shown_by c.args.self.now c.args.own.now) c.offer.result (shown c.offer.new.self c.args.own.now.vault.now c.args.own.now.tenant.now)) (ap (λ t. t.now) c.tenant.ensures) (c.offer.ensures.row (private_by c.args.own.now)))) }

pub returns-in-Offer-clause-others : goal.returns-in-Offer-clause-others
unfolding answer
returns-in-Offer-clause-others g c =
    let view = shown_by c.args.self.now c.args.own.now in
    let gives : Gives (answer (nothing_offered c.args.own.now.tenant.now) view (ask_of c.args.request)) view c.offer.result (shown c.offer.new.self c.args.own.now.vault.now c.args.own.now.tenant.now) = rw c.in-Offer.is (subst (λ t. Gives (offer_answer (nothing_offered t) (shown_by c.args.self.now c.args.own.now) c.in-Offer.word.now c.in-Offer.receiver.now) (shown_by c.args.self.now c.args.own.now) c.offer.result (shown c.offer.new.self c.args.own.now.vault.now c.args.own.now.tenant.now)) (ap (λ t. t.now) c.tenant.ensures) (c.offer.ensures.row (private_by c.args.own.now))) in
    others_gives c.args.own.now.tenant.now view _ (ask_of c.args.request) c.offer.result gives

pub returns-in-Offer-clause-safe : goal.returns-in-Offer-clause-safe
unfolding answer
returns-in-Offer-clause-safe g c =
    let view = shown_by c.args.self.now c.args.own.now in
    let new = shown c.offer.new.self c.args.own.now.vault.now c.args.own.now.tenant.now in
    let gives : Gives (answer (nothing_offered c.args.own.now.tenant.now) view (ask_of c.args.request)) view c.offer.result new = rw c.in-Offer.is (subst (λ t. Gives (offer_answer (nothing_offered t) (shown_by c.args.self.now c.args.own.now) c.in-Offer.word.now c.in-Offer.receiver.now) (shown_by c.args.self.now c.args.own.now) c.offer.result (shown c.offer.new.self c.args.own.now.vault.now c.args.own.now.tenant.now)) (ap (λ t. t.now) c.tenant.ensures) (c.offer.ensures.row (private_by c.args.own.now))) in
    safe_gives _ c.args.own.now.tenant.now view new (ask_of c.args.request) c.offer.result (bounded_still (sent_by view (ask_of c.args.request)) c.args.own.now.vault.now c.offer.result (quiet_row (nothing_offered c.args.own.now.tenant.now) view new (ask_of c.args.request) c.offer.result gives)) gives

pub returns-in-Withdraw-clause-row : goal.returns-in-Withdraw-clause-row
unfolding answer
returns-in-Withdraw-clause-row g c = record { yields = λ honest. yields_of _ _ _ _ (rw c.in-Withdraw.is (subst (λ t. Gives (withdraw_answer (nothing_offered t) (shown_by c.args.self.now c.args.own.now) c.in-Withdraw.word.now c.in-Withdraw.receiver.now) (shown_by c.args.self.now c.args.own.now) c.withdraw.result (shown c.withdraw.new.self c.args.own.now.vault.now c.args.own.now.tenant.now)) (ap (λ t. t.now) c.tenant-in-Withdraw.ensures) (c.withdraw.ensures.row (private_by c.args.own.now)))) }

pub returns-in-Withdraw-clause-others : goal.returns-in-Withdraw-clause-others
unfolding answer
returns-in-Withdraw-clause-others g c =
    let view = shown_by c.args.self.now c.args.own.now in
    let gives : Gives (answer (nothing_offered c.args.own.now.tenant.now) view (ask_of c.args.request)) view c.withdraw.result (shown c.withdraw.new.self c.args.own.now.vault.now c.args.own.now.tenant.now) = rw c.in-Withdraw.is (subst (λ t. Gives (withdraw_answer (nothing_offered t) (shown_by c.args.self.now c.args.own.now) c.in-Withdraw.word.now c.in-Withdraw.receiver.now) (shown_by c.args.self.now c.args.own.now) c.withdraw.result (shown c.withdraw.new.self c.args.own.now.vault.now c.args.own.now.tenant.now)) (ap (λ t. t.now) c.tenant-in-Withdraw.ensures) (c.withdraw.ensures.row (private_by c.args.own.now))) in
    others_gives c.args.own.now.tenant.now view _ (ask_of c.args.request) c.withdraw.result gives

pub returns-in-Withdraw-clause-safe : goal.returns-in-Withdraw-clause-safe
unfolding answer
returns-in-Withdraw-clause-safe g c =
    let view = shown_by c.args.self.now c.args.own.now in
    let new = shown c.withdraw.new.self c.args.own.now.vault.now c.args.own.now.tenant.now in
    let gives : Gives (answer (nothing_offered c.args.own.now.tenant.now) view (ask_of c.args.request)) view c.withdraw.result new = rw c.in-Withdraw.is (subst (λ t. Gives (withdraw_answer (nothing_offered t) (shown_by c.args.self.now c.args.own.now) c.in-Withdraw.word.now c.in-Withdraw.receiver.now) (shown_by c.args.self.now c.args.own.now) c.withdraw.result (shown c.withdraw.new.self c.args.own.now.vault.now c.args.own.now.tenant.now)) (ap (λ t. t.now) c.tenant-in-Withdraw.ensures) (c.withdraw.ensures.row (private_by c.args.own.now))) in
    safe_gives _ c.args.own.now.tenant.now view new (ask_of c.args.request) c.withdraw.result (bounded_still (sent_by view (ask_of c.args.request)) c.args.own.now.vault.now c.withdraw.result (quiet_row (nothing_offered c.args.own.now.tenant.now) view new (ask_of c.args.request) c.withdraw.result gives)) gives

pub returns-in-Offer-clause-made : goal.returns-in-Offer-clause-made
returns-in-Offer-clause-made g c = λ same. (let differs : true ≡ false = sym (ap (λ r. changes_offers (ask_of r)) c.in-Offer.is) ∙ same in absurd (cc))

pub returns-in-Withdraw-clause-made : goal.returns-in-Withdraw-clause-made
returns-in-Withdraw-clause-made g c = λ same. (let differs : true ≡ false = sym (ap (λ r. changes_offers (ask_of r)) c.in-Withdraw.is) ∙ same in absurd (cc))
