use Rattle.std.proofs.Common.{arith, ap, refl, subst, sym, ◌∙◌}
use Rattle.std.specs.FinMap as map
use Rattle.fork_reach.specs.Objects.{with_objects}
use Rattle.fork_ledger.specs.Private.{with_discarded, with_published}
use Rattle.fork_host.specs.Handle.{both_by}
use Rattle.fork_host.specs.Own.{ChangesTenant, MadeBy}
use Rattle.fork_host.specs.Read.{EachRead, RecallsRead}
use Rattle.fork_host.proofs.HandleLemmas.{of_first, same_own, same_then}
use Rattle.fork_host.proofs.OwnLemmas.{became, changes_still, discarded, here_changed, published, stages_none}
use Rattle.fork_host.proofs.RecallLemmas.{came_all, came_none, came_read}
use Rattle.fork_host.proofs.recalling.recall_all.Goals as goal

pub loop-name-init : goal.loop-name-init
loop-name-init g c =
    let first = c.args.own.now in
    record {
      same = same_own first;
      so_far = came_none first.tenant.now c.args.names.now (both_by first) first.vault.now (stages_none first.vault.now first.tenant.now);
      failures = refl;
    }

pub loop-name-preserved : goal.loop-name-preserved
loop-name-preserved g c =
    let before = c.loop-name.invariant in
    let first = c.args.own.now in
    let old = c.loop-name.own in
    let new = c.recall_read.new.own in
    record {
      same = same_then first old new before.same c.recall_read.ensures.same;
      so_far = came_read first.tenant.now c.name-item.result c.args.names.now c.loop-name.name-index (both_by first) first.vault.now old.vault.now new.vault.now c.args.readings.now c.requires.there c.loop-name-test.true c.name-item.is c.recall_read.ensures.honest
          c.recall_read.ensures.files c.requires.read
          (subst (λ r. RecallsRead old.vault.now.honest r.now c.name-item.result old.vault.now.files old.vault.now.tenants new.vault.now.tenants (map.get c.args.readings.now c.name-item.result)) before.same.tenant c.in-Ok.ensures.recalls) before.so_far;
      failures = c.recall_read.ensures.failures ∙ before.failures;
    }

pub recall_read-requires : goal.recall_read-requires
recall_read-requires g c =
    let before = c.loop-name.invariant in
    let first = c.args.own.now.vault.now in
    let mid = c.loop-name.own.vault.now in
    let readings = c.args.readings.now in
    subst (λ h. EachRead h mid.files readings) (sym before.so_far.stages.honest) (subst (λ f. EachRead first.honest f readings) (sym before.so_far.files) c.requires.read.each)

pub discard-requires : goal.discard-requires
discard-requires g c =
    let before = c.loop-name.invariant in
    let first = c.args.own.now in
    let old = c.loop-name.own.vault.now in
    let mid = c.recall_read.new.own in
    let stays = became old.honest old.tenants mid.vault.now.tenants c.in-Err.ensures.err in
    let still = changes_still first.vault.now old mid.vault.now first.tenant.now stays c.recall_read.ensures.honest before.so_far.stages in
    record { there = ap (λ r. map.contains_key mid.vault.now.tenants r.now) (c.recall_read.ensures.same.tenant ∙ before.same.tenant) ∙ here_changed first.vault.now mid.vault.now first.tenant.now c.requires.there still }

pub returns-in-Err-clause-err : goal.returns-in-Err-clause-err
returns-in-Err-clause-err g c =
    let before = c.loop-name.invariant in
    let first = c.args.own.now in
    let old = c.loop-name.own.vault.now in
    let mid = c.recall_read.new.own in
    let new = c.discard.new.own.vault.now in
    let stays = became old.honest old.tenants mid.vault.now.tenants c.in-Err.ensures.err in
    let still = changes_still first.vault.now old mid.vault.now first.tenant.now stays c.recall_read.ensures.honest before.so_far.stages in
    let same = same_then first c.loop-name.own mid before.same c.recall_read.ensures.same in
    discarded first.vault.now mid.vault.now new first.tenant.now (with_objects (both_by first) before.so_far.came) (here_changed first.vault.now mid.vault.now first.tenant.now c.requires.there still) still
    (of_first first mid (λ t. ChangesTenant t (MadeBy with_discarded) mid.vault.now new) same c.discard.ensures.changes)

pub publish-requires : goal.publish-requires
publish-requires g c =
    let before = c.loop-name.invariant in
    let first = c.args.own.now in
    let mid = c.loop-name.own in
    record { there = ap (λ r. map.contains_key mid.vault.now.tenants r.now) before.same.tenant ∙ here_changed first.vault.now mid.vault.now first.tenant.now c.requires.there before.so_far.stages }

pub returns-clause-ok : goal.returns-clause-ok
returns-clause-ok g c =
    let before = c.loop-name.invariant in
    let first = c.args.own.now in
    let mid = c.loop-name.own in
    let new = c.publish.new.own.vault.now in
    let stages = before.so_far.stages in
    record {
      came = before.so_far.came;
      among = before.so_far.among;
      changes = published first.vault.now mid.vault.now new first.tenant.now (with_objects (both_by first) before.so_far.came) (here_changed first.vault.now mid.vault.now first.tenant.now c.requires.there stages) stages
          (of_first first mid (λ t. ChangesTenant t (MadeBy with_published) mid.vault.now new) before.same c.publish.ensures.changes);
      whole = before.so_far.whole;
      all = came_all first.tenant.now c.args.names.now c.loop-name.name-index (both_by first) first.vault.now mid.vault.now (omega arith) before.so_far;
    }
