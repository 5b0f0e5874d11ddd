use Rattle.std.proofs.Common.{arith, subst}
use Rattle.std.proofs.lemmas.List.{take_all}
use Rattle.std.specs.List.{All}
use Rattle.object_table.specs.Views.{HasRoom}
use Rattle.object_table.proofs.StepLemmas.{all_more, room_more, sets_then}
use Rattle.object_table.proofs.staging.reserve_all.Goals as goal

pub loop-entry-preserved : goal.loop-entry-preserved
loop-entry-preserved c =
    let rows = c.args.table.now.entries in
    let after = c.reserve.new.own in
    record {
      same = sets_then c.args.own.now c.loop-entry.own after c.loop-entry.invariant.same c.reserve.ensures.same;
      room = all_more (λ entry. HasRoom rows after entry.name) c.args.entries.now c.loop-entry.entry-index c.entry-item.result (omega arith) c.entry-item.is
          (λ k d small. room_more rows c.loop-entry.own after _ c.reserve.ensures.room c.reserve.ensures.waits (c.loop-entry.invariant.room k d small)) c.in_ok-reserve.ensures.ok;
    }

pub returns-clause-ok : goal.returns-clause-ok
returns-clause-ok c =
    subst (λ es. All (λ entry. HasRoom c.args.table.now.entries c.loop-entry.own entry.name) es) (take_all c.loop-entry.entry-index c.args.entries.now (omega arith)) c.loop-entry.invariant.room
