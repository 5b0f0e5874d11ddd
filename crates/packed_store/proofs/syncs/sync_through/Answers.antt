use Rattle.std.proofs.Common.{◌+◌, ◌∙◌}
use Rattle.std.proofs.lemmas.Result.{on_ok_weaker}
use Rattle.packed_store.proofs.LastingLemmas.{sure_joined, sure_one}
use Rattle.packed_store.proofs.SureLemmas.{all_narrowed, narrows_on}
use Rattle.packed_store.proofs.syncs.sync_through.Goals as goal

pub returns-clause-narrows : goal.returns-clause-narrows
returns-clause-narrows g c honest =
    narrows_on (g.D.Device.past c.args.device.now) (g.D.Device.past c.sync_below.new.device) (g.D.Device.past c.sync_segment.new.device)
    (c.sync_below.ensures.narrows honest) (c.sync_segment.ensures.narrows (c.sync_below.ensures.honest ∙ honest))

pub returns-clause-sure : goal.returns-clause-sure
returns-clause-sure g c honest =
    let then = c.sync_below.ensures.honest ∙ honest in
    let mid = g.D.Device.past c.sync_below.new.device in
    let new = g.D.Device.past c.sync_segment.new.device in
    let last = c.args.last in
    on_ok_weaker c.sync_segment.result
    (λ sure none.
    (let less = c.sync_segment.ensures.narrows then in
    sure_joined new c.args.from last (last + 1) (all_narrowed mid new c.args.from last less (c.in_ok-sync_below.ensures.sure honest (less.unfailed none))) (sure_one new last (sure none))))
    (c.sync_segment.ensures.sure then)
