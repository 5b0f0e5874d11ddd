use Rattle.std.proofs.Common.{◌≡◌, ◌≢◌, inl, inr, ◌⊎◌, ◌∙◌, ℕ, List, [], Some, false, subst, sym}
use Rattle.devices.specs.Crash.{folder_has_failed}
use Rattle.fork_program.specs.Journaling.{IsNamed}
use Rattle.fork_program.specs.Saving.{IsStanding}
use Rattle.fork_program.proofs.BegunLemmas.{named}
use Rattle.fork_program.proofs.SavingLemmas.{either_name, if_some_is, only_dropped, stands_still, sure_stands}
use Rattle.fork_program.proofs.saving.put.Goals as goal
use Rattle.host_folder.specs.Appending.{bytes_at}
use Rattle.host_folder.specs.Journal.{journal_part}

pub returns-in_default-clause-each : goal.returns-in_default-clause-each
returns-in_default-clause-each g c text before first honest sure written =
    c.a_settled_part_leaves_one_state.ensures.each before text first (g.D.Device.past c.args.device.now) (g.D.Device.past c.settle_all.new.device) sure written (c.settle_all.ensures.settled honest)

pub returns-clause-each : goal.returns-clause-each
returns-clause-each g c text before first honest sure written =
    c.a_settled_part_leaves_one_state.ensures.each before text first (g.D.Device.past c.args.device.now) (g.D.Device.past c.settle_all.new.device) sure written (c.settle_all.ensures.settled honest)

pub returns-clause-placed : goal.returns-clause-placed
returns-clause-placed g c text first honest differs written unfailed =
    c.a_settled_part_leaves_one_state.ensures.placed text first (g.D.Device.past c.args.device.now) (g.D.Device.past c.settle_all.new.device) written (c.in-Ok.ensures.placed honest differs) unfailed

pub returns-clause-stays : goal.returns-clause-stays
returns-clause-stays g c text before first honest same sure written =
    c.a_settled_part_leaves_one_state.ensures.stays before text first (g.D.Device.past c.args.device.now) (g.D.Device.past c.settle_all.new.device) sure written (c.in-Ok.ensures.dropped honest same)

pub returns-clause-stands : goal.returns-clause-stands
returns-clause-stands g c text first honest written named unfailed = by (either_name c.args.standing c.args.draft.name)
  where
    begun : folder_has_failed first.effects [] ≡ false
    begun = c.a_settled_part_leaves_one_state.ensures.names text first (g.D.Device.past c.args.device.now) (g.D.Device.past c.settle_all.new.device) written (c.settle_all.ensures.settled honest) unfailed

    by : (c.args.standing ≡ Some c.args.draft.name) ⊎ (c.args.standing ≢ Some c.args.draft.name) → IsStanding c.args.draft.name (g.D.Device.past c.settle_all.new.device)
    by (inr differs) = sure_stands text c.args.draft.name (g.D.Device.past c.settle_all.new.device) named
        (c.a_settled_part_leaves_one_state.ensures.placed text first (g.D.Device.past c.args.device.now) (g.D.Device.past c.settle_all.new.device) written (c.in-Ok.ensures.placed honest differs) begun)
    by (inl same) =
        let tries = only_dropped (g.D.Device.past c.args.device.now) (g.D.Device.past c.settle_all.new.device) (c.in-Ok.ensures.dropped honest same) in
        stands_still c.args.draft.name (g.D.Device.past c.args.device.now) (g.D.Device.past c.settle_all.new.device)
        (c.a_tried_part_leaves_the_state.ensures.leaves (g.D.Device.past c.args.device.now) (g.D.Device.past c.settle_all.new.device) tries)
        (if_some_is c.args.standing c.args.draft.name (g.D.Device.honest c.args.device.now) (g.D.Device.past c.args.device.now) same c.requires.standing honest (sym (c.a_tried_part_leaves_the_state.ensures.names (g.D.Device.past c.args.device.now) (g.D.Device.past c.settle_all.new.device) tries) ∙ unfailed))

pub returns-clause-journal : goal.returns-clause-journal
returns-clause-journal g c honest begun =
    let old = g.J.Device.past c.args.draft.begun.journal.writer.device in
    let mid = g.J.Device.past c.settle_all.new.begun.journal.writer.device in
    let new = g.J.Device.past c.clear.new.begun.journal.writer.device in
    let text = bytes_at journal_part old in
    subst (λ (n : List ℕ). IsNamed n text new) c.in-Ok.ensures.name
    (c.clear.ensures.journal text (c.settle_all.ensures.journals ∙ honest) (subst (λ (n : List ℕ). IsNamed n text mid) (sym c.in-Ok.ensures.name) (named c.args.draft.name old mid begun (c.in-Ok.ensures.named honest))))
