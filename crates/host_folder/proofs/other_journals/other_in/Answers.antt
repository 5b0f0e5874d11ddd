use Rattle.std.proofs.Common.{sym, ◌∙◌}
use Rattle.devices.specs.Device.{files_of}
use Rattle.host_folder.specs.OtherJournals.{IsNoOther}
use Rattle.host_folder.proofs.OtherLemmas.{at_end, no_other}
use Rattle.host_folder.proofs.other_journals.other_in.Goals as goal

pub returns-clause-none : goal.returns-clause-none
returns-clause-none g c honest is =
    let shown = files_of (g.D.Device.past c.args.device.now) in
    let rest = c.loop-called.called-iterator.rest in
    no_other shown c.args.name (c.loop-called.invariant honest (at_end (IsNoOther shown c.args.name) (λ called. called.items) rest.items (sym rest.ok.0 ∙ c.in-None.ensures.steps.0)))
