use Rattle.std.proofs.Common.{IfOk, IsTrue, OnOk, subst}
use Rattle.devices.specs.Device.{files_of}
use Rattle.fork_program.specs.Repeating.{IsRepeated}
use Rattle.fork_program.proofs.RepeatingLemmas.{started}
use Rattle.fork_program.proofs.restoring.restored_host.Goals as goal
use Rattle.host_folder.specs.OtherJournals.{HasNoOther}

pub returns-clause-start : goal.returns-clause-start
returns-clause-start g c honest trusted =
    let same = c.in_ok-loaded.ensures.device in
    let name = c.in_ok-loaded.loaded.state.name in
    let alone = subst (λ d. IsTrue (g.D.Device.honest d) → OnOk c.replayed.result (HasNoOther (files_of (g.D.Device.past d)) name)) same c.replayed.ensures.alone honest in
    let repeated =
    subst (λ d. IsTrue (g.D.Device.honest d) → IfOk c.replayed.result (λ found. IsRepeated (files_of (g.D.Device.past d)) name c.in_ok-loaded.loaded.host found.0 found.1)) same c.replayed.ensures.repeated honest in
    started _ (files_of (g.D.Device.past c.args.device)) c.in_ok-loaded.loaded.host name c.replayed.result (λ found. found.0) (λ found. found.1) (c.in_ok-loaded.ensures.shown honest trusted) alone (c.in_ok-loaded.ensures.named honest) repeated
