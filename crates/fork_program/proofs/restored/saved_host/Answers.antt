use Rattle.std.proofs.Common.{◌≡◌, None, length, option_map, subst}
use Rattle.std.specs.FinMap.{get}
use Rattle.devices.specs.Device.{files_of}
use Rattle.fork_program.proofs.RestoredLemmas.{host_of_none, none_shown}
use Rattle.fork_program.proofs.restored.saved_host.Goals as goal
use Rattle.host_folder.specs.State.{state_file}

pub returns-in-Ok-clause-shown : goal.returns-in-Ok-clause-shown
returns-in-Ok-clause-shown g c honest trusted =
    let none = none_shown c.len.result c.in-Ok-None.field-0 _ (c.len.ensures honest) c.in-Ok-None.ensures c.in-Ok-None.field-0-is in
    host_of_none _ (get (files_of (g.D.Device.past c.args.device)) state_file) _ (subst (λ path. option_map length (get (files_of (g.D.Device.past c.args.device)) path) ≡ None) c.state_path.ensures none) c.in-Ok.ensures.empty
